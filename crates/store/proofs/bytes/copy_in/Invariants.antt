-- The loop copies byte by byte; what it has not reached is as it was.
use mathlib.Core.Path.{◌≡◌}
use lib.ListN.{length}
use Rattle.store.proofs.Copying.{copied}
use Rattle.store.proofs.bytes.copy_in.Given as goal

abbrev pub invariant-loop-i : goal.invariant-loop-i
invariant-loop-i l = (length l.dst ≡ length l.initial.dst) × (l.dst ≡ copied l.initial.dst l.src l.i)
