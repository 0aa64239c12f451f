-- The loop clears the bytes one by one.
use Prim.Native.Nat.{◌≤◌}
use mathlib.Core.Path.{◌≡◌}
use lib.ListN.{length}
use Rattle.image.proofs.ImageLaws.{cleared_to}
use Rattle.image.proofs.clear.Given as goal

abbrev pub invariant-loop-byte : goal.invariant-loop-byte
invariant-loop-byte l = (l.byte-index ≤ length l.initial.image) × (l.image ≡ cleared_to l.initial.image l.byte-index)
