-- Every byte is 0.
use Prim.Native.Nat.{ℕ}
use mathlib.Core.Path.{ap, ◌∙◌}
use lib.ListN.{replicate}
use Rattle.houghbreeze.proofs.ResetLaws.{reset_passes}
use Rattle.houghbreeze.proofs.hb_reset.Goals as goal

pub returns : goal.returns
returns c = reset_passes (c.clear.ensures ∙ ap (λ (n : ℕ). replicate n 0) c.told-s)
