-- Each byte is small enough for its place in the sum, which is the number.
use native.Mathlib.Omega.{arith}
use mathlib.Core.Path.{◌∙◌}
use Rattle.layout.proofs.Bytes.{sum_is_number}
use Rattle.image.proofs.pair_at.Goals as goal

pub returns : goal.returns
returns c = c.from_le_bytes.ensures ∙ omega arith ∙ sum_is_number c.args.image.now c.args.at 1 (omega arith)
