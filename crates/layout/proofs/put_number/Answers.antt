-- The bytes that the library makes of the number are its digits.
use mathlib.Core.Path.{◌∙◌}
use native.Mathlib.Omega.{arith}
use Rattle.layout.proofs.Bytes.{digits_converted, digits_copied}
use Rattle.layout.proofs.put_number.Goals as goal

pub returns : goal.returns
returns c =
    let n = c.args.n in
    let bytes = c.copy_from_slice.ensures.after ∙ c.to_le_bytes.ensures ∙ digits_converted n in
    digits_copied c.args.cells.now c.args.at n (omega arith) bytes c.requires
