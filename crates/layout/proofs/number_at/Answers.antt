-- The number that the library makes of the bytes is the one of their digits.
use Prim.Native.Nat.{ℕ, ◌+◌, ◌-◌}
use mathlib.Core.Path.{◌≡◌, ap, ◌∙◌}
use native.Mathlib.Omega.{arith}
use lib.ListN.{length, take, drop}
use Rattle.layout.specs.Bytes.{sizes_room, number}
use Rattle.layout.proofs.Bytes.{number_converted}
use Rattle.layout.proofs.number_at.Goals as goal

pub returns : goal.returns
returns c =
    let at = c.args.at in
    let eight : at + sizes_room - at ≡ sizes_room = omega arith in
    let whole = rw c.unwrap.ensures at c.as_array.ensures.cases in
    let same : c.unwrap.result.now ≡ take sizes_room (drop at c.args.cells.now) =
    whole.same ∙ ap (λ (n : ℕ). take n (drop at c.args.cells.now)) eight in
    c.from_le_bytes.ensures ∙ number_converted c.unwrap.result.now (ap length whole.same ∙ whole.long) ∙ ap number same
