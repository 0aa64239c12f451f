-- The numbers that are read, and the one of the sizes' digits.
use Prim.Native.Nat.{ℕ}
use mathlib.Core.Path.{ap}
use Rattle.layout.specs.Layout.{flow_in}
use Rattle.layout.proofs.flow_at.Goals as goal

pub returns : goal.returns
unfolding flow_in
returns c =
    let x = flow_in c.args.cells.now c.args.f in
    ap (λ (n : ℕ). record { weight = x.weight; surplus = x.surplus; slot = x.slot; waiting = x.waiting; sizes = n })
    c.number_at-sizes.ensures
