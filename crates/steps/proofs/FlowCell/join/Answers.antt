-- The new size is a digit above the others; only a flow that had packets keeps its surplus.
use native.Mathlib.Omega.{arith}
use Rattle.steps.proofs.FlowLaws.{joined_fits, joined_first, joined_behind}
use Rattle.steps.proofs.FlowCell.join.Goals as goal
use Rattle.steps.proofs.FlowCell.join.Goals.{then-at-eq0, else-at-eq0}

pub overflow_mul-self : goal.overflow_mul-self
overflow_mul-self c = omega (arith, joined_fits c.args.self.now c.args.size c.requires c.worth.result c.worth.ensures)

pub overflow_add-self : goal.overflow_add-self
overflow_add-self c =
    let fits = joined_fits c.args.self.now c.args.size c.requires c.worth.result c.worth.ensures in
    elim c.if-at-eq0.branch [
      | then-at-eq0 w ↦ rw w.self-is (omega (arith, fits))
      | else-at-eq0 w ↦ rw w.self-is (omega (arith, fits))
    ]

pub returns : goal.returns
returns c =
    elim c.if-at-eq0.branch [
      | then-at-eq0 w ↦ rw w.self-is (joined_first c.args.self.now c.args.size c.requires c.worth.result c.worth.ensures w.if-at-eq0.true)
      | else-at-eq0 w ↦ rw w.self-is (joined_behind c.args.self.now c.args.size c.requires c.worth.result c.worth.ensures w.if-at-eq0.false)
    ]
