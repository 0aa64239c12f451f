-- The digits above the lowest move down.
use native.Mathlib.Omega.{arith}
use Rattle.steps.proofs.FlowLaws.{first_left_law}
use Rattle.steps.specs.Cells.{view_flow}
use Rattle.steps.proofs.FlowCell.let_first_leave.Goals as goal

pub overflow_add-self : goal.overflow_add-self
unfolding view_flow
overflow_add-self c = omega (arith, c.requires.ready.rules.slot_in_range)

pub returns : goal.returns
returns c = first_left_law c.args.self.now c.requires
