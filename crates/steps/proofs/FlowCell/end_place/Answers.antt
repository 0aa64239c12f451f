-- As many slots on from the first as packets wait.
use native.Mathlib.Omega.{arith}
use Rattle.steps.proofs.FlowLaws.{slot_fits, end_place_law}
use Rattle.steps.proofs.FlowCell.end_place.Goals as goal

pub overflow_add-slot : goal.overflow_add-slot
overflow_add-slot c = omega (arith, slot_fits c.args.self c.requires)

pub returns : goal.returns
returns c = end_place_law c.args.self c.requires c.args.f c.args.size
