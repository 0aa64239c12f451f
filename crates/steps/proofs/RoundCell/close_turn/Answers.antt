-- The flow goes behind the last of the line.
use native.Mathlib.Omega.{arith}
use Rattle.steps.proofs.Encoded.{line_length}
use Rattle.steps.proofs.FlowLaws.{weight_small}
use Rattle.steps.proofs.RoundLaws.{raised_by, rejoined_law}
use Rattle.steps.specs.Premises.{in_place}
use Rattle.steps.proofs.RoundCell.close_turn.Goals as goal

pub bounds-line-self : goal.bounds-line-self
bounds-line-self c = omega (arith, c.requires.line_has_room, line_length c.requires.round_ready)

pub raised_to-self-requires : goal.raised_to-self-requires
raised_to-self-requires c =
    (c.requires.weighs, weight_small c.args.left c.requires.flow_ready, c.requires.round_ready.running_in_range, omega (arith, c.requires.sent_in_range))

pub returns : goal.returns
returns c =
    let raised-to = c.raised_to-self in
    rejoined_law (in_place c.args.line.now c.args.self.now) c.requires.round_ready c.args.left c.requires.flow_ready c.args.f
    c.args.allowed c.args.sent raised-to.result
    (raised_by c.args.self.now.running c.args.left.weight c.args.allowed c.args.sent raised-to.result c.requires.allowance_sent raised-to.ensures)
    (λ e. omega (arith, c.requires.some_wait)) c.requires.line_has_room
