-- The line stays as it is.
use Rattle.steps.proofs.FlowLaws.{weight_small}
use Rattle.steps.proofs.RoundLaws.{emptied_law}
use Rattle.steps.specs.Premises.{in_place}
use Rattle.steps.proofs.RoundCell.end_emptied_turn.Goals as goal

pub raised-self-requires : goal.raised-self-requires
raised-self-requires c = (c.requires.weighs, weight_small c.args.left c.requires.flow_ready, c.requires.running_in_range, c.requires.sent_in_range)

pub returns : goal.returns
returns c =
    let raised = c.raised-self in
    λ f line ready. emptied_law (in_place line c.args.self.now) ready c.args.left c.requires.flow_ready f c.args.allowed c.args.sent
    raised.result raised.ensures c.requires.none_wait
