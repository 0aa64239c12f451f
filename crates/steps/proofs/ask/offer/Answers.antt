-- Not refused, the flow has room for the packet, and the line for the flow.
use mathlib.Core.Path.{sym, ◌∙◌}
use Rattle.std.proofs.lemmas.Result.{err_from_is_err_and}
use Rattle.steps.proofs.AskLaws.{has_room_here, offered_law, offer_refused_law}
use Rattle.steps.specs.Premises.{in_place}
use Rattle.steps.proofs.ask.offer.Goals as goal

pub returns-in_err-offer_answer : goal.returns-in_err-offer_answer
returns-in_err-offer_answer c =
    let p = err_from_is_err_and c.from_residual.result c.from_residual.ensures.1 in
    rw (p.1, p.2)
    (offer_refused_law c.args.x.now c.args.f c.requires.flow_ready c.args.size (in_place c.args.line.now c.args.r.now) c.requires.round_ready
    c.in_err-offer_answer.field-0.0 (sym (c.in_err-offer_answer.was) ∙ c.offer_answer.ensures))

pub join-requires : goal.join-requires
join-requires c =
    has_room_here c.args.x.now c.args.f c.requires.flow_ready c.args.size (sym (c.in_ok-offer_answer.was) ∙ c.offer_answer.ensures)

pub returns : goal.returns
returns c =
    offered_law c.args.x.now c.args.f c.requires.flow_ready c.args.size (in_place c.args.line.now c.args.r.now)
    (in_place c.line_up.new.line c.line_up.new.self) c.join.new.self c.end_place-place.result
    (sym (c.in_ok-offer_answer.was) ∙ c.offer_answer.ensures) c.line_up.ensures c.join.ensures c.end_place-place.ensures
