-- The line is lent, and one flow is stored once it is back.
use Rattle.std.proofs.lemmas.Result.{err_from_is_err_and}
use Rattle.order.specs.Encoding.{state_with}
use Rattle.order.proofs.LentLaws.{lent_may_offer, lent_may_put_offered, lent_offered_gives, lent_offer_refused_gives}
use Rattle.order.proofs.in_place.offer.Goals as goal

pub offer-requires-clause-round_ready : goal.offer-requires-clause-round_ready
offer-requires-clause-round_ready c = (lent_may_offer (state_with c.args.cells.now c.args.r.now) c.requires c.args.f c.index-at.result c.index-at.ensures c.flow_at-flow.result c.flow_at-flow.ensures).0

pub offer-requires-clause-flow_ready : goal.offer-requires-clause-flow_ready
offer-requires-clause-flow_ready c = (lent_may_offer (state_with c.args.cells.now c.args.r.now) c.requires c.args.f c.index-at.result c.index-at.ensures c.flow_at-flow.result c.flow_at-flow.ensures).1.0

pub offer-requires-clause-line_has_room : goal.offer-requires-clause-line_has_room
offer-requires-clause-line_has_room c = (lent_may_offer (state_with c.args.cells.now c.args.r.now) c.requires c.args.f c.index-at.result c.index-at.ensures c.flow_at-flow.result c.flow_at-flow.ensures).1.1

pub returns-in_err-place : goal.returns-in_err-place
returns-in_err-place c =
    let p = err_from_is_err_and c.from_residual.result c.from_residual.ensures.1 in
    rw (p.1, p.2)
    (lent_offer_refused_gives (state_with c.args.cells.now c.args.r.now) c.requires c.args.f c.index-at.result c.index-at.ensures c.flow_at-flow.result c.flow_at-flow.ensures c.args.size c.offer.new.r c.offer.new.x c.offer.new.line c.in_err-place.field-0.0 (rw (← c.in_err-place.was) c.offer.ensures))

pub put_flow-requires-clause-all_cells : goal.put_flow-requires-clause-all_cells
put_flow-requires-clause-all_cells c =
    (lent_may_put_offered (state_with c.args.cells.now c.args.r.now) c.requires c.args.f c.index-at.result c.index-at.ensures c.flow_at-flow.result c.flow_at-flow.ensures c.args.size c.offer.new.r c.offer.new.x c.offer.new.line c.offer.result c.offer.ensures c.offer.auto.line).0

pub put_flow-requires-clause-surplus_fits : goal.put_flow-requires-clause-surplus_fits
put_flow-requires-clause-surplus_fits c =
    (lent_may_put_offered (state_with c.args.cells.now c.args.r.now) c.requires c.args.f c.index-at.result c.index-at.ensures c.flow_at-flow.result c.flow_at-flow.ensures c.args.size c.offer.new.r c.offer.new.x c.offer.new.line c.offer.result c.offer.ensures c.offer.auto.line).1.1

pub returns : goal.returns
returns c =
    rw c.put_flow.ensures
    (lent_offered_gives (state_with c.args.cells.now c.args.r.now) c.requires c.args.f c.index-at.result c.index-at.ensures c.flow_at-flow.result c.flow_at-flow.ensures c.args.size c.offer.new.r c.offer.new.x c.offer.new.line c.in_ok-place.place (rw (← c.in_ok-place.was) c.offer.ensures))
