-- One visit, with the line lent, and its flow is stored once the line is back.
use Rattle.order.specs.Encoding.{state_with}
use Rattle.order.proofs.StateLaws.{at_in_reach}
use Rattle.order.proofs.LentLaws.{whose_seen, lent_may_visit, lent_may_put, lent_departed_gives}
use Rattle.order.proofs.in_place.depart.Goals as goal

pub flow_at-flow-requires-clause-flow_in_range : goal.flow_at-flow-requires-clause-flow_in_range
flow_at-flow-requires-clause-flow_in_range c =
    let state = state_with c.args.cells.now c.args.r.now in
    at_in_reach state c.requires c.whose-at.result (whose_seen state c.requires c.whose-at.result c.whose-at.ensures)

pub visit-reply-requires : goal.visit-reply-requires
visit-reply-requires c =
    let state = state_with c.args.cells.now c.args.r.now in
    lent_may_visit state c.requires c.whose-at.result (whose_seen state c.requires c.whose-at.result c.whose-at.ensures) c.flow_at-flow.result c.flow_at-flow.ensures

pub put_flow-requires-clause-all_cells : goal.put_flow-requires-clause-all_cells
put_flow-requires-clause-all_cells c =
    let state = state_with c.args.cells.now c.args.r.now in
    (lent_may_put state c.requires c.whose-at.result (whose_seen state c.requires c.whose-at.result c.whose-at.ensures) c.flow_at-flow.result c.flow_at-flow.ensures c.visit-reply.new.r c.visit-reply.new.x c.visit-reply.result c.visit-reply.new.line c.visit-reply.ensures c.visit-reply.auto.line).0

pub put_flow-requires-clause-flow_in_range : goal.put_flow-requires-clause-flow_in_range
put_flow-requires-clause-flow_in_range c =
    let state = state_with c.args.cells.now c.args.r.now in
    at_in_reach state c.requires c.whose-at.result (whose_seen state c.requires c.whose-at.result c.whose-at.ensures)

pub put_flow-requires-clause-surplus_fits : goal.put_flow-requires-clause-surplus_fits
put_flow-requires-clause-surplus_fits c =
    let state = state_with c.args.cells.now c.args.r.now in
    (lent_may_put state c.requires c.whose-at.result (whose_seen state c.requires c.whose-at.result c.whose-at.ensures) c.flow_at-flow.result c.flow_at-flow.ensures c.visit-reply.new.r c.visit-reply.new.x c.visit-reply.result c.visit-reply.new.line c.visit-reply.ensures c.visit-reply.auto.line).1.1

pub returns : goal.returns
returns c =
    let state = state_with c.args.cells.now c.args.r.now in
    rw c.put_flow.ensures
    (lent_departed_gives state c.requires c.whose-at.result (whose_seen state c.requires c.whose-at.result c.whose-at.ensures) c.flow_at-flow.result c.flow_at-flow.ensures
    c.visit-reply.new.r c.visit-reply.new.x c.visit-reply.result c.visit-reply.new.line c.visit-reply.ensures c.first_place-from.result c.first_place-from.ensures)
