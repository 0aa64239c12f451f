-- One flow is stored with its weight, and the round stays as it was.
use Rattle.std.proofs.lemmas.Result.{err_from_is_err_and}
use Rattle.order.specs.Encoding.{state_with}
use Rattle.order.proofs.LentLaws.{lent_ready, may_put_opened, lent_opened_gives, lent_open_refused_gives}
use Rattle.order.proofs.in_place.open.Goals as goal

pub open-requires : goal.open-requires
open-requires c = lent_ready (state_with c.args.cells.now c.args.r) c.requires c.args.f c.index-at.result c.index-at.ensures c.flow_at-flow.result c.flow_at-flow.ensures

pub returns-in_err-open : goal.returns-in_err-open
returns-in_err-open c =
    let p = err_from_is_err_and c.from_residual.result c.from_residual.ensures.1 in
    rw (p.1, p.2)
    (lent_open_refused_gives (state_with c.args.cells.now c.args.r) c.requires c.args.f c.index-at.result c.index-at.ensures c.flow_at-flow.result c.flow_at-flow.ensures c.args.weight c.open.new.x c.in_err-open.field-0.0 (rw (← c.in_err-open.was) c.open.ensures))

pub put_opened-requires-clause-weight_fits : goal.put_opened-requires-clause-weight_fits
put_opened-requires-clause-weight_fits c =
    (may_put_opened (state_with c.args.cells.now c.args.r) c.requires c.args.f c.index-at.result c.index-at.ensures c.flow_at-flow.result c.flow_at-flow.ensures c.args.weight c.open.new.x c.open.result c.open.ensures).1.1.0

pub put_opened-requires-clause-surplus_fits : goal.put_opened-requires-clause-surplus_fits
put_opened-requires-clause-surplus_fits c =
    (may_put_opened (state_with c.args.cells.now c.args.r) c.requires c.args.f c.index-at.result c.index-at.ensures c.flow_at-flow.result c.flow_at-flow.ensures c.args.weight c.open.new.x c.open.result c.open.ensures).1.1.1

pub returns : goal.returns
returns c =
    rw c.put_opened.ensures
    (lent_opened_gives (state_with c.args.cells.now c.args.r) c.requires c.args.f c.index-at.result c.index-at.ensures c.flow_at-flow.result c.flow_at-flow.ensures c.args.weight c.open.new.x (rw (← c.in_ok-open.was) c.open.ensures))
