-- Each turn of the loop makes one departure, or ends the burst.
use mathlib.Core.Path.{refl}
use Rattle.order.specs.Encoding.{state_with, view}
use Rattle.order.specs.Promised.{left_by}
use Rattle.order.proofs.BurstLaws.{all_made, burst_refused, departure_made, departure_stops}
use Rattle.order.proofs.in_place.burst.Goals as goal

pub returns-then-list-n : goal.returns-then-list-n
returns-then-list-n c = burst_refused (state_with c.args.cells.now c.args.r.now) c.args.n c.args.list.now c.requires c.if-list-n.true

pub returns-in_default : goal.returns-in_default
returns-in_default c =
    let first = state_with c.args.cells.now c.args.r.now in
    departure_stops (view first) c.args.n c.args.list.now (state_with c.loop-made.cells c.loop-made.r) c.loop-made.made c.loop-made.list c.loop-made.invariant c.loop-made-test.true
    (left_by c.depart.new.cells c.depart.new.r c.depart.result) c.depart.ensures c.in_default.not-Departure first refl

pub loop-made-preserved : goal.loop-made-preserved
loop-made-preserved c =
    departure_made (view (state_with c.args.cells.now c.args.r.now)) c.args.n c.args.list.now (state_with c.loop-made.cells c.loop-made.r) c.loop-made.made c.loop-made.list c.loop-made.invariant c.loop-made-test.true
    (left_by c.depart.new.cells c.depart.new.r c.depart.result) c.depart.ensures c.in-Departure.sent c.in-Departure.is

pub returns : goal.returns
returns c =
    let first = state_with c.args.cells.now c.args.r.now in
    all_made (view first) c.args.n c.args.list.now (state_with c.loop-made.cells c.loop-made.r) c.loop-made.made c.loop-made.list c.loop-made.invariant
    c.loop-made-test.false first refl
