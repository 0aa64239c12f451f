-- Each turn of the loop makes one departure, or ends the burst.
use Rattle.order.specs.Encoding.{state_with, view}
use Rattle.order.proofs.BurstLaws.{Underway}
use Rattle.order.proofs.in_place.burst.Given as goal

abbrev pub invariant-loop-made : goal.invariant-loop-made
invariant-loop-made l =
    Underway (view (state_with l.initial.cells l.initial.r)) l.n l.initial.list (state_with l.cells l.r) l.made l.list
