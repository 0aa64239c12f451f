-- `play::run` meets its contract: each arm does what its event says.
use Rattle.play.proofs.CourseLaws.{open_goes, offer_goes, send_happens}
use Rattle.play.proofs.run.Goals as goal

pub returns-in-Flow : goal.returns-in-Flow
returns-in-Flow c =
    open_goes _ _ c.course.view_is c.course.invariant _ _ _ c.answer_line.ensures _ _ _ c.in-Flow.is c.open-state.ensures

pub returns-in-Arrive : goal.returns-in-Arrive
returns-in-Arrive c =
    offer_goes _ _ c.course-in-Arrive.view_is c.course-in-Arrive.invariant _ _ _ c.answer_line-in-Arrive.ensures _ _ _ c.in-Arrive.is c.offer-state.ensures

pub returns-in-Send : goal.returns-in-Send
returns-in-Send c = send_happens _ _ _ _ c.in-Send.is c.send.ensures
