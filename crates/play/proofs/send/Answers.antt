-- `play::send` meets its contract.
use Rattle.std.proofs.Common.{arith}
use Rattle.play.proofs.CourseLaws.{sends_begin, sends_none, sends_on, sends_idle, send_goes}
use Rattle.play.proofs.send.Goals as goal

pub loop-init : goal.loop-init
loop-init c = sends_begin _ _ _ _ _ _ c.course.view_is c.course.invariant (omega arith) c.requires

pub invariant_of-course : goal.invariant_of-course
invariant_of-course c = c.loop.invariant.sound

pub returns-in_default : goal.returns-in_default
returns-in_default c =
    send_goes _ _ _ _ (sends_idle c.loop.invariant _ c.depart-state.ensures (omega arith) c.in_default.not-Departure c.idle_line.ensures)

pub overflow_add-course : goal.overflow_add-course
overflow_add-course c = omega (arith, c.loop.invariant.fits)

pub loop-preserved : goal.loop-preserved
loop-preserved c =
    sends_on c.loop.invariant _ c.depart-state.ensures (omega arith) _ c.in-Departure.is c.sent_line.ensures c.note.ensures

pub returns : goal.returns
returns c = send_goes _ _ _ _ (sends_none c.loop.invariant (omega arith))
