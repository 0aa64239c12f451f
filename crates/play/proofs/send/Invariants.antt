-- What is left to send leads where the whole does.
use Prim.Native.Nat.{◌-◌}
use Rattle.play.specs.Course.{desk, reported}
use Rattle.play.specs.Story.{sending}
use Rattle.play.proofs.CourseLaws.{Sends}
use Rattle.play.proofs.send.Given as goal

abbrev pub invariant-loop : goal.invariant-loop
invariant-loop l =
    Sends (reported (desk l.initial.page l.initial.log) (sending l.fn.course l.count).reports) (sending l.fn.course l.count).after l.page l.log l.course-inside.state l.course-inside.sent (l.count - l.counter)
