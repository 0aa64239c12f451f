-- What is left of the replay leads to all that it reports.
use Rattle.play.specs.Course.{desk, reported}
use Rattle.play.specs.Log.{ending_of}
use Rattle.play.specs.Transcript.{reports}
use Rattle.play.proofs.PlayLaws.{Plays}
use Rattle.play.proofs.replay.Given as goal

abbrev pub invariant-loop-line : goal.invariant-loop-line
invariant-loop-line l =
    Plays (reported (desk l.initial.page l.initial.log) (reports l.input)) (ending_of l.input) l.input l.page l.log l.course l.reader l.line-iterator.start
