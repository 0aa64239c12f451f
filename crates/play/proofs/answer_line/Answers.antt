-- `play::answer_line` meets its contract.
use Rattle.play.proofs.StoryLaws.{nothing_printed, refusal_printed}
use Rattle.play.proofs.answer_line.Goals as goal

pub returns-in-Err : goal.returns-in-Err
returns-in-Err g c = refusal_printed _ _ _ c.in-Err.is c.refused_line.ensures

pub returns-in_default : goal.returns-in_default
returns-in_default g c = nothing_printed _ _ _ _ c.in_default.is
