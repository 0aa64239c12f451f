-- `play::log::note` meets its contract: the size is noted behind the flow.
use Rattle.print.proofs.PutsLaws.{puts_behind}
use Rattle.play.proofs.log.note.Goals as goal

pub returns : goal.returns
returns c = puts_behind c.push.ensures c.push-2.ensures
