-- `play::report::sent_line` meets its contract.
use Rattle.play.proofs.ReportLaws.{sent_printed}
use Rattle.play.proofs.report.sent_line.Goals as goal

pub returns : goal.returns
returns c = sent_printed _ _ c.field.ensures c.reply.ensures c.push.ensures
