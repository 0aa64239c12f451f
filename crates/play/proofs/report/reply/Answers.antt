-- `play::report::reply` meets its contract: each field is put behind the one before it.
use Rattle.play.proofs.ReportLaws.{reply_printed}
use Rattle.play.proofs.report.reply.Goals as goal

pub returns : goal.returns
returns c = reply_printed _ c.field.ensures c.field-2.ensures c.field-3.ensures c.field-4.ensures
