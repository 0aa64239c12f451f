-- `play::report::idle_line` meets its contract.
use Rattle.play.proofs.ReportLaws.{idle_printed}
use Rattle.play.proofs.report.idle_line.Goals as goal

pub returns : goal.returns
returns c = idle_printed _ c.field.ensures c.push.ensures
