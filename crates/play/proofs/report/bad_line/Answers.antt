-- `play::report::bad_line` meets its contract.
use Rattle.play.proofs.ReportLaws.{bad_printed}
use Rattle.play.proofs.report.bad_line.Goals as goal

pub returns : goal.returns
returns c = bad_printed _ c.field.ensures c.push.ensures
