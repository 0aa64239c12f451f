-- `play::report::refused_line` meets its contract.
use Rattle.play.proofs.ReportLaws.{refused_printed}
use Rattle.play.proofs.report.refused_line.Goals as goal

pub returns : goal.returns
returns c = refused_printed _ _ (rw (← c.from.ensures, ← c.from-2.ensures) c.field.ensures) c.field-2.ensures c.push.ensures
