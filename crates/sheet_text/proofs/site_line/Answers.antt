-- `sheet_text::site_line` meets its contract.
use Rattle.print.proofs.PutsLaws.{puts_behind}
use Rattle.sheet_text.proofs.site_line.Goals as goal

pub returns : goal.returns
returns c = puts_behind c.field.ensures c.field-2.ensures
