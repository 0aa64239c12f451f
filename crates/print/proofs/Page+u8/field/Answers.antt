-- `print::Page::field` meets its contract.
use Rattle.print.proofs.PutsLaws.{puts_behind}
use Rattle.print.proofs.Page+u8.field.Goals as goal

pub returns : goal.returns
returns c = puts_behind c.word.ensures c.decimal.ensures
