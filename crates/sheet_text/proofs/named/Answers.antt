-- `sheet_text::named` meets its contract.
use Rattle.sheet_text.proofs.RemarkLaws.{named_printed}
use Rattle.sheet_text.proofs.named.Goals as goal

pub returns : goal.returns
returns c = named_printed _ c.word.ensures c.shown_name.ensures c.push.ensures
