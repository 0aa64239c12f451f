-- `sheet_text::share` meets its contract: each field is put behind the one before it.
use Rattle.sheet_text.proofs.SumLaws.{share_printed}
use Rattle.sheet_text.proofs.share.Goals as goal

pub returns : goal.returns
returns c = share_printed _ c.field.ensures c.field-2.ensures c.field-3.ensures c.push.ensures
