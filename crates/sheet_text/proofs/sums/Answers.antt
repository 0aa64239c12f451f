-- `sheet_text::sums` meets its contract: the flows' lines, then the total's, then the sites'.
use Rattle.sheet_text.proofs.SumLaws.{sums_printed}
use Rattle.sheet_text.proofs.sums.Goals as goal

pub returns : goal.returns
returns c = sums_printed _ c.flow_lines.ensures c.field.ensures c.share.ensures c.field-2.ensures c.field-3.ensures c.push.ensures
