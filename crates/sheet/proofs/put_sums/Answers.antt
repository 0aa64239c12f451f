-- The place of a page is within its buffer.
use Rattle.std.proofs.Common.{rules}
use Rattle.print.proofs.PutsLaws.{over_within}
use Rattle.sheet.proofs.put_sums.Goals as goal

pub returns-clause-within : goal.returns-clause-within
returns-clause-within c = over_within (record { empty = c.new-page.ensures.empty; holds = search rules }) c.sums.ensures c.past.ensures
