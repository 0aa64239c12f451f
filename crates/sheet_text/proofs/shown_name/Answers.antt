-- `sheet_text::shown_name` meets its contract.
use Rattle.print.proofs.PutsLaws.{puts_nothing}
use Rattle.sheet_text.proofs.RemarkLaws.{name_goes_on}
use Rattle.sheet_text.proofs.shown_name.Goals as goal

pub loop-byte-init : goal.loop-byte-init
loop-byte-init c = puts_nothing _

pub loop-byte-preserved : goal.loop-byte-preserved
loop-byte-preserved c = name_goes_on _ _ c.loop-byte-test.true c.shown.ensures c.loop-byte.invariant c.push.ensures
