-- `print::Page::word` meets its contract.
use Rattle.print.proofs.PutsLaws.{puts_nothing, puts_next}
use Rattle.print.proofs.Page+u8.word.Goals as goal

pub loop-byte-init : goal.loop-byte-init
loop-byte-init c = puts_nothing _

pub loop-byte-preserved : goal.loop-byte-preserved
loop-byte-preserved c = puts_next _ _ _ c.loop-byte-test.true c.loop-byte.invariant c.push.ensures
