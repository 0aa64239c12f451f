-- `print::Page::push` meets its contract: it stores where there is room.
use Rattle.std.proofs.Common.{refl}
use Rattle.print.proofs.PageLaws.{byte_fits, byte_left_off}
use Rattle.print.proofs.Page.push.Goals as goal

pub returns-then-self : goal.returns-then-self
returns-then-self g c = record { same_buffer = refl; puts = byte_fits _ _ _ c.if-self.true }

pub returns-else-self : goal.returns-else-self
returns-else-self g c = record { same_buffer = refl; puts = byte_left_off _ _ _ c.if-self.false }
