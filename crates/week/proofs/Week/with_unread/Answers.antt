-- `week::Week::with_unread` meets its contract: the site adds nothing.
use Rattle.week.proofs.WeekLaws.{unread_week}
use Rattle.week.proofs.Week.with_unread.Goals as goal

pub returns : goal.returns
returns c sites e = unread_week sites e
