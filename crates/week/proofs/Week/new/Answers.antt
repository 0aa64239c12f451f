-- `week::Week::new` meets its contract: no site, and nothing sent.
use Rattle.week.proofs.WeekLaws.{new_week}
use Rattle.week.proofs.Week.new.Goals as goal

pub returns : goal.returns
returns c = new_week c.new.ensures
