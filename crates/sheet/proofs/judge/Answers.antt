-- `sheet::judge` meets its contract: whatever the files hold, one site is judged.
use Rattle.sheet.proofs.MadeLaws.{unread_events, unread_output, read_files}
use Rattle.sheet.proofs.judge.Goals as goal

pub returns-in_default : goal.returns-in_default
returns-in_default g c = unread_events c.with_unread.ensures

pub returns-in_default-contents : goal.returns-in_default-contents
returns-in_default-contents g c = unread_output c.with_unread-in_default-contents.ensures

pub returns : goal.returns
returns g c =
    read_files c.contents.new.buffer c.contents-2.new.buffer c.in-Some.lines c.in-Some-contents.printed c.in-Some.ensures.0 c.in-Some-contents.ensures.0
    c.with_site.ensures
