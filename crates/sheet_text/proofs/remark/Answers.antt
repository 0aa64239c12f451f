-- `sheet_text::remark` meets its contract: each arm says what its verdict says.
use Rattle.sheet_text.proofs.RemarkLaws.{nothing_remarked, ended_remarked, differs_remarked, events_remarked, output_remarked}
use Rattle.sheet_text.proofs.remark.Goals as goal

pub returns-in-Follows : goal.returns-in-Follows
returns-in-Follows c = nothing_remarked _ _ _ _ c.in-Follows.is

pub returns-in-Ended : goal.returns-in-Ended
returns-in-Ended c = ended_remarked _ _ _ _ c.in-Ended.is c.site_line.ensures c.named.ensures

pub returns-in-Differs : goal.returns-in-Differs
returns-in-Differs c = differs_remarked _ _ _ _ c.in-Differs.is c.site_line-in-Differs.ensures c.named-in-Differs.ensures

pub returns-in-EventsUnread : goal.returns-in-EventsUnread
returns-in-EventsUnread c = events_remarked _ _ _ c.in-EventsUnread.is c.field.ensures c.word.ensures c.named-in-EventsUnread.ensures

pub returns-in-OutputUnread : goal.returns-in-OutputUnread
returns-in-OutputUnread c =
    output_remarked _ _ _ c.in-OutputUnread.is c.field-in-OutputUnread.ensures c.word-in-OutputUnread.ensures c.named-in-OutputUnread.ensures
