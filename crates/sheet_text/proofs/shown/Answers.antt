-- `sheet_text::shown` meets its contract.
use Rattle.sheet_text.proofs.RemarkLaws.{control_as_mark, other_as_it_is}
use Rattle.sheet_text.proofs.shown.Goals as goal

pub returns-then-is_ascii_control : goal.returns-then-is_ascii_control
returns-then-is_ascii_control c = control_as_mark _ c.if-is_ascii_control.ensures.cases

pub returns-else-is_ascii_control : goal.returns-else-is_ascii_control
returns-else-is_ascii_control c = other_as_it_is _ c.if-is_ascii_control.ensures.cases
