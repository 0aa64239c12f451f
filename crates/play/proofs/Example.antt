-- The replay of document 01's worked input prints its six lines.
use mathlib.Core.Path.{◌≡◌, refl}
use Rattle.model.specs.Model.{new_scheduler}
use Rattle.model.specs.Steps.{packet_joined, flow_lined, round_started, turn_opened, surplus_cleared, first_left, turn_kept, raised, turn_closed, excess_kept, settled, served, visit_by, visit}
use Rattle.model.specs.Calls.{put, unless_refused, opened, offered, departed, and_then, departures}
use Rattle.lines.specs.Number.{stands, digit_at, digits_from, number_at}
use Rattle.lines.specs.Line.{past_word, field_at, pair_at, event_at, line_at}
use Rattle.lines.specs.Written.{last_digits, decimal}
use Rattle.play.specs.Script.{script_from, script_of}
use Rattle.play.specs.Story.{new_replay, answered, numbered, departing, sending, happening, story}
use Rattle.play.specs.Transcript.{reply_text, line_of, text_of, reports, transcript}
use Rattle.play.proofs.Worked.{worked_input, worked_lines}

pub worked_example : transcript worked_input ≡ worked_lines
unfolding new_scheduler packet_joined flow_lined round_started turn_opened surplus_cleared first_left turn_kept raised turn_closed excess_kept settled served visit_by visit put unless_refused opened offered departed and_then departures stands digit_at digits_from number_at past_word field_at pair_at event_at line_at last_digits decimal script_from script_of new_replay answered numbered departing sending happening story reply_text line_of text_of reports transcript worked_input worked_lines
worked_example = refl
