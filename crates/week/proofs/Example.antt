-- Document 01's worked example as a week of four sites: its output whole, cut off behind the fifth line, with no output at all; and a box that was off.
--     example_sums       what the flows sent, of the one site of the first three that follows
--     example_verdicts   what is said of each
use mathlib.Core.List.{List, [], ◌∷◌}
use mathlib.Core.Path.{◌≡◌, refl}
use lib.ListN.{get_or, take}
use Rattle.model.specs.Model.{new_scheduler}
use Rattle.model.specs.Steps.{packet_joined, flow_lined, round_started, turn_opened, surplus_cleared, first_left, turn_kept, raised, turn_closed, excess_kept, settled, served, visit_by, visit}
use Rattle.model.specs.Calls.{put, unless_refused, opened, offered, departed, and_then, departures}
use Rattle.lines.specs.Number.{stands, digit_at, digits_from, number_at}
use Rattle.lines.specs.Line.{past_word, field_at, pair_at, event_at, line_at}
use Rattle.lines.specs.Written.{last_digits, decimal}
use Rattle.play.specs.Script.{script_from, script_of}
use Rattle.play.specs.Story.{new_replay, answered, numbered, departing, sending, happening, story}
use Rattle.play.specs.Transcript.{reply_text, line_of, text_of, reports, transcript}
use Rattle.play.specs.Log.{departures_in, ending_in, departures_of, ending_of}
use Rattle.play.proofs.Worked.{worked_input, worked_lines}
use Rattle.shares.specs.Share.{of_flow, bytes_of, largest_of, share_of, shares_from, shares_of}
use Rattle.shares.specs.declared.Share.{Share}
use Rattle.week.specs.Site.{Site, output_unread, files, same, follows, common, line_feeds, first_difference, verdict_of, adds, is_summed}
use Rattle.week.specs.Week.{departures_over, summed_among, week_of}
use Rattle.week.specs.declared.Verdict.{Verdict}
use Rattle.week.specs.declared.Verdict.TheVariants.{Follows, Differs, OutputUnread}

unfoldable pub example_week : List Site
example_week = files worked_input worked_lines ∷ files worked_input (take 193 worked_lines) ∷ output_unread ∷ files [] [] ∷ []

abbrev none : Share
none = record { packets = 0; bytes = 0; largest = 0 }

-- flows 0, 1 and 2, and all of them
pub example_sums : (get_or (week_of example_week).shares.flows 0 none ≡ record { packets = 2; bytes = 150; largest = 100 })
    × (get_or (week_of example_week).shares.flows 1 none ≡ record { packets = 3; bytes = 240; largest = 200 })
    × (get_or (week_of example_week).shares.flows 2 none ≡ record { packets = 0; bytes = 0; largest = 0 })
    × ((week_of example_week).shares.total ≡ record { packets = 5; bytes = 390; largest = 200 })
    × ((week_of example_week).summed ≡ 2)
unfolding new_scheduler packet_joined flow_lined round_started turn_opened surplus_cleared first_left turn_kept raised turn_closed excess_kept settled served visit_by visit put unless_refused opened offered departed and_then departures stands digit_at digits_from number_at past_word field_at pair_at event_at line_at last_digits decimal script_from script_of new_replay answered numbered departing sending happening story reply_text line_of text_of reports transcript worked_input worked_lines departures_in ending_in departures_of ending_of of_flow bytes_of largest_of share_of shares_from shares_of same follows common line_feeds first_difference verdict_of adds is_summed departures_over summed_among week_of example_week
example_sums = (refl, refl, refl, refl, refl)

abbrev verdicts_of : List Site → List Verdict
verdicts_of [] = []
verdicts_of (s ∷ more) = verdict_of s ∷ verdicts_of more

pub example_verdicts : verdicts_of example_week ≡ Follows ∷ Differs 6 ∷ OutputUnread ∷ Follows ∷ []
unfolding new_scheduler packet_joined flow_lined round_started turn_opened surplus_cleared first_left turn_kept raised turn_closed excess_kept settled served visit_by visit put unless_refused opened offered departed and_then departures stands digit_at digits_from number_at past_word field_at pair_at event_at line_at last_digits decimal script_from script_of new_replay answered numbered departing sending happening story reply_text line_of text_of reports transcript worked_input worked_lines departures_in ending_in departures_of ending_of same follows common line_feeds first_difference verdict_of example_week
example_verdicts = refl
