-- Every bench row holds: what the model says to each row's calls is what the row has.
use mathlib.Core.Path.{◌≡◌, refl}
use mathlib.Core.List.{map}
use Rattle.model.proofs.Rows.{rows, recomputed, answers, numbers_of}
use Rattle.model.specs.Model.{new_scheduler}
use Rattle.model.specs.Steps.{packet_joined, flow_lined, round_started, turn_opened, surplus_cleared, first_left, turn_kept, raised, turn_closed, excess_kept, settled, served, visit_by, visit}
use Rattle.model.specs.Calls.{put, unless_refused, opened, offered, departed, and_then, departures, burst_made, burst}
use Rattle.model.specs.OrderCalls.{turn_then, turns_of, does}

pub bench_rows : map recomputed rows ≡ rows
unfolding rows recomputed answers numbers_of new_scheduler packet_joined flow_lined round_started turn_opened surplus_cleared first_left turn_kept raised turn_closed excess_kept settled served visit_by visit put unless_refused opened offered departed and_then departures burst_made burst turn_then turns_of does
bench_rows = refl
