-- The departures of a replay, which a log notes as numbers, and how the replay ended.
use Rattle.std.specs.Prelude.{ℕ, ◌/◌, ◌<◌, ◌≤◌, List, [], ◌∷◌, Result, Ok, Err}
use Rattle.model.specs.Limits.{flow_limit, size_limit}
use Rattle.model.specs.declared.Sent.{Sent}
use Rattle.play.specs.Story.{Report, bad, refused, sent, idle}
use Rattle.play.specs.Transcript.{input_limit, reports}
use Rattle.play.specs.declared.BadLine.{BadLine}

-- The departures among reports, in order.
unfoldable pub departures_in : List Report → List Sent
departures_in [] = []
departures_in (bad line ∷ more) = departures_in more
departures_in (refused k line ∷ more) = departures_in more
departures_in (sent n d ∷ more) = d ∷ departures_in more
departures_in (idle n ∷ more) = departures_in more

-- How a replay ends: at the end of its input, or in a bad line.
abbrev pub Ending : Type 0
Ending = Result (Unit {0}) BadLine

-- A bad line ends a replay; without one it comes to the end of the input.
unfoldable pub ending_in : List Report → Ending
ending_in [] = Ok tt
ending_in (bad line ∷ more) = Err (record { 0 = line })
ending_in (refused k line ∷ more) = ending_in more
ending_in (sent n d ∷ more) = ending_in more
ending_in (idle n ∷ more) = ending_in more

-- The departures of the replay of an input, and how it ends.
unfoldable pub departures_of : List ℕ → List Sent
departures_of input = departures_in (reports input)

unfoldable pub ending_of : List ℕ → Ending
ending_of input = ending_in (reports input)

-- A log has two numbers for each departure: its flow and its size.
unfoldable pub log_of : List Sent → List ℕ
log_of [] = []
log_of (d ∷ more) = d.flow ∷ d.size ∷ log_of more

-- What holds of the departures in a log, so that it can be read: flows are below 32, and no size is above 256.
unfoldable pub InRange : List Sent → Type 0
InRange [] = Unit {0}
InRange (d ∷ more) = (d.flow < flow_limit) × (d.size ≤ size_limit) × InRange more

-- A log of so many numbers holds the departures of every input, as `log_fits` shows.
abbrev pub log_limit : ℕ
log_limit = input_limit / 8
