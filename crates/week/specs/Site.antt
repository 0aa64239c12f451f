-- A site of a week: its event lines and the replay's output, each in a file; and whether the output follows from the events.
use Rattle.std.specs.Prelude.{ℕ, ◌+◌, Bool, true, false, cond, List, [], ◌∷◌, Ok, Err, eqb}
use Rattle.model.specs.declared.Sent.{Sent}
use Rattle.play.specs.Transcript.{transcript}
use Rattle.play.specs.Log.{Ending, departures_of, ending_of}
use Rattle.week.specs.declared.Verdict.{Verdict}
use Rattle.week.specs.declared.Verdict.TheVariants.{Follows, Ended, Differs, EventsUnread, OutputUnread}

pub data Site : Type 0 where
  -- the events cannot be read
  events_unread : Site
  -- the events can be read, and the output cannot
  output_unread : Site
  -- both can: the bytes of the events and of the output
  files : List ℕ → List ℕ → Site

-- Two texts are the same, byte for byte.
unfoldable pub same : List ℕ → List ℕ → Bool
same [] [] = true
same [] (y ∷ b) = false
same (x ∷ a) [] = false
same (x ∷ a) (y ∷ b) = cond (eqb x y) (same a b) false

-- An output follows from the events if it is what the replay of the events prints.
unfoldable pub follows : List ℕ → List ℕ → Bool
follows events output = same output (transcript events)

-- the longest common beginning of two texts
unfoldable pub common : List ℕ → List ℕ → List ℕ
common [] b = []
common (x ∷ a) [] = []
common (x ∷ a) (y ∷ b) = cond (eqb x y) (x ∷ common a b) []

-- a line feed is byte 10
unfoldable pub line_feeds : List ℕ → ℕ
line_feeds [] = 0
line_feeds (x ∷ text) = cond (eqb x 10) 1 0 + line_feeds text

-- The line from which on two texts differ: one more than the line feeds in their longest common beginning.
unfoldable pub first_difference : List ℕ → List ℕ → ℕ
first_difference a b = 1 + line_feeds (common a b)

-- A site that follows may have ended in a bad line.
abbrev pub followed : Ending → Verdict
followed (Ok x) = Follows
followed (Err bad_line) = Ended bad_line.0

unfoldable pub verdict_of : Site → Verdict
verdict_of events_unread = EventsUnread
verdict_of output_unread = OutputUnread
verdict_of (files events output) = cond (follows events output) (followed (ending_of events)) (Differs (first_difference output (transcript events)))

-- The departures that a site adds to the sums: those of its replay if it follows, and none otherwise.
unfoldable pub adds : Site → List Sent
adds events_unread = []
adds output_unread = []
adds (files events output) = cond (follows events output) (departures_of events) []

-- Whether a site is in the sums: 1 if it is, 0 if it is left out.
unfoldable pub is_summed : Site → ℕ
is_summed events_unread = 0
is_summed output_unread = 0
is_summed (files events output) = cond (follows events output) 1 0
