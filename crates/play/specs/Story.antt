-- What happens in a replay: each event is a call on the scheduler, and what is reported of it.
use Rattle.std.specs.Prelude.{ℕ, ◌+◌, cond, List, [], ◌∷◌, ◌++◌, length, ltb, Result, Ok, Err}
use Rattle.model.specs.Model.{Scheduler, new_scheduler}
use Rattle.model.specs.Calls.{Departures, opened, offered, departures}
use Rattle.model.specs.Replies.{Answer, number_of}
use Rattle.model.specs.declared.Outcome.{Outcome}
use Rattle.model.specs.declared.Refusal.{Refusal}
use Rattle.model.specs.declared.Sent.{Sent}
use Rattle.lines.specs.declared.Event.{Event}
use Rattle.lines.specs.declared.Event.TheVariants.{Flow, Arrive, Send}
use Rattle.play.specs.Script.{Script, ended, spoiled, ◌then◌}

-- What a replay reports.
pub data Report : Type 0 where
  -- a line is none of the three: its number
  bad : ℕ → Report
  -- an event is refused: the refusal's number, and the line's
  refused : ℕ → ℕ → Report
  -- a packet departs: the running number of the departure, and the reply
  sent : ℕ → Sent → Report
  -- nothing is left to depart: the departures so far
  idle : ℕ → Report

-- A replay: its scheduler, and the departures so far.
pub record Replay : Type 0 where
  pub scheduler : Scheduler
  pub departed : ℕ

unfoldable pub new_replay : Replay
new_replay = record { scheduler = new_scheduler; departed = 0 }

-- What an event makes of a replay, and what is reported of it.
pub record Happening : Type 0 where
  pub after : Replay
  pub reports : List Report

-- A refused event is reported, and the replay goes on; nothing is reported of one that is done.
abbrev pub refusal : {T : Type 0} → Result T Refusal → ℕ → List Report
refusal (Ok done) line = []
refusal (Err r) line = refused (number_of r) line ∷ []

unfoldable pub answered : Replay → ℕ → Outcome Scheduler Answer → Happening
answered r line o = record { after = record { scheduler = o.state; departed = r.departed }; reports = refusal o.reply line }

-- Departures are numbered through the whole replay: these come after the first n.
unfoldable pub numbered : ℕ → List Sent → List Report
numbered n [] = []
numbered n (d ∷ more) = sent (n + 1) d ∷ numbered (n + 1) more

-- `send` stops at the first idle, which it met if it made fewer departures than it was asked for.
unfoldable pub departing : Replay → ℕ → Departures → Happening
departing r count d =
    record {
      after = record { scheduler = d.state; departed = r.departed + length d.sent };
      reports = numbered r.departed d.sent ++ cond (ltb (length d.sent) count) (idle (r.departed + length d.sent) ∷ []) [];
    }

unfoldable pub sending : Replay → ℕ → Happening
sending r count = departing r count (departures count r.scheduler)

unfoldable pub happening : Replay → ℕ → Event → Happening
happening r line (Flow flow weight) = answered r line (opened r.scheduler flow weight)
happening r line (Arrive flow size) = answered r line (offered r.scheduler flow size)
happening r line (Send count) = sending r count

-- What is reported from a line on, which has this number. A line that is none of the three ends the replay.
unfoldable pub story : Replay → ℕ → Script → List Report
story r line ended = []
story r line spoiled = bad line ∷ []
story r line (event then more) = (happening r line event).reports ++ story (happening r line event).after (line + 1) more
