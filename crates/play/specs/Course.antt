-- What an event makes of a replay and of the pages that it is told on; and what the whole replay gives.
use Rattle.std.specs.Prelude.{ℕ, List, ◌≡◌}
use Rattle.std.specs.Borrow.{GName}
use Rattle.lines.specs.declared.Event.{Event}
use Rattle.lines.specs.declared.Event.TheVariants.{Flow, Arrive, Send}
use Rattle.print.specs.Page.{Page, put, Printed}
use Rattle.print.specs.Puts.{lent, stands_for}
use Rattle.print.specs.declared.Page.{Page as Held}
use Rattle.play.specs.Story.{Report, Replay, Happening}
use Rattle.play.specs.Transcript.{text_of, transcript}
use Rattle.play.specs.Log.{departures_in, departures_of, ending_of, log_of}
use Rattle.play.specs.declared.Told.{Told}

-- the departures that an event asks for
abbrev pub asked : Event → ℕ
asked (Flow flow weight) = 0
asked (Arrive flow size) = 0
asked (Send count) = count

-- The two pages of a replay: what is reported is printed on one, and its departures are noted on the other. Each keeps the buffer that is lent to it.
pub record Desk : Type 0 where
  pub printed : Page ℕ
  pub log : Page ℕ
  pub printed_in : GName
  pub noted_in : GName

abbrev pub desk : Held ℕ → Held ℕ → Desk
desk page log = record { printed = stands_for page; log = stands_for log; printed_in = lent page; noted_in = lent log }

unfoldable pub reported : Desk → List Report → Desk
reported k reports = record k { printed = put k.printed (text_of reports); log = put k.log (log_of (departures_in reports)) }

-- From one desk to the next: what happens is reported behind what was reported before, and the replay is the one after it.
pub record Goes (page log : Held ℕ) (h : Happening) (next : Replay) (page' log' : Held ℕ) : Type 0 where
  pub reports : desk page' log' ≡ reported (desk page log) h.reports
  pub arrives : next ≡ h.after

-- The whole replay of an input: its transcript is printed and its departures are noted, as far as the buffers have room, and its ending is told.
pub record Tells (input out log : List ℕ) (r : Told) (out' log' : List ℕ) : Type 0 where
  pub printed : Printed (transcript input) out out' r.written
  pub noted : Printed (log_of (departures_of input)) log log' r.noted
  pub ended : r.ending ≡ ending_of input
