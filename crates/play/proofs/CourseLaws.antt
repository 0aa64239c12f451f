-- From what the scheduler's calls and the printing functions give to what `run` and `send` promise.
use Rattle.order.proofs.BurstLaws.{NoDeparture}
use Prim.Native.Nat.{ℕ, suc, ◌+◌, ◌-◌, ◌^◌, ◌<◌, ◌≤◌}
use native.Mathlib.Omega.{arith}
use mathlib.Core.List.{[], ◌∷◌}
use mathlib.Core.Path.{◌≡◌, refl, sym, ap, ap₂, ◌∙◌, subst}
use Rattle.model.specs.Model.{Scheduler, flow_at}
use Rattle.std.specs.Prelude.{Result, Ok, Err}
use Rattle.model.specs.Calls.{opened, offered, offer_answer, unless_refused, departed}
use Rattle.model.specs.Choose.{ok_with}
use Rattle.model.specs.Replies.{Answer}
use Rattle.model.specs.declared.Outcome.{Outcome}
use Rattle.model.specs.declared.Refusal.{Refusal}
use Rattle.model.specs.declared.Sent.{Sent}
use Rattle.model.specs.declared.Reply.{Reply}
use Rattle.model.specs.declared.Reply.TheVariants.{Departure}
use Rattle.lines.specs.declared.Event.{Event}
use Rattle.lines.specs.declared.Event.TheVariants.{Flow, Arrive, Send}
use Rattle.order.specs.Encoding.{view, Sound}
use Rattle.order.specs.Promised.{answered_as, offered_as, departed_as, OpenGives, OfferGives, DepartGives}
use Rattle.order.specs.declared.Departed.{Departed}
use Rattle.steps.specs.declared.Place.{Place}
use Rattle.order.specs.State.{State}
use Rattle.order.proofs.StateLaws.{open_seen, offer_seen, depart_seen}
use Rattle.play.specs.Course.{Desk, desk, reported, Goes}
use Rattle.print.specs.Puts.{Puts}
use Rattle.print.specs.declared.Page.{Page as Held}
use Rattle.play.specs.Story.{sent, idle, Replay, Happening, refusal, answered, sending, happening}
use Rattle.play.specs.Transcript.{line_of, text_of}
use Rattle.play.proofs.LogLaws.{reported_append, nothing_reported, idle_reported, answer_reported, sent_reported}
use Rattle.play.proofs.StoryLaws.{replay, sending_none, sending_goes_on, sending_ends}

reply_departed : {s : State} {r : Outcome State Departed} → DepartGives s r → r.reply.reply ≡ (departed (view s)).reply
unfolding departed_as
reply_departed g = ap (λ (d : Outcome State Departed). d.reply.reply) g.outcome

-- ---- one event: a flow opened, a packet offered

as_event : {r seen : Replay} (line : ℕ) {page log page' log' : Held ℕ} {next : Replay} (event known : Event) → seen ≡ r → event ≡ known
    → Goes page log (happening seen line known) next page' log' → Goes page log (happening r line event) next page' log'
as_event {r} {seen} line {page} {log} {page'} {log'} {next} event known s e g =
    subst (λ (x : Replay). Goes page log (happening x line event) next page' log') s
    (subst (λ (x : Event). Goes page log (happening seen line x) next page' log') (sym e) g)

-- An answer is printed.
abbrev Prints : {T : Type 0} → ℕ → Held ℕ → Held ℕ → Result T Refusal → Type 0
Prints line page page' answer = Puts (text_of (refusal answer line)) page page'

-- An offer's answer prints what the model's does: the place is not printed.
place_unseen : (a : Answer) (place : Place) (line : ℕ) → refusal (ok_with a place) line ≡ refusal a line
place_unseen (Ok done) place line = refl
place_unseen (Err r) place line = refl

-- Behind an answer only the scheduler has changed.
module _ {course : Replay} (c : State) (n : ℕ) (seen : replay (view c) n ≡ course) (S : Sound c) (line : ℕ) {page : Held ℕ} (log : Held ℕ) {page' : Held ℕ} where
  answer_goes : {T : Type 0} (s : State) (answer : Result T Refusal) → Prints line page page' answer → (o : Outcome Scheduler Answer) → refusal answer line ≡ refusal o.reply line → view s ≡ o.state
      → Goes page log (answered (replay (view c) n) line o) (replay (view s) n) page' log
  unfolding answered
  answer_goes s answer e o a v =
      record {
        reports = answer_reported log answer line e ∙ ap (reported (desk page log)) a;
        arrives = ap (λ (m : Scheduler). replay m n) v;
      }

  pub open_goes : (r : Outcome State Answer) → Prints line page page' r.reply → (event : Event) (f weight : ℕ) → event ≡ Flow f weight → OpenGives c f weight r
      → Goes page log (happening course line event) (replay (view r.state) n) page' log
  unfolding happening answered_as
  open_goes r e event f weight i g =
      as_event line event (Flow f weight) seen i
      (answer_goes r.state r.reply e (opened (view c) f weight) (ap (λ (a : Outcome State Answer). refusal a.reply line) g.outcome) (open_seen S g))

  pub offer_goes : (r : Outcome State (Result Place Refusal)) → Prints line page page' r.reply → (event : Event) (f size : ℕ) → event ≡ Arrive f size → OfferGives c f size r
      → Goes page log (happening course line event) (replay (view r.state) n) page' log
  unfolding happening offered_as offered unless_refused
  offer_goes r e event f size i g =
      as_event line event (Arrive f size) seen i
      (answer_goes r.state r.reply e (offered (view c) f size)
      (ap (λ (a : Outcome State (Result Place Refusal)). refusal a.reply line) g.outcome ∙ place_unseen (offer_answer f size (flow_at (view c) f)) _ line)
      (offer_seen S g))

-- ---- departures

-- What is left of a `send` in its loop leads to this desk and this replay.
pub record Sends (goal : Desk) (end : Replay) (page log : Held ℕ) (s : State) (n left : ℕ) : Type 0 where
  pub sound : Sound s
  pub fits : n + left < 2 ^ 64
  pub reports : reported (desk page log) (sending (replay (view s) n) left).reports ≡ goal
  pub arrives : (sending (replay (view s) n) left).after ≡ end

module _ {goal : Desk} {end : Replay} {page log : Held ℕ} {s : State} {n left : ℕ} (h : Sends goal end page log s n left) where
  pub sends_none : left ≤ 0 → (desk page log ≡ goal) × (replay (view s) n ≡ end)
  sends_none z =
      let none : sending (replay (view s) n) left ≡ record { after = replay (view s) n; reports = [] } = ap (sending (replay (view s) n)) zero_left ∙ sending_none (view s) n in
      (sym (nothing_reported (desk page log)) ∙ ap (λ (x : Happening). reported (desk page log) x.reports) (sym none) ∙ h.reports, ap (λ (x : Happening). x.after) (sym none) ∙ h.arrives)
    where
      zero_left : left ≡ 0
      zero_left = omega arith

  module _ (r : Outcome State Departed) (g : DepartGives s r) where
    pub sends_on : {less : ℕ} → left ≡ suc less → (d : Sent) {page' log' : Held ℕ} → r.reply.reply ≡ Departure d → Puts (line_of (sent (n + 1) d)) page page' → Puts (d.flow ∷ d.size ∷ []) log log'
        → Sends goal end page' log' r.state (n + 1) less
    sends_on {less} one_left d e f k =
        record {
          sound = g.sound;
          fits = omega (arith, h.fits);
          reports =
              ap₂ (λ (x : Desk) (m : Scheduler). reported x (sending (replay m (n + 1)) less).reports) (sent_reported (n + 1) d f k) (depart_seen h.sound g)
              ∙ sym (reported_append (desk page log) (sent (n + 1) d ∷ []) (sending (replay (departed (view s)).state (n + 1)) less).reports)
              ∙ ap (λ (x : Happening). reported (desk page log) x.reports) (sym on)
              ∙ h.reports;
          arrives = ap (λ (m : Scheduler). (sending (replay m (n + 1)) less).after) (depart_seen h.sound g) ∙ ap (λ (x : Happening). x.after) (sym on) ∙ h.arrives;
        }
      where
        on : sending (replay (view s) n) left ≡ record {
          after = (sending (replay (departed (view s)).state (n + 1)) less).after;
          reports = sent (n + 1) d ∷ (sending (replay (departed (view s)).state (n + 1)) less).reports;
        }
        on = ap (sending (replay (view s) n)) one_left ∙ sending_goes_on (view s) n less d (sym (reply_departed g) ∙ e)

    pub sends_idle : {page' : Held ℕ} → 0 < left → NoDeparture r.reply.reply → Puts (line_of (idle n)) page page' → (desk page' log ≡ goal) × (replay (view r.state) n ≡ end)
    sends_idle more k f = (
      idle_reported log n f ∙ ap (λ (x : Happening). reported (desk page log) x.reports) (sym stops) ∙ h.reports,
      ap (λ (m : Scheduler). replay m n) (depart_seen h.sound g) ∙ ap (λ (x : Happening). x.after) (sym stops) ∙ h.arrives,
    )
      where
        one_left : left ≡ suc (left - 1)
        one_left = omega arith

        stops : sending (replay (view s) n) left ≡ record { after = replay (departed (view s)).state n; reports = idle n ∷ [] }
        stops =
            ap (sending (replay (view s) n)) one_left
            ∙ sending_ends (view s) n (left - 1) (subst (λ (x : Reply). NoDeparture x) (reply_departed g) k)

-- where the loop begins, and where the function returns
module _ (course : Replay) (count : ℕ) (page log : Held ℕ) where
  pub sends_begin : (s : State) (n : ℕ) {left : ℕ} → replay (view s) n ≡ course → Sound s → left ≡ count → course.departed + count < 2 ^ 64
      → Sends (reported (desk page log) (sending course count).reports) (sending course count).after page log s n left
  sends_begin s n {left} seen sound e f =
      record {
        sound = sound;
        fits = omega (arith, ap (λ (r : Replay). r.departed) seen);
        reports = ap₂ (λ (r : Replay) (k : ℕ). reported (desk page log) (sending r k).reports) seen e;
        arrives = ap₂ (λ (r : Replay) (k : ℕ). (sending r k).after) seen e;
      }

  pub send_goes : {next : Replay} {page' log' : Held ℕ} → (desk page' log' ≡ reported (desk page log) (sending course count).reports) × (next ≡ (sending course count).after)
      → Goes page log (sending course count) next page' log'
  send_goes e = record { reports = e.0; arrives = e.1 }

pub send_happens : (course : Replay) (count line : ℕ) {page log : Held ℕ} (event : Event) {next : Replay} {page' log' : Held ℕ} → event ≡ Send count
    → Goes page log (sending course count) next page' log' → Goes page log (happening course line event) next page' log'
unfolding happening
send_happens course count line event e g = as_event line event (Send count) refl e g
