-- What is reported of an event, and what it makes of a replay, step by step.
use Prim.Native.Nat.{ℕ, zero, suc, ◌+◌, ◌≤◌}
use native.Mathlib.Omega.{arith}
use mathlib.Core.Bool.{Bool, cond}
use mathlib.Core.List.{List, [], ◌∷◌, ◌++◌, append-nil, append_assoc}
use mathlib.Core.Path.{◌≡◌, refl, sym, ap, ap₂, ◌∙◌, subst}
use lib.ListN.{length}
use lib.Dec.{leb-suc-suc}
use borrow.Author.Tests.{lt-ltb}
use Rattle.model.specs.Model.{Scheduler}
use Rattle.model.specs.Calls.{departed, and_then, departures}
use Rattle.model.specs.declared.Sent.{Sent}
use Rattle.std.specs.Prelude.{Result, Ok, Err}
use Rattle.model.specs.Replies.{number_of}
use Rattle.model.specs.declared.Refusal.{Refusal}
use Rattle.model.specs.declared.Reply.{Reply}
use Rattle.model.specs.declared.Reply.TheVariants.{Departure, Idle, Refused as ReplyRefused}
use Rattle.order.proofs.BurstLaws.{NoDeparture, no_departure_ends}
use Rattle.lines.specs.declared.Event.{Event}
use Rattle.lines.specs.declared.Event.TheVariants.{Flow, Arrive, Send}
use Rattle.play.specs.Course.{asked}
use Rattle.print.specs.Puts.{Puts}
use Rattle.print.specs.declared.Page.{Page as Held}
use Rattle.print.proofs.PutsLaws.{puts_nothing}
use Rattle.play.specs.Story.{Report, refused, sent, idle, Replay, refusal, answered, numbered, departing, sending, happening}
use Rattle.play.specs.Transcript.{line_of, text_of}

-- ---- the text of reports

pub text_append : (a b : List Report) → text_of (a ++ b) ≡ text_of a ++ text_of b
unfolding text_of
text_append [] b = refl
text_append (r ∷ a) b = ap (λ (l : List ℕ). line_of r ++ l) (text_append a b) ∙ sym (append_assoc (line_of r) (text_of a) (text_of b))

pub text_of_one : (r : Report) → text_of (r ∷ []) ≡ line_of r
unfolding text_of
text_of_one r = append-nil (line_of r)

-- ---- an answer

module _ {T : Type 0} where
  pub nothing_printed : (p : Held ℕ) (answer : Result T Refusal) (x : T) (line : ℕ) → answer ≡ Ok x → Puts (text_of (refusal answer line)) p p
  unfolding text_of
  nothing_printed p answer x line e = subst (λ (a : Result T Refusal). Puts (text_of (refusal a line)) p p) (sym e) (puts_nothing p)

  pub refusal_printed : {p q : Held ℕ} (answer : Result T Refusal) (r : Refusal) (line : ℕ) → answer ≡ Err r → Puts (line_of (refused (number_of r) line)) p q
      → Puts (text_of (refusal answer line)) p q
  refusal_printed {p} {q} answer r line e f =
      subst (λ (text : List ℕ). Puts text p q) (sym (text_of_one (refused (number_of r) line)) ∙ ap (λ (a : Result T Refusal). text_of (refusal a line)) (sym e)) f

-- ---- departures

abbrev pub replay : Scheduler → ℕ → Replay
replay s n = record { scheduler = s; departed = n }

pub sending_none : (s : Scheduler) (n : ℕ) → sending (replay s n) 0 ≡ record { after = replay s n; reports = [] }
unfolding sending departing departures numbered
sending_none s n = ap (λ (k : ℕ). record { after = replay s k; reports = [] }) (omega arith)

module _ (s : Scheduler) (n k : ℕ) where
  pub sending_goes_on : (d : Sent) → (departed s).reply ≡ Departure d
      → sending (replay s n) (suc k) ≡ record {
        after = (sending (replay (departed s).state (n + 1)) k).after;
        reports = sent (n + 1) d ∷ (sending (replay (departed s).state (n + 1)) k).reports;
      }
  unfolding sending departing departures and_then numbered
  sending_goes_on d e =
      let more = departures k (departed s).state in
      ap (λ (r : Reply). departing (replay s n) (suc k) (and_then r (departed s).state more)) e
      ∙ ap₂ (λ (m : ℕ) (t : Bool). record {
        after = replay more.state m;
        reports = sent (n + 1) d ∷ (numbered (n + 1) more.sent ++ cond t (idle m ∷ []) []);
      }) (omega arith) (leb-suc-suc (suc (length more.sent)) k)

  pub sending_ends : NoDeparture (departed s).reply
      → sending (replay s n) (suc k) ≡ record { after = replay (departed s).state n; reports = idle n ∷ [] }
  unfolding sending departing departures numbered
  sending_ends h =
      ap (departing (replay s n) (suc k)) (no_departure_ends (departed s).reply h (departed s).state (departures k (departed s).state))
      ∙ ap₂ (λ (m : ℕ) (t : Bool). record { after = replay (departed s).state m; reports = cond t (idle m ∷ []) [] }) (omega arith) (lt-ltb 0 (suc k) (omega arith))

-- ---- how many depart

at_most : (n : ℕ) (s : Scheduler) → length (departures n s).sent ≤ n
unfolding departures and_then
at_most zero s = omega arith
at_most (suc n) s = one_more (departed s).reply (at_most n (departed s).state)
  where
    one_more : (r : Reply) → length (departures n (departed s).state).sent ≤ n → length (and_then r (departed s).state (departures n (departed s).state)).sent ≤ suc n
    one_more (Departure d) h = omega arith
    one_more Idle h = omega arith
    one_more (ReplyRefused j) h = omega arith

pub departed_at_most : (r : Replay) (line : ℕ) (event : Event) → (happening r line event).after.departed ≤ r.departed + asked event
unfolding happening answered sending departing
departed_at_most r line (Flow flow weight) = omega arith
departed_at_most r line (Arrive flow size) = omega arith
departed_at_most r line (Send count) = omega (arith, at_most count r.scheduler)
