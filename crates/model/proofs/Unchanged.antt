-- What a refusal, an idle departure and a burst that makes no departure leave: the state and the lent list as they were.
use Prim.Native.Nat.{ℕ, zero, suc, ◌≤◌}
use mathlib.Core.Path.{◌≡◌, refl, sym, ap}
use mathlib.Core.List.{List, []}
use native.Mathlib.Omega.{arith}
use lib.ListN.{length}
use lib.Dec.{ltb}
use Rattle.std.specs.Prelude.{Ok, Err}
use Rattle.model.specs.Model.{Scheduler, flow_at}
use Rattle.model.specs.Calls.{Burst, Departures, opened, offered, departed, departures, and_then, burst, burst_made, unless_refused, open_answer, offer_answer}
use Rattle.model.specs.Replies.{Answer, of_answer, of_reply, of_count, sent_by, made_by}
use Rattle.model.specs.OrderCalls.{Call, resetting, opening, offering, departing, bursting, does}
use Rattle.model.specs.declared.Reply.{Reply}
use Rattle.model.specs.declared.Reply.TheVariants.{Departure, Idle, Refused}
use Rattle.model.specs.declared.Sent.{Sent}
use Rattle.model.proofs.Choosing.{tested_has}
use Rattle.model.proofs.Departing.{idle_stays, never_refused}

abbrev pub Unchanged : Scheduler → Call → Type 0
Unchanged s c = ((does s c).state ≡ s) × ((does s c).seen.back ≡ (does s c).seen.lent)

pub unless_refused_keeps : (a : Answer) (s t : Scheduler) → 1 ≤ (of_answer (unless_refused a s t).reply).refusal → (unless_refused a s t).state ≡ s
unfolding unless_refused
unless_refused_keeps (Ok done) s t refused = absurd (omega arith)
unless_refused_keeps (Err r) s t refused = refl

no_refusal : (s : Scheduler) (reply : Reply) → (departed s).reply ≡ reply → 1 ≤ (of_reply reply).refusal → ⊥
no_refusal s (Departure d) e refused = absurd (omega arith)
no_refusal s Idle e refused = absurd (omega arith)
no_refusal s (Refused k) e refused = never_refused s k e

burst_refused : (s : Scheduler) (n : ℕ) (list : List ℕ) → 1 ≤ (of_count (burst s n list).reply).refusal → ((burst s n list).state ≡ s) × ((burst s n list).list ≡ list)
unfolding burst burst_made
burst_refused s n list =
    tested_has (λ (b : Burst). 1 ≤ (of_count b.reply).refusal → (b.state ≡ s) × (b.list ≡ list)) (ltb (length list) n) _ (burst_made list (departures n s))
    (λ refused. (refl, refl))
    (λ e refused. absurd (omega arith))

-- A refusal changes nothing.
pub refused_unchanged : (s : Scheduler) (c : Call) → 1 ≤ (does s c).seen.says.refusal → Unchanged s c
unfolding does opened offered
refused_unchanged s resetting refused = absurd (omega arith)
refused_unchanged s (opening f weight) refused = (unless_refused_keeps (open_answer f weight (flow_at s f)) s _ refused, refl)
refused_unchanged s (offering f size) refused = (unless_refused_keeps (offer_answer f size (flow_at s f)) s _ refused, refl)
refused_unchanged s departing refused = absurd (no_refusal s (departed s).reply refl refused)
refused_unchanged s (bursting n list) refused = burst_refused s n list refused

unsent_stays : (s : Scheduler) (reply : Reply) → (departed s).reply ≡ reply → sent_by reply ≡ [] → (departed s).state ≡ s
unsent_stays s (Departure d) e none = let z : ◌≡◌ {A = ℕ} 0 1 = ap {B = ℕ} length (sym none) in absurd (omega arith)
unsent_stays s Idle e none = idle_stays s e
unsent_stays s (Refused k) e none = absurd (never_refused s k e)

none_made_stays : (n : ℕ) (s : Scheduler) → (departures n s).sent ≡ [] → (departures n s).state ≡ s
unfolding departures and_then
none_made_stays zero s none = refl
none_made_stays (suc n) s none = by (departed s).reply refl none
  where
    by : (reply : Reply) → (departed s).reply ≡ reply → (and_then reply (departed s).state (departures n (departed s).state)).sent ≡ []
        → (and_then reply (departed s).state (departures n (departed s).state)).state ≡ s
    by (Departure d) e none = let z : ◌≡◌ {A = ℕ} 0 (suc (length (departures n (departed s).state).sent)) = ap {B = ℕ} length (sym none) in absurd (omega arith)
    by Idle e none = idle_stays s e
    by (Refused k) e none = absurd (never_refused s k e)

-- What a burst leaves in its list, by how many departures it makes.
none_written : (list : List ℕ) (d : Departures) → d.sent ≡ [] → (burst_made list d).list ≡ list
unfolding burst_made
none_written list d none = ap (λ (sent : List Sent). (burst_made list (record { state = d.state; sent = sent })).list) none

unsent_burst_stays : (s : Scheduler) (n : ℕ) (list : List ℕ) → made_by (burst s n list).reply (departures n s).sent ≡ []
    → ((burst s n list).state ≡ s) × ((burst s n list).list ≡ list)
unfolding burst burst_made
unsent_burst_stays s n list =
    tested_has (λ (b : Burst). made_by b.reply (departures n s).sent ≡ [] → (b.state ≡ s) × (b.list ≡ list)) (ltb (length list) n) _ (burst_made list (departures n s))
    (λ none. (refl, refl))
    (λ e none. (none_made_stays n s none, none_written list (departures n s) none))

-- A departure call with which nothing leaves changes nothing, nor does such a burst: at idle, and where none is asked for.
pub unsent_departure_unchanged : (s : Scheduler) → (does s departing).seen.sends ≡ [] → Unchanged s departing
unfolding does
unsent_departure_unchanged s none = (unsent_stays s (departed s).reply refl none, refl)

pub unsent_burst_unchanged : (s : Scheduler) (n : ℕ) (list : List ℕ) → (does s (bursting n list)).seen.sends ≡ [] → Unchanged s (bursting n list)
unfolding does
unsent_burst_unchanged s n list none = unsent_burst_stays s n list none
