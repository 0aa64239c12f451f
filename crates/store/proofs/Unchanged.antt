-- What a refusal and an idle departure leave: scheduler, store and outgoing buffer as they were.
use Prim.Native.Nat.{ℕ, ◌≤◌}
use mathlib.Core.Path.{◌≡◌, refl, sym, ap, ap₂, ◌∙◌}
use mathlib.Core.List.{List, [], ◌∷◌}
use native.Mathlib.Omega.{arith}
use lib.ListN.{length}
use Rattle.std.specs.Prelude.{Ok, Err}
use Rattle.model.specs.Model.{Scheduler, flow_at}
use Rattle.model.specs.Calls.{opened, departed, open_answer}
use Rattle.model.specs.Replies.{Answer, of_answer, of_reply, sent_by}
use Rattle.model.specs.declared.Reply.{Reply}
use Rattle.model.specs.declared.Reply.TheVariants.{Departure, Idle, Refused}
use Rattle.model.proofs.Departing.{idle_stays, never_refused}
use Rattle.model.proofs.Unchanged.{unless_refused_keeps}
use Rattle.store.specs.Calls.{store_offer, store_offer_answer, store_depart, store_depart_answer}
use Rattle.store.specs.StoreCalls.{StoreCall, WithStore, with_store, resetting, opening, offering, departing, lent, back, put_out, does}
use Rattle.store.proofs.CallLaws.{offer_refused, offer_answered, depart_refused, depart_made, sent_nothing}
use Rattle.store.proofs.Lending.{back_untouched}

abbrev pub Unchanged : WithStore Scheduler → StoreCall → Type 0
Unchanged s c = ((does s c).state ≡ s) × ((does s c).seen.back ≡ (does s c).seen.lent)

offer_stays : (s : WithStore Scheduler) (f : ℕ) (packet : List ℕ) (n : ℕ)
    → 1 ≤ (of_answer (store_offer s.keeper f packet (lent n s.store)).answer).refusal
    → with_store (store_offer s.keeper f packet (lent n s.store)).state (back s.store n (store_offer s.keeper f packet (lent n s.store)).store) ≡ s
offer_stays s f packet n refused =
    by (store_offer_answer s.keeper f packet (lent n s.store)) refl (rw (sym (offer_answered s.keeper f packet (lent n s.store))) refused)
  where
    by : (a : Answer) → store_offer_answer s.keeper f packet (lent n s.store) ≡ a → 1 ≤ (of_answer a).refusal
        → with_store (store_offer s.keeper f packet (lent n s.store)).state (back s.store n (store_offer s.keeper f packet (lent n s.store)).store) ≡ s
    by (Ok done) e number = absurd (omega arith)
    by (Err r) e number =
        let stays = offer_refused s.keeper f packet (lent n s.store) r e in
        ap₂ (λ (k : Scheduler) (l : List ℕ). with_store k l) stays.0 (ap (back s.store n) stays.1 ∙ back_untouched n s.store)

-- A departure call with which nothing leaves.
module _ (s : Scheduler) (store out : List ℕ) where
  unsent_stays : sent_by (store_depart s store out).reply ≡ [] → ((store_depart s store out).state ≡ s) × ((store_depart s store out).out ≡ out)
  unsent_stays none = by (store_depart_answer store out) refl
    where
      reply_by : (reply : Reply) → (departed s).reply ≡ reply → store_depart_answer store out ≡ Ok tt
          → ((store_depart s store out).state ≡ s) × ((store_depart s store out).out ≡ out)
      reply_by (Departure d) e z =
          let one : d ∷ [] ≡ [] = sym (ap sent_by ((depart_made s store out z).2 ∙ e)) ∙ none in
          let absurdity : ◌≡◌ {A = ℕ} 1 0 = ap {B = ℕ} length one in absurd (omega arith)
      reply_by Idle e z = (
        (depart_made s store out z).0 ∙ idle_stays s e,
        (depart_made s store out z).1 ∙ sent_nothing s store out (departed s).reply (λ d h. let both : Departure d ≡ Idle = sym h ∙ e in let absurdity : ◌≡◌ {A = ℕ} 0 1 = cc in absurd (omega arith)),
      )
      reply_by (Refused k) e z = absurd (never_refused s k e)

      by : (a : Answer) → store_depart_answer store out ≡ a → ((store_depart s store out).state ≡ s) × ((store_depart s store out).out ≡ out)
      by (Ok tt) z = reply_by (departed s).reply refl z
      by (Err n) z = ((depart_refused s store out n z).0, (depart_refused s store out n z).1)

refused_sends_none : (reply : Reply) → 1 ≤ (of_reply reply).refusal → sent_by reply ≡ []
refused_sends_none (Departure d) refused = absurd (omega arith)
refused_sends_none Idle refused = absurd (omega arith)
refused_sends_none (Refused k) refused = refl

none_put_out : (reply : Reply) (out : List ℕ) → put_out reply out ≡ [] → sent_by reply ≡ []
unfolding put_out
none_put_out (Departure d) out none = let absurdity : ◌≡◌ {A = ℕ} 1 0 = ap {B = ℕ} length none in absurd (omega arith)
none_put_out Idle out none = refl
none_put_out (Refused k) out none = refl

departure_stays : (s : WithStore Scheduler) (n : ℕ) (out : List ℕ) → sent_by (store_depart s.keeper (lent n s.store) out).reply ≡ []
    → (with_store (store_depart s.keeper (lent n s.store) out).state s.store ≡ s) × ((store_depart s.keeper (lent n s.store) out).out ≡ out)
departure_stays s n out none =
    let stays = unsent_stays s.keeper (lent n s.store) out none in
    (ap (λ (k : Scheduler). with_store k s.store) stays.0, stays.1)

-- A refusal changes nothing.
pub refused_unchanged : (s : WithStore Scheduler) (c : StoreCall) → 1 ≤ (does s c).seen.says.refusal → Unchanged s c
unfolding does opened
refused_unchanged s resetting refused = absurd (omega arith)
refused_unchanged s (opening f weight) refused =
    (ap (λ (k : Scheduler). with_store k s.store) (unless_refused_keeps (open_answer f weight (flow_at s.keeper f)) s.keeper _ refused), refl)
refused_unchanged s (offering f packet n) refused = (offer_stays s f packet n refused, refl)
refused_unchanged s (departing n out) refused =
    departure_stays s n out (refused_sends_none (store_depart s.keeper (lent n s.store) out).reply refused)

-- Nor does a departure call with which nothing leaves.
pub unsent_departure_unchanged : (s : WithStore Scheduler) (n : ℕ) (out : List ℕ) → (does s (departing n out)).seen.sends ≡ [] → Unchanged s (departing n out)
unfolding does
unsent_departure_unchanged s n out none =
    departure_stays s n out (none_put_out (store_depart s.keeper (lent n s.store) out).reply (store_depart s.keeper (lent n s.store) out).out none)
