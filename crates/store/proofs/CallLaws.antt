-- The store calls case by case: by what the checks answer, and by what the order layer replies.
use Prim.Native.Nat.{ℕ, ◌≤◌, ◌<◌}
use mathlib.Core.Path.{◌≡◌, refl, sym, ap, ◌∙◌}
use mathlib.Core.List.{List, ◌++◌}
use mathlib.Core.Bool.{Bool, cond}
use native.Mathlib.Omega.{arith}
use native.Mathlib.Decide.{dec_lt, ℕ_discrete}
use lib.ListN.{length, drop}
use lib.Dec.{ltb}
use borrow.Author.Tests.{eq-eqb, ne_eqb, lt-ltb, le-ltb}
use Rattle.std.specs.Prelude.{Ok, Err}
use Rattle.model.specs.Choose.{if_ok}
use Rattle.model.specs.Replies.{Answer}
use Rattle.model.specs.Model.{Scheduler, flow_at}
use Rattle.model.specs.Steps.{next_slot_of}
use Rattle.model.specs.Calls.{offer_answer, offered, departed, unless_refused}
use Rattle.model.specs.declared.Refusal.{Refusal}
use Rattle.model.specs.declared.Refusal.TheVariants.{OutShort, StoreWrong}
use Rattle.model.specs.declared.Reply.{Reply}
use Rattle.model.specs.declared.Reply.TheVariants.{Departure, Idle, Refused}
use Rattle.model.specs.declared.Sent.{Sent}
use Rattle.model.specs.Rules.{Rules}
use Rattle.model.proofs.Choosing.{ok_chosen, chosen_twice, ok_has}
use Rattle.model.proofs.Refusals.{not_done}
use Rattle.model.proofs.Keeps.{offered_keeps, departed_keeps}
use Rattle.store.specs.Slots.{store_length, out_limit, written, held}
use Rattle.store.specs.Calls.{store_offer_answer, store_offer, store_depart_answer, store_depart, sent_out, unless_short}

module _ (s : Scheduler) (f : ℕ) (packet store : List ℕ) where
  pub offer_wrong_store : (length store ≡ store_length → ⊥) → store_offer_answer s f packet store ≡ Err StoreWrong
  offer_wrong_store d = ap (λ (t : Bool). cond t (offer_answer f (length packet) (flow_at s f)) (Err StoreWrong)) (ne_eqb (length store) store_length d)

  pub offer_right_store : length store ≡ store_length → store_offer_answer s f packet store ≡ offer_answer f (length packet) (flow_at s f)
  offer_right_store e = ap (λ (t : Bool). cond t (offer_answer f (length packet) (flow_at s f)) (Err StoreWrong)) (eq-eqb (length store) store_length e)

  pub offer_may : store_offer_answer s f packet store ≡ Ok tt → (length store ≡ store_length) × (offer_answer f (length packet) (flow_at s f) ≡ Ok tt)
  offer_may e =
      elim (ℕ_discrete (length store) store_length) [
        | yes all ↦ (all, sym (offer_right_store all) ∙ e)
        | no d ↦ absurd (not_done StoreWrong (sym (offer_wrong_store d) ∙ e))
      ]

  -- Where the store has its length, state and answer are the order layer's.
  pub offer_state : length store ≡ store_length → (store_offer s f packet store).state ≡ (offered s f (length packet)).state
  unfolding store_offer offered unless_refused
  offer_state e =
      ap (λ (a : Answer). if_ok a (offered s f (length packet)).state s) (offer_right_store e)
      ∙ chosen_twice (offer_answer f (length packet) (flow_at s f)) _ s

  pub offer_reply : length store ≡ store_length → (store_offer s f packet store).answer ≡ (offered s f (length packet)).reply
  unfolding store_offer offered unless_refused
  offer_reply e = offer_right_store e

  -- By the answer.
  pub offer_refused : (r : Refusal) → store_offer_answer s f packet store ≡ Err r
      → ((store_offer s f packet store).state ≡ s) × ((store_offer s f packet store).store ≡ store)
  unfolding store_offer
  offer_refused r e = (
    ap (λ (a : Answer). if_ok a (offered s f (length packet)).state s) e,
    ap (λ (a : Answer). if_ok a (written store f (next_slot_of (flow_at s f)) packet) store) e,
  )

  pub offer_stores : store_offer_answer s f packet store ≡ Ok tt → (store_offer s f packet store).store ≡ written store f (next_slot_of (flow_at s f)) packet
  unfolding store_offer
  offer_stores e = ok_chosen (store_offer_answer s f packet store) (written store f (next_slot_of (flow_at s f)) packet) store e

  pub offer_writes : length store ≡ store_length
      → (store_offer s f packet store).store
      ≡ if_ok (offer_answer f (length packet) (flow_at s f)) (written store f (next_slot_of (flow_at s f)) packet) store
  unfolding store_offer
  offer_writes e = ap (λ (a : Answer). if_ok a (written store f (next_slot_of (flow_at s f)) packet) store) (offer_right_store e)

  pub offer_answered : (store_offer s f packet store).answer ≡ store_offer_answer s f packet store
  unfolding store_offer
  offer_answered = refl

module _ (s : Scheduler) (store out : List ℕ) where
  pub depart_wrong_store : (length store ≡ store_length → ⊥) → store_depart_answer store out ≡ Err StoreWrong
  depart_wrong_store d = ap (λ (t : Bool). cond t (cond (ltb (length out) out_limit) (Err OutShort) (Ok tt)) (Err StoreWrong)) (ne_eqb (length store) store_length d)

  depart_right_store : length store ≡ store_length → store_depart_answer store out ≡ cond (ltb (length out) out_limit) (Err OutShort) (Ok tt)
  depart_right_store e = ap (λ (t : Bool). cond t (cond (ltb (length out) out_limit) (Err OutShort) (Ok tt)) (Err StoreWrong)) (eq-eqb (length store) store_length e)

  pub depart_short_out : length store ≡ store_length → length out < out_limit → store_depart_answer store out ≡ Err OutShort
  depart_short_out e h = depart_right_store e ∙ ap {B = Answer} (λ (t : Bool). cond t (Err OutShort) (Ok tt)) (lt-ltb (length out) out_limit h)

  pub depart_may : length store ≡ store_length → out_limit ≤ length out → store_depart_answer store out ≡ Ok tt
  depart_may e h = depart_right_store e ∙ ap {B = Answer} (λ (t : Bool). cond t (Err OutShort) (Ok tt)) (le-ltb (length out) out_limit h)

  pub departs : store_depart_answer store out ≡ Ok tt → (length store ≡ store_length) × (out_limit ≤ length out)
  departs e =
      elim (ℕ_discrete (length store) store_length) [
        | yes all ↦
            elim (dec_lt (length out) out_limit) [
              | yes short ↦ absurd (not_done OutShort (sym (depart_short_out all short) ∙ e))
              | no long ↦ (all, omega arith)
            ]
        | no d ↦ absurd (not_done StoreWrong (sym (depart_wrong_store d) ∙ e))
      ]

  -- By the answer.
  pub depart_refused : (r : Refusal) → store_depart_answer store out ≡ Err r
      → ((store_depart s store out).state ≡ s) × ((store_depart s store out).out ≡ out) × ((store_depart s store out).reply ≡ Refused r)
  unfolding store_depart
  depart_refused r e = (
    ap (λ (a : Answer). if_ok a (departed s).state s) e,
    ap (λ (a : Answer). if_ok a (sent_out (departed s).reply s store out) out) e,
    ap (λ (a : Answer). unless_short a (departed s).reply) e,
  )

  pub depart_made : store_depart_answer store out ≡ Ok tt
      → ((store_depart s store out).state ≡ (departed s).state)
      × ((store_depart s store out).out ≡ sent_out (departed s).reply s store out)
      × ((store_depart s store out).reply ≡ (departed s).reply)
  unfolding store_depart
  depart_made e = (
    ap (λ (a : Answer). if_ok a (departed s).state s) e,
    ap (λ (a : Answer). if_ok a (sent_out (departed s).reply s store out) out) e,
    ap (λ (a : Answer). unless_short a (departed s).reply) e,
  )

  -- By the order layer's reply.
  pub sent_departure : (reply : Reply) (d : Sent) → reply ≡ Departure d
      → sent_out reply s store out ≡ held store d.flow (flow_at s d.flow).slot d.size ++ drop d.size out
  unfolding sent_out
  sent_departure reply d e = ap (λ (r : Reply). sent_out r s store out) e

  pub sent_nothing : (reply : Reply) → ((d : Sent) → reply ≡ Departure d → ⊥) → sent_out reply s store out ≡ out
  unfolding sent_out
  sent_nothing (Departure d) no-departure = absurd (no-departure d refl)
  sent_nothing Idle no-departure = refl
  sent_nothing (Refused k) no-departure = refl

-- The store calls keep document 01's rules of the state, as the order layer's do.
pub offer_keeps : (s : Scheduler) (f : ℕ) (packet store : List ℕ) → Rules s → Rules (store_offer s f packet store).state
unfolding store_offer
offer_keeps s f packet store R =
    ok_has Rules (store_offer_answer s f packet store) (offered s f (length packet)).state s (λ e. offered_keeps s f (length packet) R) R

pub depart_keeps : (s : Scheduler) (store out : List ℕ) → Rules s → Rules (store_depart s store out).state
unfolding store_depart
depart_keeps s store out R = ok_has Rules (store_depart_answer store out) (departed s).state s (λ e. departed_keeps s R) R
