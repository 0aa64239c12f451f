-- Lending the store: only where all of it is lent, and no more, is it the store itself that a call works on; lent and given back untouched, it is as
-- it was.
use Prim.Native.Nat.{ℕ, ◌-◌}
use mathlib.Core.Path.{◌≡◌, refl, sym, ap, ap₂, ◌∙◌}
use mathlib.Core.List.{List, [], ◌++◌, append-nil}
use native.Mathlib.Omega.{arith}
use native.Mathlib.Decide.{dec_le}
use lib.ListN.{length, take, drop, replicate, length-append, length-take, length-drop, length-replicate, take-append-drop, drop_of_length-le}
use lib.Seq.{take_all, take-append_seam, length-take-le}
use Rattle.model.specs.Model.{Scheduler, flow_at}
use Rattle.model.proofs.Refusals.{MayOffer, may_offer}
use Rattle.model.specs.Steps.{next_slot_of}
use Rattle.std.specs.Prelude.{Ok, Err}
use Rattle.model.specs.Replies.{Answer}
use Rattle.store.specs.Calls.{store_offer, store_offer_answer}
use Rattle.store.specs.StoreCalls.{StoreCall, WithStore, resetting, opening, offering, departing, lent, back, does}
use Rattle.store.proofs.CallLaws.{offer_may, offer_refused, offer_stores}
use Rattle.store.proofs.SlotLaws.{written_length}

pub lent_length : (n : ℕ) (store : List ℕ) → length (lent n store) ≡ n
unfolding lent
lent_length n store =
    omega (arith, length-append (take n store) (replicate (n - length store) 0), length-take n store, length-replicate {A = ℕ} (n - length store) 0)

none_more : (n : ℕ) → n ≡ 0 → ◌≡◌ {A = List ℕ} (replicate n 0) []
none_more n e = ap (λ (k : ℕ). replicate k 0) e

pub lent_whole : (n : ℕ) (store : List ℕ) → n ≡ length store → lent n store ≡ store
unfolding lent
lent_whole n store e = ap₂ (λ (l m : List ℕ). l ++ m) (take_all n store (omega arith)) (none_more (n - length store) (omega arith)) ∙ append-nil store

pub back_whole : (n : ℕ) (store bytes : List ℕ) → n ≡ length store → length bytes ≡ length store → back store n bytes ≡ bytes
unfolding back
back_whole n store bytes e l =
    ap₂ (λ (x y : List ℕ). x ++ y) (take_all (length store) bytes (omega arith)) (drop_of_length-le store {i = n} (omega arith)) ∙ append-nil bytes

pub back_untouched : (n : ℕ) (store : List ℕ) → back store n (lent n store) ≡ store
unfolding lent back
back_untouched n store =
    elim (dec_le n (length store)) [
      | yes h ↦
          ap (λ (x : List ℕ). take (length store) (take n store ++ x) ++ drop n store) (none_more (n - length store) (omega arith))
          ∙ ap (λ (x : List ℕ). take (length store) x ++ drop n store) (append-nil (take n store))
          ∙ ap (λ (x : List ℕ). x ++ drop n store) (take_all (length store) (take n store) (omega (arith, length-take-le n store h)))
          ∙ take-append-drop n store
      | no h ↦
          ap₂ (λ (x y : List ℕ). take (length store) (x ++ replicate (n - length store) 0) ++ y) (take_all n store (omega arith)) (drop_of_length-le store {i = n} (omega arith))
          ∙ ap (λ (x : List ℕ). x ++ []) (take-append_seam store (replicate (n - length store) 0))
          ∙ append-nil store
    ]

-- An offer leaves the length of the store.
offer_length : (s : Scheduler) (f : ℕ) (packet store : List ℕ) → length (store_offer s f packet store).store ≡ length store
offer_length s f packet store = by (store_offer_answer s f packet store) refl
  where
    by : (a : Answer) → store_offer_answer s f packet store ≡ a → length (store_offer s f packet store).store ≡ length store
    by (Ok tt) e =
        let may = offer_may s f packet store e in
        let room : MayOffer f (length packet) (flow_at s f) = may_offer f (length packet) (flow_at s f) may.1 in
        ap length (offer_stores s f packet store e)
        ∙ written_length store packet may.0 room.size_small f (next_slot_of (flow_at s f)) room.flow_in_range (omega arith)
        ∙ sym may.0
    by (Err r) e = ap length (offer_refused s f packet store r e).1

-- Every call leaves the length of the store.
pub store_keeps_length : (s : WithStore Scheduler) (c : StoreCall) → length (does s c).state.store ≡ length s.store
unfolding does back
store_keeps_length s resetting = refl
store_keeps_length s (opening f weight) = refl
store_keeps_length s (offering f packet n) =
    omega (
      arith,
      length-append (take (length s.store) (store_offer s.keeper f packet (lent n s.store)).store) (drop n s.store),
      length-take (length s.store) (store_offer s.keeper f packet (lent n s.store)).store,
      length-drop n s.store,
      offer_length s.keeper f packet (lent n s.store),
      lent_length n s.store,
    )
store_keeps_length s (departing n out) = refl
