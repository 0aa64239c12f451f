-- Which packet goes never depends on stored bytes: what calls say, and the states that they give, depend on the lengths of what is lent alone.
use Prim.Native.Nat.{ℕ}
use mathlib.Core.Path.{◌≡◌, refl, sym, ap, ap₂, ◌∙◌}
use mathlib.Core.List.{List, [], ◌∷◌, map}
use mathlib.Core.Bool.{cond}
use lib.ListN.{length, replicate, length-replicate}
use lib.Dec.{ltb, eqb}
use Rattle.std.specs.Prelude.{Ok, Err}
use Rattle.model.specs.Choose.{if_ok}
use Rattle.model.specs.Model.{Scheduler, flow_at, new_scheduler}
use Rattle.model.specs.Calls.{offer_answer, offered, departed}
use Rattle.model.specs.Replies.{Answer, Said, of_answer, of_reply}
use Rattle.model.specs.declared.Refusal.TheVariants.{OutShort, StoreWrong}
use Rattle.store.specs.Slots.{store_length, out_limit}
use Rattle.store.specs.Calls.{store_offer, store_offer_answer, store_depart, store_depart_answer, unless_short}
use Rattle.model.specs.Chain.{Effect, moved, next, chain, over}
use Rattle.store.specs.StoreCalls.{StoreCall, resetting, opening, offering, departing, WithStore, with_store, lent, Packet, does, store_calls}
use Rattle.store.proofs.Kept.{StoreHistory, start}
use Rattle.store.proofs.Lending.{lent_length, store_keeps_length}

-- A call with every byte lent to it 0.
abbrev pub blanked : StoreCall → StoreCall
blanked resetting = resetting
blanked (opening f weight) = opening f weight
blanked (offering f packet n) = offering f (replicate (length packet) 0) n
blanked (departing n out) = departing n (replicate (length out) 0)

-- What the calls say.
abbrev pub sayings : WithStore Scheduler → List StoreCall → List Said
sayings s calls = over store_calls (λ (e : Effect (WithStore Scheduler) Packet Packet). e.seen.says ∷ []) s calls

-- One call on two stores of the same length.
module _ (s : Scheduler) (a b : List ℕ) (same : length a ≡ length b) where
  -- Two packets of one size are accepted or refused alike.
  offer_blind : (f : ℕ) (p q : List ℕ) → length p ≡ length q
      → ((store_offer s f p a).state ≡ (store_offer s f q b).state) × ((store_offer s f p a).answer ≡ (store_offer s f q b).answer)
  unfolding store_offer
  offer_blind f p q sizes =
      let answer : store_offer_answer s f p a ≡ store_offer_answer s f q b =
      ap₂ (λ (n m : ℕ). cond (eqb n store_length) (offer_answer f m (flow_at s f)) (Err StoreWrong)) same sizes in
      (ap₂ (λ (r : Answer) (m : ℕ). if_ok r (offered s f m).state s) answer sizes, answer)

  depart_blind : (out more : List ℕ) → length out ≡ length more
      → ((store_depart s a out).state ≡ (store_depart s b more).state) × ((store_depart s a out).reply ≡ (store_depart s b more).reply)
  unfolding store_depart
  depart_blind out more sizes =
      let answer : store_depart_answer a out ≡ store_depart_answer b more =
      ap₂ (λ (n m : ℕ). cond (eqb n store_length) (cond (ltb m out_limit) (Err OutShort) (Ok tt)) (Err StoreWrong)) same sizes in
      (ap (λ (r : Answer). if_ok r (departed s).state s) answer, ap (λ (r : Answer). unless_short r (departed s).reply) answer)

module _ (s : Scheduler) (a b : List ℕ) (same : length a ≡ length b) where
  lent_same : (n : ℕ) → length (lent n a) ≡ length (lent n b)
  lent_same n = lent_length n a ∙ sym (lent_length n b)

  as_long : (l : List ℕ) → length l ≡ length {A = ℕ} (replicate (length l) 0)
  as_long l = sym (length-replicate {A = ℕ} (length l) 0)

  says_the_same : (c : StoreCall) → (does (with_store s a) c).seen.says ≡ (does (with_store s b) (blanked c)).seen.says
  unfolding does
  says_the_same resetting = refl
  says_the_same (opening f weight) = refl
  says_the_same (offering f packet n) =
      ap of_answer (offer_blind s (lent n a) (lent n b) (lent_same n) f packet (replicate (length packet) 0) (as_long packet)).1
  says_the_same (departing n out) =
      ap of_reply (depart_blind s (lent n a) (lent n b) (lent_same n) out (replicate (length out) 0) (as_long out)).1

  gives_the_same : (c : StoreCall) → (does (with_store s a) c).state.keeper ≡ (does (with_store s b) (blanked c)).state.keeper
  unfolding does
  gives_the_same resetting = refl
  gives_the_same (opening f weight) = refl
  gives_the_same (offering f packet n) =
      (offer_blind s (lent n a) (lent n b) (lent_same n) f packet (replicate (length packet) 0) (as_long packet)).0
  gives_the_same (departing n out) =
      (depart_blind s (lent n a) (lent n b) (lent_same n) out (replicate (length out) 0) (as_long out)).0

-- Two histories with the same scheduler and stores of the same length.
alike : (calls : List StoreCall) (h k : StoreHistory) → h.state.keeper ≡ k.state.keeper → length h.state.store ≡ length k.state.store
    → (sayings h.state calls ≡ sayings k.state (map blanked calls))
    × ((chain store_calls h calls).state.keeper ≡ (chain store_calls k (map blanked calls)).state.keeper)
unfolding over chain next moved
alike [] h k e l = (refl, e)
alike (c ∷ calls) h k e l =
    let says : (does h.state c).seen.says ≡ (does k.state (blanked c)).seen.says =
    ap (λ (s : Scheduler). (does (with_store s h.state.store) c).seen.says) e ∙ says_the_same k.state.keeper h.state.store k.state.store l c in
    let gives : (does h.state c).state.keeper ≡ (does k.state (blanked c)).state.keeper =
    ap (λ (s : Scheduler). (does (with_store s h.state.store) c).state.keeper) e ∙ gives_the_same k.state.keeper h.state.store k.state.store l c in
    let more =
    alike calls (next store_calls h c) (next store_calls k (blanked c)) gives
    (store_keeps_length h.state c ∙ l ∙ sym (store_keeps_length k.state (blanked c))) in
    (ap₂ (λ (x : Said) (xs : List Said). x ∷ xs) says more.0, more.1)

-- With every byte of the packets and of the outgoing buffers 0, and any store of the same length, the calls say the same and give the same state.
pub no_bytes_choose : (a b : List ℕ) → length a ≡ length b → (calls : List StoreCall)
    → (sayings (with_store new_scheduler a) calls ≡ sayings (with_store new_scheduler b) (map blanked calls))
    × ((chain store_calls (start a) calls).state.keeper ≡ (chain store_calls (start b) (map blanked calls)).state.keeper)
no_bytes_choose a b l calls = alike calls (start a) (start b) refl l

-- So whatever two stores of one length hold at first, the same calls say the same and give the same state.
pub stored_bytes_do_not_choose : (a b : List ℕ) → length a ≡ length b → (calls : List StoreCall)
    → (sayings (with_store new_scheduler a) calls ≡ sayings (with_store new_scheduler b) calls)
    × ((chain store_calls (start a) calls).state.keeper ≡ (chain store_calls (start b) calls).state.keeper)
stored_bytes_do_not_choose a b l calls =
    ((no_bytes_choose a b l calls).0 ∙ sym (no_bytes_choose b b refl calls).0, (no_bytes_choose a b l calls).1 ∙ sym (no_bytes_choose b b refl calls).1)
