-- On the scheduler a chain of store calls is a chain of the order layer's calls: what is proved of every such chain, demand 3 with it, holds of store
-- calls too.
use Prim.Native.Nat.{ℕ}
use mathlib.Core.Path.{◌≡◌, refl, sym, ap, ◌∙◌}
use mathlib.Core.List.{List, [], ◌∷◌, ◌++◌}
use mathlib.Core.Bool.{Bool, true, false, cond}
use lib.ListN.{length}
use lib.Dec.{eqb, ltb}
use Rattle.std.specs.Prelude.{Ok, Err}
use Rattle.model.specs.Choose.{if_ok}
use Rattle.model.specs.Model.{Scheduler, flow_at}
use Rattle.model.specs.Calls.{offered, departed, unless_refused, offer_answer}
use Rattle.model.specs.declared.Refusal.TheVariants.{OutShort, StoreWrong}
use Rattle.model.specs.Replies.{Answer}
use Rattle.model.specs.Chain.{moved, next, chain}
use Rattle.model.specs.OrderCalls.{Call, order_calls}
use Rattle.model.specs.OrderCalls as SizeCall
use Rattle.model.proofs.Chains.{OrderHistory, chain_append}
use Rattle.model.proofs.Chains as OnSizesChain
use Rattle.model.proofs.Choosing.{chosen_twice}
use Rattle.store.specs.Slots.{store_length, out_limit}
use Rattle.store.specs.Calls.{store_offer, store_depart}
use Rattle.store.specs.StoreCalls.{StoreCall, resetting, opening, offering, departing, with_store, does, store_calls}
use Rattle.store.proofs.Lending.{lent_length}
use Rattle.store.proofs.Kept.{StoreHistory, start}

-- The order layer's call that a store call makes on the scheduler; none where it is refused for what is lent.
unfoldable pub on_sizes : StoreCall → List Call
on_sizes resetting = SizeCall.resetting ∷ []
on_sizes (opening f weight) = SizeCall.opening f weight ∷ []
on_sizes (offering f packet n) = cond (eqb n store_length) (SizeCall.offering f (length packet) ∷ []) []
on_sizes (departing n out) = cond (eqb n store_length) (cond (ltb (length out) out_limit) [] (SizeCall.departing ∷ [])) []

unfoldable pub all_on_sizes : List StoreCall → List Call
all_on_sizes [] = []
all_on_sizes (c ∷ calls) = on_sizes c ++ all_on_sizes calls

-- Where the order layer refuses an offer its state is as before, so it does not matter that the store layer asks first.
offer_asked_first : (s : Scheduler) (f size : ℕ) → if_ok (offer_answer f size (flow_at s f)) (offered s f size).state s ≡ (offered s f size).state
unfolding offered unless_refused
offer_asked_first s f size = chosen_twice (offer_answer f size (flow_at s f)) _ s

-- One call.
pub on_sizes_once : (c : StoreCall) (store : List ℕ) (k : OrderHistory) → (does (with_store k.state store) c).state.keeper ≡ (chain order_calls k (on_sizes c)).state
unfolding does on_sizes chain next moved SizeCall.does store_offer store_depart
on_sizes_once resetting store k = refl
on_sizes_once (opening f weight) store k = refl
on_sizes_once (offering f packet n) store k =
    ap (λ (m : ℕ). if_ok (cond {A = Answer} (eqb m store_length) (offer_answer f (length packet) (flow_at k.state f)) (Err StoreWrong)) (offered k.state f (length packet)).state k.state) (lent_length n store)
    ∙ by (eqb n store_length)
  where
    by : (b : Bool) → if_ok (cond {A = Answer} b (offer_answer f (length packet) (flow_at k.state f)) (Err StoreWrong)) (offered k.state f (length packet)).state k.state
        ≡ (chain order_calls k (cond b (SizeCall.offering f (length packet) ∷ []) [])).state
    by true = offer_asked_first k.state f (length packet)
    by false = refl
on_sizes_once (departing n out) store k =
    ap (λ (m : ℕ). if_ok (cond {A = Answer} (eqb m store_length) (cond (ltb (length out) out_limit) (Err OutShort) (Ok tt)) (Err StoreWrong)) (departed k.state).state k.state) (lent_length n store)
    ∙ by (eqb n store_length) (ltb (length out) out_limit)
  where
    by : (b c : Bool) → if_ok (cond {A = Answer} b (cond c (Err OutShort) (Ok tt)) (Err StoreWrong)) (departed k.state).state k.state
        ≡ (chain order_calls k (cond b (cond c [] (SizeCall.departing ∷ [])) [])).state
    by true true = refl
    by true false = refl
    by false true = refl
    by false false = refl

goes_on_sizes : (calls : List StoreCall) (h : StoreHistory) (k : OrderHistory) → h.state.keeper ≡ k.state
    → (chain store_calls h calls).state.keeper ≡ (chain order_calls k (all_on_sizes calls)).state
unfolding chain next moved all_on_sizes
goes_on_sizes [] h k e = e
goes_on_sizes (c ∷ calls) h k e =
    goes_on_sizes calls (next store_calls h c) (chain order_calls k (on_sizes c))
    (ap (λ (s : Scheduler). (does (with_store s h.state.store) c).state.keeper) e ∙ on_sizes_once c h.state.store k)
    ∙ ap (λ (g : OrderHistory). g.state) (sym (chain_append order_calls k (on_sizes c) (all_on_sizes calls)))

-- After any store calls the scheduler is that of the order layer's chain of the same offers and departures.
pub store_calls_are_calls_on_sizes : (store : List ℕ) (calls : List StoreCall)
    → (chain store_calls (start store) calls).state.keeper ≡ (chain order_calls OnSizesChain.start (all_on_sizes calls)).state
store_calls_are_calls_on_sizes store calls = goes_on_sizes calls (start store) OnSizesChain.start refl
