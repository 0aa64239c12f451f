-- Demand 2 on bytes: whatever calls are made on one site and one store, for each flow the packets accepted since the last reset are those that left
-- followed by those that wait, byte for byte and in order.
use Prim.Native.Nat.{ℕ}
use mathlib.Core.Path.{◌≡◌, sym, ap, ◌∙◌}
use mathlib.Core.List.{List, [], ◌∷◌, ◌++◌, append_assoc}
use lib.ListN.{length}
use Rattle.model.specs.Rules.{Rules}
use Rattle.model.proofs.Keeps.{new_keeps, opened_keeps}
use Rattle.store.specs.Slots.{store_length}
use Rattle.model.specs.Model.{new_scheduler}
use Rattle.model.specs.Replies.{taken_by}
use Rattle.model.specs.Chain.{HistoryOf, begin, moved, next, chain}
use Rattle.store.specs.Calls.{store_offer}
use Rattle.store.specs.StoreCalls.{StoreCall, resetting, opening, offering, departing, with_store, lent, Packet, does, store_calls, bytes_of, waiting_bytes}
use Rattle.store.proofs.Balances.{new_waits_for_nothing, open_balances, offer_balances, depart_balances}
use Rattle.store.proofs.CallLaws.{offer_keeps, depart_keeps}
use Rattle.store.proofs.Lending.{store_keeps_length}
use Rattle.store.proofs.WaitingLaws.{bytes_append}

-- The balance, over the packets accepted and left before.
over_history : (accepted left a l : List Packet) (f : ℕ) (before after : List (List ℕ)) → bytes_of f accepted ≡ bytes_of f left ++ before
    → before ++ bytes_of f a ≡ bytes_of f l ++ after → bytes_of f (accepted ++ a) ≡ bytes_of f (left ++ l) ++ after
over_history accepted left a l f before after e b =
    bytes_append f accepted a
    ∙ ap (λ (k : List (List ℕ)). k ++ bytes_of f a) e
    ∙ append_assoc (bytes_of f left) before (bytes_of f a)
    ∙ ap (λ (k : List (List ℕ)). bytes_of f left ++ k) b
    ∙ sym (append_assoc (bytes_of f left) (bytes_of f l) after)
    ∙ ap (λ (k : List (List ℕ)). k ++ after) (sym (bytes_append f left l))

abbrev pub StoreHistory : Type 0
StoreHistory = HistoryOf store_calls

-- A new scheduler, and a store that may hold anything.
abbrev pub start : List ℕ → StoreHistory
start store = begin (with_store new_scheduler store)

-- What holds of every history: the state is one that calls give, the store has its length, and the bytes are kept.
pub record Kept (h : StoreHistory) : Type 0 where
  pub rules : Rules h.state.keeper
  pub whole : length h.state.store ≡ store_length
  pub kept : (f : ℕ) → bytes_of f h.accepted ≡ bytes_of f h.left ++ waiting_bytes h.state.keeper h.state.store f

start_kept : (store : List ℕ) → length store ≡ store_length → Kept (start store)
unfolding bytes_of
start_kept store whole = record { rules = new_keeps; whole = whole; kept = λ f. sym (new_waits_for_nothing store f) }

-- Every call keeps it.
pub next_kept : (h : StoreHistory) (c : StoreCall) → Kept h → Kept (next store_calls h c)
unfolding next moved does bytes_of
next_kept h resetting K = record { rules = new_keeps; whole = K.whole; kept = λ f. sym (new_waits_for_nothing h.state.store f) }
next_kept h (opening f weight) K =
    record {
      rules = opened_keeps h.state.keeper f weight K.rules;
      whole = K.whole;
      kept = λ g. over_history h.accepted h.left [] [] g _ _ (K.kept g) (open_balances h.state.keeper K.rules h.state.store f weight g);
    }
next_kept h (offering f packet n) K =
    record {
      rules = offer_keeps h.state.keeper f packet (lent n h.state.store) K.rules;
      whole = store_keeps_length h.state (offering f packet n) ∙ K.whole;
      kept = λ g.
          over_history h.accepted h.left
          (taken_by (store_offer h.state.keeper f packet (lent n h.state.store)).answer (record { flow = f; bytes = packet })) [] g _ _ (K.kept g)
          (offer_balances h.state.keeper K.rules h.state.store K.whole f packet n g);
    }
next_kept h (departing n out) K =
    record {
      rules = depart_keeps h.state.keeper (lent n h.state.store) out K.rules;
      whole = K.whole;
      kept = λ g. over_history h.accepted h.left [] _ g _ _ (K.kept g) (depart_balances h.state.keeper K.rules h.state.store K.whole n out g);
    }

chain_kept : (calls : List StoreCall) (h : StoreHistory) → Kept h → Kept (chain store_calls h calls)
unfolding chain
chain_kept [] h K = K
chain_kept (c ∷ calls) h K = chain_kept calls (next store_calls h c) (next_kept h c K)

-- Whatever the store held at first and whatever calls are made.
pub every_history_kept : (store : List ℕ) → length store ≡ store_length → (calls : List StoreCall) → Kept (chain store_calls (start store) calls)
every_history_kept store whole calls = chain_kept calls (start store) (start_kept store whole)

-- For every flow, the bytes accepted, packet by packet, are those that left followed by those that wait in the flow's slots.
pub bytes_kept : (store : List ℕ) → length store ≡ store_length → (calls : List StoreCall) (f : ℕ)
    → bytes_of f (chain store_calls (start store) calls).accepted
    ≡ bytes_of f (chain store_calls (start store) calls).left
    ++ waiting_bytes (chain store_calls (start store) calls).state.keeper (chain store_calls (start store) calls).state.store f
bytes_kept store whole calls f = (every_history_kept store whole calls).kept f
