-- A chain of store calls beside the order layer's chain of the same offers and departures: call by call the states agree, and so do the flows and the
-- lengths of what leaves, the turns completed and who waits.
use Prim.Native.Nat.{ℕ, ◌≤◌}
use mathlib.Core.Path.{◌≡◌, refl, sym, ap, ap₂, ◌∙◌, subst}
use mathlib.Core.List.{List, [], ◌∷◌, ◌++◌, append-nil}
use mathlib.Core.Bool.{Bool, true, false, cond}
use native.Mathlib.Omega.{arith}
use lib.ListN.{length}
use lib.Dec.{eqb, ltb}
use Rattle.std.specs.Prelude.{Ok, Err}
use Rattle.model.specs.Choose.{if_ok}
use Rattle.model.specs.Model.{Scheduler}
use Rattle.model.specs.Calls.{departed}
use Rattle.model.specs.Replies.{Answer, sent_by}
use Rattle.model.specs.Rules.{Rules}
use Rattle.model.specs.Chain.{moved, next, chain, over}
use Rattle.model.specs.OrderCalls.{Call, packets_of, Packet as SizedPacket, turn_then, order_calls}
use Rattle.model.specs.OrderCalls as SizeCall
use Rattle.model.specs.declared.Refusal.TheVariants.{OutShort, StoreWrong}
use Rattle.model.specs.declared.Sent.{Sent}
use Rattle.model.specs.declared.Reply.{Reply}
use Rattle.model.specs.declared.Reply.TheVariants.{Departure, Idle, Refused}
use Rattle.model.proofs.Chains.{OrderHistory, chain_append}
use Rattle.account.specs.Stretch.{left_over, Waiting, WaitingAfterEvery, sent_in, turns_in}
use Rattle.account.proofs.Bursts.{sent_from, turns_from, sent_append, turns_append, waiting_append}
use Rattle.store.specs.Slots.{store_length, out_limit}
use Rattle.store.specs.Calls.{AfterDeparture, store_depart, store_depart_answer}
use Rattle.store.specs.StoreCalls.{StoreCall, resetting, opening, offering, departing, WithStore, with_store, lent, Packet, does, store_calls}
use Rattle.store.proofs.CallLaws.{depart_refused, depart_made}
use Rattle.store.proofs.Lending.{lent_length}
use Rattle.store.proofs.Balances.{taken, as_many_held, first_taken, none_taken}
use Rattle.store.proofs.Kept.{StoreHistory, Kept, next_kept}
use Rattle.store.proofs.OnSizes.{on_sizes, all_on_sizes, on_sizes_once}
use Rattle.site_account.proofs.Packets.{sized, sized_append, packets_append}

-- ---- what leaves with one call, and the turn that it completes

-- What a store departure answers, by whether all of the store is lent and whether the outgoing buffer is too short.
abbrev answer_where : Bool → Bool → Answer
answer_where whole short = cond whole (cond short (Err OutShort) (Ok tt)) (Err StoreWrong)

-- A store departure is the order layer's where it is not refused for what is lent, and otherwise no call.
departure_on_sizes : (store : List ℕ) (n : ℕ) (out : List ℕ) → on_sizes (departing n out) ≡ if_ok (store_depart_answer (lent n store) out) (SizeCall.departing ∷ []) []
unfolding on_sizes
departure_on_sizes store n out =
    by (eqb n store_length) (ltb (length out) out_limit)
    ∙ ap (λ (m : ℕ). if_ok (answer_where (eqb m store_length) (ltb (length out) out_limit)) (SizeCall.departing ∷ []) []) (sym (lent_length n store))
  where
    by : (whole short : Bool) → cond whole (cond short [] (SizeCall.departing ∷ [])) [] ≡ if_ok (answer_where whole short) (SizeCall.departing ∷ []) []
    by true true = refl
    by true false = refl
    by false true = refl
    by false false = refl

module _ (k : OrderHistory) (R : Rules k.state) (store : List ℕ) (whole : length store ≡ store_length) (n : ℕ) (out : List ℕ) where
  abbrev made : AfterDeparture
  made = store_depart k.state (lent n store) out

  nothing_sent : sent_by made.reply ≡ [] → sized (taken made) ≡ []
  nothing_sent e = ap sized (none_taken k.state R store whole n out made e)

  -- Of a packet that leaves as many bytes are copied as the reply tells.
  departure_sent : sized (taken made) ≡ packets_of (sent_from k (on_sizes (departing n out)))
  unfolding over left_over SizeCall.does
  departure_sent =
      by (store_depart_answer (lent n store) out) refl
      ∙ ap (λ (l : List Call). packets_of (sent_from k l)) (sym (departure_on_sizes store n out))
    where
      reply_by : (r : Reply) → (departed k.state).reply ≡ r → store_depart_answer (lent n store) out ≡ Ok tt → sized (taken made) ≡ packets_of (sent_by r ++ [])
      reply_by (Departure d) e z =
          ap sized (first_taken k.state R store whole n out z d e)
          ∙ ap (λ (m : ℕ). record { flow = d.flow; size = m } ∷ []) (as_many_held k.state R store whole n out z d e)
      reply_by Idle e z = nothing_sent (ap sent_by ((depart_made k.state (lent n store) out z).2 ∙ e))
      reply_by (Refused m) e z = nothing_sent (ap sent_by ((depart_made k.state (lent n store) out z).2 ∙ e))

      by : (a : Answer) → store_depart_answer (lent n store) out ≡ a
          → sized (taken made) ≡ packets_of (sent_from k (if_ok a (SizeCall.departing ∷ []) []))
      by (Ok tt) z = reply_by (departed k.state).reply refl z
      by (Err r) e = nothing_sent (ap sent_by (depart_refused k.state (lent n store) out r e).2)

  departure_turns : turn_then made.reply made.state.round.turn [] ≡ turns_from k (on_sizes (departing n out))
  unfolding over SizeCall.does SizeCall.turns_of turn_then
  departure_turns = by (store_depart_answer (lent n store) out) refl ∙ ap (turns_from k) (sym (departure_on_sizes store n out))
    where
      by : (a : Answer) → store_depart_answer (lent n store) out ≡ a
          → turn_then made.reply made.state.round.turn [] ≡ turns_from k (if_ok a (SizeCall.departing ∷ []) [])
      by (Ok tt) z =
          ap₂ (λ (r : Reply) (t : Scheduler). turn_then r t.round.turn []) (depart_made k.state (lent n store) out z).2 (depart_made k.state (lent n store) out z).0
          ∙ sym (append-nil (turn_then (departed k.state).reply (departed k.state).state.round.turn []))
      by (Err r) e = ap (λ (q : Reply). turn_then q made.state.round.turn []) (depart_refused k.state (lent n store) out r e).2

module _ (k : OrderHistory) (R : Rules k.state) (store : List ℕ) (whole : length store ≡ store_length) where
  call_sent : (c : StoreCall) → sized (does (with_store k.state store) c).seen.sends ≡ packets_of (sent_from k (on_sizes c))
  unfolding does on_sizes over left_over SizeCall.does
  call_sent resetting = refl
  call_sent (opening f weight) = refl
  call_sent (offering f packet n) = by (eqb n store_length)
    where
      by : (b : Bool) → [] ≡ packets_of (sent_from k (cond b (SizeCall.offering f (length packet) ∷ []) []))
      by true = refl
      by false = refl
  call_sent (departing n out) = departure_sent k R store whole n out

  call_turns : (c : StoreCall) → (does (with_store k.state store) c).completes ≡ turns_from k (on_sizes c)
  unfolding does on_sizes over SizeCall.does
  call_turns resetting = refl
  call_turns (opening f weight) = refl
  call_turns (offering f packet n) = by (eqb n store_length)
    where
      by : (b : Bool) → [] ≡ turns_from k (cond b (SizeCall.offering f (length packet) ∷ []) [])
      by true = refl
      by false = refl
  call_turns (departing n out) = departure_turns k R store whole n out

-- ---- what has left since the last reset

-- The order layer forgets what has left with the same calls.
call_left : (k : OrderHistory) (s : WithStore Scheduler) (c : StoreCall)
    → (chain order_calls k (on_sizes c)).left ≡ cond (does s c).seen.forgets [] k.left ++ sent_from k (on_sizes c)
unfolding on_sizes does chain next moved over left_over SizeCall.does
call_left k s resetting = refl
call_left k s (opening f weight) = refl
call_left k s (offering f packet n) = by (eqb n store_length)
  where
    by : (b : Bool) → (chain order_calls k (cond b (SizeCall.offering f (length packet) ∷ []) [])).left
        ≡ k.left ++ sent_from k (cond b (SizeCall.offering f (length packet) ∷ []) [])
    by true = refl
    by false = sym (append-nil k.left)
call_left k s (departing n out) = by (eqb n store_length) (ltb (length out) out_limit)
  where
    nothing : (chain order_calls k []).left ≡ k.left ++ sent_from k []
    nothing = sym (append-nil k.left)

    by : (whole short : Bool) → (chain order_calls k (cond whole (cond short [] (SizeCall.departing ∷ [])) [])).left
        ≡ k.left ++ sent_from k (cond whole (cond short [] (SizeCall.departing ∷ [])) [])
    by true true = nothing
    by true false = ap (λ (l : List Sent). k.left ++ l) (sym (append-nil (sent_by (departed k.state).reply)))
    by false true = nothing
    by false false = nothing

forgets_alike : (b : Bool) (l : List Packet) (m : List Sent) → sized l ≡ packets_of m → sized (cond b [] l) ≡ packets_of (cond b [] m)
forgets_alike true l m e = refl
forgets_alike false l m e = e

-- ---- two histories beside each other

-- The scheduler is the same, and what has left has the same flows and lengths.
pub record Beside (h : StoreHistory) (k : OrderHistory) : Type 0 where
  pub kept : Kept h
  pub same_state : h.state.keeper ≡ k.state
  pub same_left : sized h.left ≡ packets_of k.left

module _ (h : StoreHistory) (k : OrderHistory) (B : Beside h k) (c : StoreCall) where
  rules : Rules k.state
  rules = subst Rules B.same_state B.kept.rules

  abbrev store : List ℕ
  store = h.state.store

  next_sent : sized (does h.state c).seen.sends ≡ packets_of (sent_from k (on_sizes c))
  next_sent = ap (λ (s : Scheduler). sized (does (with_store s store) c).seen.sends) B.same_state ∙ call_sent k rules store B.kept.whole c

  next_turns : (does h.state c).completes ≡ turns_from k (on_sizes c)
  next_turns = ap (λ (s : Scheduler). (does (with_store s store) c).completes) B.same_state ∙ call_turns k rules store B.kept.whole c

  next_beside : Beside (next store_calls h c) (chain order_calls k (on_sizes c))
  unfolding next moved
  next_beside =
      let forgets : Bool = (does h.state c).seen.forgets in
      record {
        kept = next_kept h c B.kept;
        same_state = ap (λ (s : Scheduler). (does (with_store s store) c).state.keeper) B.same_state ∙ on_sizes_once c store k;
        same_left =
            sized_append (cond forgets [] h.left) (does h.state c).seen.sends
            ∙ ap₂ (λ (a b : List SizedPacket). a ++ b) (forgets_alike forgets h.left k.left B.same_left) next_sent
            ∙ sym (packets_append (cond forgets [] k.left) (sent_from k (on_sizes c)))
            ∙ ap packets_of (sym (call_left k h.state c));
      }

-- ---- who waits

at_most_one_call : (c : StoreCall) → length (on_sizes c) ≤ 1
unfolding on_sizes
at_most_one_call resetting = omega arith
at_most_one_call (opening f weight) = omega arith
at_most_one_call (offering f packet n) = by (eqb n store_length)
  where
    by : (b : Bool) → length (cond b (SizeCall.offering f (length packet) ∷ []) []) ≤ 1
    by true = omega arith
    by false = omega arith
at_most_one_call (departing n out) = by (eqb n store_length) (ltb (length out) out_limit)
  where
    by : (b c : Bool) → length (cond b (cond c [] (SizeCall.departing ∷ [])) []) ≤ 1
    by true true = omega arith
    by true false = omega arith
    by false true = omega arith
    by false false = omega arith

abbrev WaitingOnSizes : ℕ → OrderHistory → List Call → Type 0
WaitingOnSizes f k calls = WaitingAfterEvery order_calls f k.state calls

-- Who waits at the end of at most one call waits after every one.
waits_after_one : (f : ℕ) (k : OrderHistory) (calls : List Call) → length calls ≤ 1 → Waiting (chain order_calls k calls).state f → WaitingOnSizes f k calls
unfolding chain next moved WaitingAfterEvery
waits_after_one f k [] few w = tt
waits_after_one f k (c ∷ []) few w = (w, tt)
waits_after_one f k (c ∷ (d ∷ calls)) few w = absurd (omega arith)

waits_at_the_end : (f : ℕ) (k : OrderHistory) (calls : List Call) → Waiting k.state f → WaitingOnSizes f k calls → Waiting (chain order_calls k calls).state f
unfolding chain next moved WaitingAfterEvery
waits_at_the_end f k [] w more = w
waits_at_the_end f k (c ∷ calls) w more = waits_at_the_end f (next order_calls k c) calls more.0 more.1

waiting_apart : (f : ℕ) (k : OrderHistory) (a b : List Call) → WaitingOnSizes f k (a ++ b) → WaitingOnSizes f k a × WaitingOnSizes f (chain order_calls k a) b
unfolding chain next moved WaitingAfterEvery
waiting_apart f k [] b w = (tt, w)
waiting_apart f k (c ∷ a) b w = let more = waiting_apart f (next order_calls k c) a b w.1 in ((w.0, more.0), more.1)

-- ---- any calls

abbrev sent_in_store : StoreHistory → List StoreCall → List Packet
sent_in_store h calls = sent_in store_calls h.state calls

-- From histories beside each other, store calls and calls on sizes lead to such, with the same departures, turns and flows that wait.
pub record GoBeside (h : StoreHistory) (calls : List StoreCall) (k : OrderHistory) (sizes : List Call) : Type 0 where
  pub ends : Beside (chain store_calls h calls) (chain order_calls k sizes)
  pub sent_agree : sized (sent_in_store h calls) ≡ packets_of (sent_from k sizes)
  pub turns_agree : turns_in store_calls h.state calls ≡ turns_from k sizes
  pub waiting_on_sizes : (f : ℕ) → WaitingAfterEvery store_calls f h.state calls → WaitingOnSizes f k sizes
  pub waiting_in_store : (f : ℕ) → Waiting h.state.keeper f → WaitingOnSizes f k sizes → WaitingAfterEvery store_calls f h.state calls

one_then_more : (c : StoreCall) (calls : List StoreCall) (h : StoreHistory) (k : OrderHistory) (sizes : List Call) → Beside h k
    → GoBeside (next store_calls h c) calls (chain order_calls k (on_sizes c)) sizes → GoBeside h (c ∷ calls) k (on_sizes c ++ sizes)
unfolding chain next moved over left_over WaitingAfterEvery
one_then_more c calls h k sizes B more =
    record {
      ends = subst (Beside (chain store_calls (next store_calls h c) calls)) (sym (chain_append order_calls k (on_sizes c) sizes)) more.ends;
      sent_agree =
          sized_append (does h.state c).seen.sends (sent_in_store (next store_calls h c) calls)
          ∙ ap₂ (λ (a b : List SizedPacket). a ++ b) (next_sent h k B c) more.sent_agree
          ∙ sym (packets_append (sent_from k (on_sizes c)) (sent_from (chain order_calls k (on_sizes c)) sizes))
          ∙ ap packets_of (sym (sent_append k (on_sizes c) sizes));
      turns_agree =
          ap₂ (λ (a b : List Sent). a ++ b) (next_turns h k B c) more.turns_agree
          ∙ sym (turns_append k (on_sizes c) sizes);
      waiting_on_sizes = λ f w.
          waiting_append f k (on_sizes c) sizes
          (waits_after_one f k (on_sizes c) (at_most_one_call c) (subst (λ (s : Scheduler). Waiting s f) (next_beside h k B c).same_state w.0))
          (more.waiting_on_sizes f w.1);
      waiting_in_store = λ f w on-sizes.
          let apart = waiting_apart f k (on_sizes c) sizes on-sizes in
          let then : Waiting (does h.state c).state.keeper f =
          subst (λ (s : Scheduler). Waiting s f) (sym (next_beside h k B c).same_state)
          (waits_at_the_end f k (on_sizes c) (subst (λ (s : Scheduler). Waiting s f) B.same_state w) apart.0) in
          (then, more.waiting_in_store f then apart.1);
    }

pub go_beside : (calls : List StoreCall) (h : StoreHistory) (k : OrderHistory) → Beside h k → GoBeside h calls k (all_on_sizes calls)
unfolding all_on_sizes chain over left_over WaitingAfterEvery
go_beside [] h k B = record { ends = B; sent_agree = refl; turns_agree = refl; waiting_on_sizes = λ f w. tt; waiting_in_store = λ f w on-sizes. tt }
go_beside (c ∷ calls) h k B =
    one_then_more c calls h k (all_on_sizes calls) B (go_beside calls (next store_calls h c) (chain order_calls k (on_sizes c)) (next_beside h k B c))
