-- The slots that a flow's packets take, over any list of calls from a new scheduler.
use Prim.Native.Nat.{ℕ, ◌+◌, ◌%◌}
use mathlib.Core.Path.{◌≡◌, refl, sym, ap, ◌∙◌}
use mathlib.Core.List.{List, append-nil}
use native.Mathlib.Omega.{arith}
use lib.ListN.{length, length-append}
use Rattle.model.specs.Limits.{queue_limit}
use Rattle.model.specs.Model.{Flow, Scheduler, flow_at, new_scheduler}
use Rattle.model.specs.Steps.{next_slot_of, packet_joined}
use Rattle.model.specs.Calls.{put, open_flow, opened, offered, departed, burst, unless_refused, open_answer, offer_answer}
use Rattle.model.specs.Rules.{Rules}
use Rattle.model.specs.Replies.{taken_by}
use Rattle.model.specs.Chain.{moved, next, chain}
use Rattle.model.specs.OrderCalls.{Call, resetting, opening, offering, departing, bursting, does, order_calls, Packet, sizes_of}
use Rattle.model.proofs.Choosing.{ok_has}
use Rattle.model.proofs.Refusals.{MayOpen, may_open}
use Rattle.model.proofs.Line.{same_or_other}
use Rattle.model.proofs.Flows.{at_others, here_now, put_relates}
use Rattle.model.proofs.Keeps.{new_closed, new_keeps, offered_keeps, departed_keeps, burst_holds}
use Rattle.model.proofs.Departing.{Leaves, departed_leaves, SendsOrStays, sends, stays, sends_or_stays}
use Rattle.model.proofs.Queues.{sizes_append, offered_queue}
use Rattle.model.proofs.Chains.{OrderHistory, start, chain_holds}

-- Of a flow's packets n were accepted: the next takes slot n mod 8, and a flow that is not open has had none, so that opening it may begin at slot 0.
record InTurn (x : Flow) (n : ℕ) : Type 0 where
  pub next_slot_is : next_slot_of x ≡ n % queue_limit
  pub none_if_closed : x.weight ≡ 0 → n ≡ 0

new_in_turn : (f : ℕ) → InTurn (flow_at new_scheduler f) 0
new_in_turn f = rw (new_closed f) (record { next_slot_is = refl; none_if_closed = λ e. refl })

opened_in_turn : (s : Scheduler) (g weight : ℕ) → Rules s → (f n : ℕ) → InTurn (flow_at s f) n → InTurn (flow_at (opened s g weight).state f) n
unfolding opened unless_refused
opened_in_turn s g weight R f n T =
    ok_has (λ t. InTurn (flow_at t f) n) (open_answer g weight (flow_at s g)) (put s g (open_flow weight) s.round) s
    (λ e. effect (may_open g weight (flow_at s g) e) T) T
  where
    effect : MayOpen g weight (flow_at s g) → InTurn (flow_at s f) n → InTurn (flow_at (put s g (open_flow weight) s.round) f) n
    effect may =
        same_or_other (λ h. InTurn (flow_at s h) n → InTurn (flow_at (put s g (open_flow weight) s.round) h) n) g f
        (λ U.
        let none : n ≡ 0 = U.none_if_closed may.not_open in
        rw (here_now s R may.flow_in_range (open_flow weight) s.round)
        (record { next_slot_is = omega arith; none_if_closed = λ e. none }))
        (λ d U. rw (at_others s g (open_flow weight) s.round f d) U)

-- An offer leaves every weight and every slot position.
offered_weight_and_slot : (s : Scheduler) (g size f : ℕ)
    → ((flow_at (offered s g size).state f).weight ≡ (flow_at s f).weight) × ((flow_at (offered s g size).state f).slot ≡ (flow_at s f).slot)
unfolding offered unless_refused put packet_joined
offered_weight_and_slot s g size f =
    ok_has (λ t. ((flow_at t f).weight ≡ (flow_at s f).weight) × ((flow_at t f).slot ≡ (flow_at s f).slot)) (offer_answer g size (flow_at s g)) _ s
    (λ e. put_relates (λ x y. (y.weight ≡ x.weight) × (y.slot ≡ x.slot)) (λ x. (refl, refl)) s.flows g (packet_joined (flow_at s g) size) (refl, refl) f)
    (refl, refl)

-- The packet that an offer accepts, if it does.
abbrev taken : Scheduler → ℕ → ℕ → List Packet
taken s f size = taken_by (offered s f size).reply (record { flow = f; size = size })

-- What an offer adds to a queue was accepted; where it leaves the flow closed, the queue is empty, so it added none.
offered_in_turn : (s : Scheduler) (g size : ℕ) → Rules s → (f n : ℕ) → InTurn (flow_at s f) n
    → InTurn (flow_at (offered s g size).state f) (n + length (sizes_of f (taken s g size)))
offered_in_turn s g size R f n T =
    record {
      next_slot_is = omega (arith, joined, offered_weight_and_slot s g size f);
      none_if_closed = λ e.
          let before : n ≡ 0 = T.none_if_closed (sym (offered_weight_and_slot s g size f).0 ∙ e) in
          omega (arith, joined, ap length (((offered_keeps s g size R).flow_rules f).open_if_waiting e));
    }
  where
    joined : length (flow_at (offered s g size).state f).queue ≡ length (flow_at s f).queue + length (sizes_of f (taken s g size))
    joined = ap length (offered_queue s g size R f) ∙ length-append (flow_at s f).queue (sizes_of f (taken s g size))

-- A packet that leaves moves its flow's slot on by one, and its queue is shorter by one: the slot of the next to come stays.
departed_in_turn : (s : Scheduler) → Rules s → (f n : ℕ) → InTurn (flow_at s f) n → InTurn (flow_at (departed s).state f) n
departed_in_turn s R f n T = by (sends_or_stays s)
  where
    by : SendsOrStays s → InTurn (flow_at (departed s).state f) n
    by (sends d e) =
        let L : Leaves s d (departed s).state = departed_leaves s R d e in
        same_or_other (λ g. InTurn (flow_at s g) n → InTurn (flow_at (departed s).state g) n) d.flow f
        (λ U. record { next_slot_is = omega (arith, ap length L.first_in_queue); none_if_closed = λ w. U.none_if_closed (sym L.weight_stays ∙ w) })
        (λ q U. rw (L.others_stay f q) U)
        T
    by (stays e same t l) = rw same T

burst_in_turn : (s : Scheduler) (k : ℕ) (list : List ℕ) → Rules s → (f n : ℕ) → InTurn (flow_at s f) n → InTurn (flow_at (burst s k list).state f) n
burst_in_turn s k list R f n T =
    (burst_holds (λ (t : Scheduler). Rules t × InTurn (flow_at t f) n) (λ t p. (departed_keeps t p.0, departed_in_turn t p.0 f n p.1)) s k list (R, T)).1

-- The packets of flow f that were accepted since the last reset.
abbrev accepted_of : OrderHistory → ℕ → ℕ
accepted_of h f = length (sizes_of f h.accepted)

next_in_turn : (h : OrderHistory) (c : Call) → Rules h.state → (f : ℕ) → InTurn (flow_at h.state f) (accepted_of h f)
    → InTurn (flow_at (next order_calls h c).state f) (accepted_of (next order_calls h c) f)
unfolding next moved does sizes_of
next_in_turn h resetting R f T = new_in_turn f
next_in_turn h (opening g weight) R f T = rw (append-nil h.accepted) (opened_in_turn h.state g weight R f (accepted_of h f) T)
next_in_turn h (offering g size) R f T =
    let a : List Packet = taken h.state g size in
    rw (ap length (sizes_append f h.accepted a) ∙ length-append (sizes_of f h.accepted) (sizes_of f a))
    (offered_in_turn h.state g size R f (accepted_of h f) T)
next_in_turn h departing R f T = rw (append-nil h.accepted) (departed_in_turn h.state R f (accepted_of h f) T)
next_in_turn h (bursting k list) R f T = rw (append-nil h.accepted) (burst_in_turn h.state k list R f (accepted_of h f) T)

-- Packet k of a flow since the last reset, counted from 0, takes slot k mod 8.
pub slots_in_turn : (calls : List Call) (f : ℕ)
    → next_slot_of (flow_at (chain order_calls start calls).state f) ≡ length (sizes_of f (chain order_calls start calls).accepted) % queue_limit
unfolding sizes_of
slots_in_turn calls f =
    (chain_holds (λ (h : OrderHistory). InTurn (flow_at h.state f) (accepted_of h f)) (λ h c R T. next_in_turn h c R f T) start calls new_keeps (new_in_turn f)
    ).next_slot_is
