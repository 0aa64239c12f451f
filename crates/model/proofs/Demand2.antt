-- Demand 2 on sizes, over any list of calls from a new scheduler.
use Prim.Native.Nat.{ℕ}
use mathlib.Core.Path.{◌≡◌, sym, ap, ◌∙◌}
use mathlib.Core.List.{List, [], ◌∷◌, ◌++◌, append-nil, append_assoc, map-append}
use mathlib.Core.Logic.{◌↔◌}
use native.Mathlib.Omega.{arith}
use lib.ListN.{length}
use lib.Dec.{ltb}
use Rattle.model.specs.Model.{Flow, Scheduler, flow_at}
use Rattle.model.specs.Steps.{whose}
use Rattle.model.specs.Calls.{Burst, offered, departed, departures, burst, burst_made}
use Rattle.model.specs.Rules.{Rules}
use Rattle.model.specs.Replies.{sent_by, taken_by, made_by}
use Rattle.model.specs.Chain.{moved, next, chain}
use Rattle.model.specs.OrderCalls.{Call, resetting, opening, offering, departing, bursting, does, order_calls, Packet, sizes_of, packets_of}
use Rattle.model.specs.declared.Reply.TheVariants.{Departure, Idle}
use Rattle.model.specs.declared.Sent.{Sent}
use Rattle.model.proofs.Choosing.{tested_has}
use Rattle.model.proofs.Keeps.{new_closed, new_keeps}
use Rattle.model.proofs.Departing.{departed_leaves, SendsOrStays, sends, stays, sends_or_stays}
use Rattle.model.proofs.Chains.{OrderHistory, start, chain_keeps, chain_holds}
use Rattle.model.proofs.Queues.{sizes_append, departed_queue, departures_queue, opened_queue, offered_queue}
use Rattle.model.proofs.Standing.{nobody_waits}

-- Every state that calls give keeps document 01's rules.
pub every_state_keeps_the_rules : (calls : List Call) → Rules (chain order_calls start calls).state
every_state_keeps_the_rules calls = chain_keeps start calls new_keeps

-- What was accepted of flow f is what has left of it followed by what waits.
abbrev Balanced : OrderHistory → ℕ → Type 0
Balanced h f = sizes_of f h.accepted ≡ sizes_of f (packets_of h.left) ++ (flow_at h.state f).queue

-- A call that accepts a, sends l and leaves q waiting, where w waited.
balance_moves : (f : ℕ) (accepted a : List Packet) (left l : List Sent) (w q : List ℕ) → sizes_of f accepted ≡ sizes_of f (packets_of left) ++ w
    → w ++ sizes_of f a ≡ sizes_of f (packets_of l) ++ q → sizes_of f (accepted ++ a) ≡ sizes_of f (packets_of (left ++ l)) ++ q
balance_moves f accepted a left l w q B e =
    sizes_append f accepted a
    ∙ ap (λ (k : List ℕ). k ++ sizes_of f a) B
    ∙ append_assoc (sizes_of f (packets_of left)) w (sizes_of f a)
    ∙ ap (λ (k : List ℕ). sizes_of f (packets_of left) ++ k) e
    ∙ sym (append_assoc (sizes_of f (packets_of left)) (sizes_of f (packets_of l)) q)
    ∙ ap (λ (k : List ℕ). k ++ q) (sym (ap (sizes_of f) (map-append (λ (d : Sent). record { flow = d.flow; size = d.size }) left l) ∙ sizes_append f (packets_of left) (packets_of l)))

next_balanced : (h : OrderHistory) (c : Call) → Rules h.state → (f : ℕ) → Balanced h f → Balanced (next order_calls h c) f
unfolding next moved does sizes_of burst burst_made
next_balanced h resetting R f B = sym (ap (λ (y : Flow). y.queue) (new_closed f))
next_balanced h (opening g weight) R f B =
    balance_moves f h.accepted [] h.left [] (flow_at h.state f).queue _ B
    (append-nil (flow_at h.state f).queue ∙ sym (opened_queue h.state g weight R f))
next_balanced h (offering g size) R f B =
    balance_moves f h.accepted (taken_by (offered h.state g size).reply (record { flow = g; size = size })) h.left [] (flow_at h.state f).queue _ B
    (sym (offered_queue h.state g size R f))
next_balanced h departing R f B =
    balance_moves f h.accepted [] h.left (sent_by (departed h.state).reply) (flow_at h.state f).queue _ B
    (append-nil (flow_at h.state f).queue ∙ departed_queue h.state R f)
next_balanced h (bursting n list) R f B =
    tested_has
    (λ (b : Burst).
    sizes_of f (h.accepted ++ []) ≡ sizes_of f (packets_of (h.left ++ made_by b.reply (departures n s).sent)) ++ (flow_at b.state f).queue)
    (ltb (length list) n) _ (burst_made list (departures n s))
    (balance_moves f h.accepted [] h.left [] (flow_at s f).queue _ B (append-nil (flow_at s f).queue))
    (λ e. balance_moves f h.accepted [] h.left (departures n s).sent (flow_at s f).queue _ B (append-nil (flow_at s f).queue ∙ departures_queue n s R f))
  where
    s : Scheduler
    s = h.state

-- Since the last reset, what was accepted for a flow is what has departed of it followed by what waits, in order.
pub nothing_lost : (calls : List Call) (f : ℕ)
    → sizes_of f (chain order_calls start calls).accepted ≡ sizes_of f (packets_of (chain order_calls start calls).left) ++ (flow_at (chain order_calls start calls).state f).queue
unfolding sizes_of
nothing_lost calls f =
    chain_holds (λ (h : OrderHistory). Balanced h f) (λ h c R B. next_balanced h c R f B) start calls new_keeps (sym (ap (λ (y : Flow). y.queue) (new_closed f)))

-- A departure is of the flow of the open turn or, with none open, of the head of the line; it is that flow's first packet.
pub departs_the_first : (s : Scheduler) (d : Sent) → Rules s → (departed s).reply ≡ Departure d
    → (d.flow ≡ whose s.round) × ((flow_at s d.flow).queue ≡ d.size ∷ (flow_at (departed s).state d.flow).queue)
departs_the_first s d R e = let L = departed_leaves s R d e in (L.had_the_turn, L.first_in_queue)

-- Idle exactly when nothing waits.
pub idle_when_nothing_waits : (s : Scheduler) → Rules s → ((departed s).reply ≡ Idle) ↔ ((f : ℕ) → (flow_at s f).queue ≡ [])
idle_when_nothing_waits s R = (λ e. only e (sends_or_stays s), λ h. if h (sends_or_stays s))
  where
    only : (departed s).reply ≡ Idle → SendsOrStays s → (f : ℕ) → (flow_at s f).queue ≡ []
    only e (sends d i) = let z : ◌≡◌ {A = ℕ} 0 1 = cc in absurd (omega arith)
    only e (stays i same t l) = nobody_waits s R t l

    if : ((f : ℕ) → (flow_at s f).queue ≡ []) → SendsOrStays s → (departed s).reply ≡ Idle
    if h (sends d i) = absurd (omega (arith, ap length (departed_leaves s R d i).first_in_queue, ap length (h d.flow)))
    if h (stays i same t l) = i
