-- What a departure call does to the flow whose packet leaves and to the others; where none leaves, nothing changes.
use Prim.Native.Nat.{ℕ, ◌+◌, ◌≤◌, ◌<◌}
use mathlib.Core.Path.{◌≡◌, refl, sym, ap, ◌∙◌, subst}
use mathlib.Core.List.{List, [], ◌∷◌}
use mathlib.Core.Bool.{Bool, true, false}
use native.Mathlib.Omega.{arith}
use lib.ListN.{length, get_or, drop, length-drop}
use Rattle.model.specs.Limits.{flow_limit}
use Rattle.model.specs.Model.{Flow, Round, Scheduler, flow_at}
use Rattle.model.specs.Steps.{first_size, first_left, next_slot, excess_kept, turn_ends, turn_opened, round_started, surplus_cleared, head_allowance, settled, served, visit_by, visit, whose}
use Rattle.model.specs.Calls.{put, next_visit, departed, departures}
use Rattle.model.specs.Rules.{Rules}
use Rattle.model.specs.declared.Sent.{Sent}
use Rattle.model.specs.declared.Refusal.{Refusal}
use Rattle.model.specs.declared.Reply.{Reply}
use Rattle.model.specs.declared.Reply.TheVariants.{Departure, Idle, Refused}
use Rattle.model.specs.declared.Serving.{Serving}
use Rattle.model.specs.declared.Serving.TheVariants.{NoTurn, Turn}
use Rattle.model.proofs.Parts.{scheduler_made_of}
use Rattle.model.proofs.Flows.{at_put, at_others, put_back, put_relates, first_and_rest}
use Rattle.model.proofs.Keeps.{departures_hold}
use Rattle.model.proofs.Standing.{TurnFacts, HeadFacts, turn_facts, head_facts}

-- From s the packet of d leaves, and t is left: it was the first of the queue of the flow whose turn it was, and that flow's slot moves on to the next
-- while its weight stays.
pub record Leaves (s : Scheduler) (d : Sent) (t : Scheduler) : Type 0 where
  pub had_the_turn : d.flow ≡ whose s.round
  pub in_reach : d.flow < flow_limit
  pub first_in_queue : (flow_at s d.flow).queue ≡ d.size ∷ (flow_at t d.flow).queue
  pub slot_moves_on : (flow_at t d.flow).slot ≡ next_slot (flow_at s d.flow).slot
  pub weight_stays : (flow_at t d.flow).weight ≡ (flow_at s d.flow).weight
  pub others_stay : (g : ℕ) → (g ≡ d.flow → ⊥) → flow_at t g ≡ flow_at s g

-- Steps 4 to 6 touch neither weight nor slot nor queue, and the reply is a departure.
settled_weight : (b : Bool) (r : Round) (x : Flow) (f a n : ℕ) (reply : Reply) → (settled b r x f a n reply).flow.weight ≡ x.weight
unfolding settled excess_kept
settled_weight true r x f a n reply = refl
settled_weight false r x f a n reply = refl

settled_slot : (b : Bool) (r : Round) (x : Flow) (f a n : ℕ) (reply : Reply) → (settled b r x f a n reply).flow.slot ≡ x.slot
unfolding settled excess_kept
settled_slot true r x f a n reply = refl
settled_slot false r x f a n reply = refl

settled_queue : (b : Bool) (r : Round) (x : Flow) (f a n : ℕ) (reply : Reply) → (settled b r x f a n reply).flow.queue ≡ x.queue
unfolding settled excess_kept
settled_queue true r x f a n reply = refl
settled_queue false r x f a n reply = refl

settled_reply : (b : Bool) (r : Round) (x : Flow) (f a n : ℕ) (reply : Reply) → (settled b r x f a n reply).reply ≡ reply
unfolding settled
settled_reply true r x f a n reply = refl
settled_reply false r x f a n reply = refl

module _ (r : Round) (x : Flow) (f a n : ℕ) where
  abbrev told : Sent
  told = record { flow = f; size = first_size x; mark = r.mark; allowance = a }

  served_reply : (served r x f a n).reply ≡ Departure told
  unfolding served
  served_reply = settled_reply (turn_ends a (n + first_size x) (drop 1 x.queue)) r (first_left x) f a (n + first_size x) (Departure told)

  served_weight : (served r x f a n).flow.weight ≡ x.weight
  unfolding served first_left
  served_weight = settled_weight (turn_ends a (n + first_size x) (drop 1 x.queue)) r (first_left x) f a (n + first_size x) (Departure told)

  served_slot : (served r x f a n).flow.slot ≡ next_slot x.slot
  unfolding served first_left
  served_slot = settled_slot (turn_ends a (n + first_size x) (drop 1 x.queue)) r (first_left x) f a (n + first_size x) (Departure told)

  served_queue : (served r x f a n).flow.queue ≡ drop 1 x.queue
  unfolding served first_left
  served_queue = settled_queue (turn_ends a (n + first_size x) (drop 1 x.queue)) r (first_left x) f a (n + first_size x) (Departure told)

  -- The departure that serving tells is this one.
  pub served_tells : (d : Sent) → (served r x f a n).reply ≡ Departure d → told ≡ d
  served_tells d e = let both : Departure told ≡ Departure d = sym served_reply ∙ e in cc

  -- Serving flow f, whose turn it is and whose weight, slot and queue are those that it has in s.
  module _ (s : Scheduler) (turn : f ≡ whose s.round) (weights : x.weight ≡ (flow_at s f).weight) (slots : x.slot ≡ (flow_at s f).slot)
      (queues : x.queue ≡ (flow_at s f).queue) (all : length s.flows ≡ flow_limit) (inside : f < flow_limit) (waits : (flow_at s f).queue ≡ [] → ⊥) where
    abbrev left : Scheduler
    left = put s f (served r x f a n).flow (served r x f a n).round

    here : flow_at left f ≡ (served r x f a n).flow
    here = at_put s f (served r x f a n).flow (served r x f a n).round (omega arith)

    served_leaves : (d : Sent) → (served r x f a n).reply ≡ Departure d → Leaves s d left
    served_leaves d e =
        subst (λ (k : Sent). Leaves s k left) (served_tells d e)
        (record {
          had_the_turn = turn;
          in_reach = inside;
          first_in_queue =
              first_and_rest (flow_at s f).queue waits
              ∙ ap (λ (q : List ℕ). get_or q 0 0 ∷ drop 1 q) (sym queues)
              ∙ ap (λ (q : List ℕ). first_size x ∷ q) (sym (ap (λ (y : Flow). y.queue) here ∙ served_queue));
          slot_moves_on = ap (λ (y : Flow). y.slot) here ∙ served_slot ∙ ap next_slot slots;
          weight_stays = ap (λ (y : Flow). y.weight) here ∙ served_weight ∙ weights;
          others_stay = at_others s f (served r x f a n).flow (served r x f a n).round;
        })

-- The departure call, on a state that is taken apart.
departed_leaves_parts : (flows : List Flow) (line : List ℕ) (visits mark running : ℕ) (turn : Serving)
    → Rules (scheduler_made_of flows line visits mark running turn) → (d : Sent) → (departed (scheduler_made_of flows line visits mark running turn)).reply ≡ Departure d
    → Leaves (scheduler_made_of flows line visits mark running turn) d (departed (scheduler_made_of flows line visits mark running turn)).state
unfolding departed visit visit_by surplus_cleared
departed_leaves_parts flows line visits mark running (Turn f a n) R d e =
    let s : Scheduler = scheduler_made_of flows line visits mark running (Turn f a n) in
    let T : TurnFacts s f a n = turn_facts s R f a n refl in
    served_leaves s.round (flow_at s f) f a n s refl refl refl refl R.all_flows T.in_reach T.waits d e
departed_leaves_parts flows [] visits mark running NoTurn R d e = let z : ◌≡◌ {A = ℕ} 0 1 = cc in absurd (omega arith)
departed_leaves_parts flows (f ∷ line) visits mark running NoTurn R d e =
    let s : Scheduler = scheduler_made_of flows (f ∷ line) visits mark running NoTurn in
    let H : HeadFacts s f = head_facts s R refl (omega arith) in
    let a : ℕ = head_allowance s.round (flow_at s f) in
    served_leaves (turn_opened (round_started s.round) f a) (surplus_cleared (flow_at s f)) f a 0 s refl refl refl refl R.all_flows H.in_reach H.waits d e

pub departed_leaves : (s : Scheduler) → Rules s → (d : Sent) → (departed s).reply ≡ Departure d → Leaves s d (departed s).state
departed_leaves s R d e =
    departed_leaves_parts s.flows s.round.line s.round.visits s.round.mark s.round.running s.round.turn R d e

-- No departure changes a weight.
pub visit_weight : (r : Round) (x : Flow) → (visit r x).flow.weight ≡ x.weight
unfolding visit visit_by surplus_cleared
visit_weight r x = go r.turn r.line
  where
    go : (turn : Serving) (line : List ℕ) → (visit_by turn line r x).flow.weight ≡ x.weight
    go (Turn f a n) line = served_weight r x f a n
    go NoTurn [] = refl
    go NoTurn (f ∷ line) = served_weight _ _ f _ 0

-- A departure call sends a packet; or nobody stands, and it is idle and changes nothing.
pub data SendsOrStays (s : Scheduler) : Type 0 where
  sends : (d : Sent) → (departed s).reply ≡ Departure d → SendsOrStays s
  stays : (departed s).reply ≡ Idle → (departed s).state ≡ s → s.round.turn ≡ NoTurn → s.round.line ≡ [] → SendsOrStays s

pub sends_or_stays : (s : Scheduler) → SendsOrStays s
unfolding departed visit visit_by
sends_or_stays s = go s.flows s.round.line s.round.visits s.round.mark s.round.running s.round.turn
  where
    go : (flows : List Flow) (line : List ℕ) (visits mark running : ℕ) (turn : Serving) → SendsOrStays (scheduler_made_of flows line visits mark running turn)
    go flows line visits mark running (Turn f a n) = sends _ (served_reply _ _ f a n)
    go flows [] visits mark running NoTurn = stays refl (put_back (scheduler_made_of flows [] visits mark running NoTurn) 0) refl refl
    go flows (f ∷ line) visits mark running NoTurn = sends _ (served_reply _ _ f _ 0)

pub idle_stays : (s : Scheduler) → (departed s).reply ≡ Idle → (departed s).state ≡ s
idle_stays s e = by (sends_or_stays s)
  where
    by : SendsOrStays s → (departed s).state ≡ s
    by (sends d i) = let z : ◌≡◌ {A = ℕ} 0 1 = cc in absurd (omega arith)
    by (stays i same t l) = same

-- The order layer's departure is never refused.
pub never_refused : (s : Scheduler) (k : Refusal) → (departed s).reply ≡ Refused k → ⊥
never_refused s k e = by (sends_or_stays s)
  where
    by : SendsOrStays s → ⊥
    by (sends d i) = let z : ◌≡◌ {A = ℕ} 0 1 = cc in omega arith
    by (stays i same t l) = let z : ◌≡◌ {A = ℕ} 0 1 = cc in omega arith

-- No departure call adds a packet to a queue.
visit_adds_none : (s : Scheduler) → length (next_visit s).flow.queue ≤ length (flow_at s (whose s.round)).queue
unfolding visit visit_by surplus_cleared
visit_adds_none s = go s.round.turn s.round.line s.round (flow_at s (whose s.round))
  where
    served_adds_none : (r : Round) (x : Flow) (f a n : ℕ) → length (served r x f a n).flow.queue ≤ length x.queue
    served_adds_none r x f a n = omega (arith, ap length (served_queue r x f a n), length-drop 1 x.queue)

    go : (turn : Serving) (line : List ℕ) (r : Round) (x : Flow) → length (visit_by turn line r x).flow.queue ≤ length x.queue
    go (Turn f a n) line r x = served_adds_none r x f a n
    go NoTurn [] r x = omega arith
    go NoTurn (f ∷ line) r x = served_adds_none _ (surplus_cleared x) f _ 0

pub departed_adds_none : (s : Scheduler) (f : ℕ) → length (flow_at (departed s).state f).queue ≤ length (flow_at s f).queue
unfolding departed put
departed_adds_none s =
    put_relates (λ x y. length y.queue ≤ length x.queue) (λ x. omega arith) s.flows (whose s.round) (next_visit s).flow (visit_adds_none s)

pub departures_add_none : (n : ℕ) (s : Scheduler) (f : ℕ) → length (flow_at (departures n s).state f).queue ≤ length (flow_at s f).queue
departures_add_none n s f =
    departures_hold (λ (t : Scheduler). length (flow_at t f).queue ≤ length (flow_at s f).queue) (λ t h. omega (arith, departed_adds_none t f)) n s (omega arith)
