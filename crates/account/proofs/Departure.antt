-- A departure call is a number of moves: a round may start, a turn may open, and a packet leaves.
use Prim.Native.Nat.{ℕ, zero, suc, ◌+◌, ◌*◌, ◌-◌, ◌≤◌, ◌<◌, max}
use mathlib.Core.Path.{◌≡◌, refl, sym, ap, ◌∙◌}
use mathlib.Core.List.{List, [], ◌∷◌, ◌++◌}
use mathlib.Core.Bool.{Bool, true, false}
use native.Mathlib.Omega.{arith}
use native.Mathlib.Nat.{le-max_left}
use lib.ListN.{length, take, drop}
use lib.Seq.{take-append-le, drop-append-le, take-length, drop-length}
use lib.Dec.{leb}
use borrow.Author.Tests.{leb-true}
use Rattle.model.specs.Limits.{flow_limit}
use Rattle.model.specs.Model.{Flow, Round, Scheduler, flow_at}
use Rattle.model.specs.Steps.{round_started, turn_opened, surplus_cleared, first_left, turn_kept, raised, turn_closed, excess_kept, next_slot, Visit, settled, served, visit_by, visit, allowance}
use Rattle.model.specs.Calls.{put, departed}
use Rattle.model.specs.Rules.{Sizes, count, LineRules, TurnRules, RoundRules, Rules}
use Rattle.model.specs.Replies.{sent_by}
use Rattle.model.specs.declared.Reply.TheVariants.{Departure}
use Rattle.model.specs.declared.Serving.{Serving}
use Rattle.model.specs.declared.Serving.TheVariants.{NoTurn, Turn}
use Rattle.model.proofs.Counts.{count_head}
use Rattle.model.proofs.Rounding.{raised_at_most}
use Rattle.model.proofs.Line.{OnlyAt}
use Rattle.model.proofs.Line.{round_starts as rules_when_a_round_starts}
use Rattle.model.proofs.Keeps.{weighs, standing_waits}
use Rattle.model.proofs.Flows.{at_others, put_back, waiting_in_reach, first_in_range, put_relates, here_now}
use Rattle.model.proofs.Parts.{flow_made_of, round_made_of, scheduler_made_of}
use Rattle.model.proofs.Departing.{departed_adds_none}
use Rattle.model.specs.OrderCalls.{turn_then, turns_of}
use Rattle.account.proofs.Circle.{Circle, circle, circle_of, round_starts, turn_opens, turn_stays_open, turn_is_over, flow_runs_empty, Moves, stands, moves, follows, Renewed, Waits, Backwards, departure}

-- A flow that waits after a departure waited before it.
waited_before : (s : Scheduler) (f : ℕ) → Waits (flow_at (departed s).state f) → Waits (flow_at s f)
waited_before s f w = omega (arith, departed_adds_none s f)

-- A flow whose turn allows anything weighs something.
weighs_in_turn : (w mark allowed sent : ℕ) → sent < allowed → allowed ≤ w * (1 + mark) → 1 ≤ w
weighs_in_turn zero mark allowed sent low most = absurd (omega arith)
weighs_in_turn (suc w) mark allowed sent low most = omega arith

-- The running mark rises no higher than the excess.
raised_within : (running w mark allowed sent total : ℕ) → sent < allowed → allowed ≤ w * (1 + mark)
    → raised running w allowed total ≤ max running (total - allowed)
raised_within running w mark allowed sent total low most =
    raised_at_most running w allowed total (max running (total - allowed)) (weighs_in_turn w mark allowed sent low most) (le-max_left running (total - allowed)) (omega arith)

module _ (s : Scheduler) (R : Rules s) {g : ℕ} (reach : g < flow_limit) (y : Flow) (r : Round) where
  -- Where flow g is put in place, with the weight that it had.
  pub renewed : (surplus : ℕ) (flow : ℕ → Flow) → OnlyAt g (flow_at s) flow → y.weight ≡ (flow g).weight → y.surplus ≡ surplus
      → Renewed g surplus flow (flow_at (put s g y r))
  renewed surplus flow only weight now =
      record {
        others_same = λ f d. at_others s g y r f d ∙ sym (only f d);
        weight_same = ap (λ (x : Flow). x.weight) (here_now s R reach y r) ∙ weight;
        surplus_now = ap (λ (x : Flow). x.surplus) (here_now s R reach y r) ∙ now;
      }

-- A flow that stands has a packet waiting.
counted_waits : {flow : ℕ → Flow} {out line : List ℕ} {mark running n g k : ℕ} → LineRules flow out line mark running n → count g (out ++ line) ≡ suc k
    → (flow g).queue ≡ [] → ⊥
counted_waits {flow} {g = g} L c = standing_waits (flow g) (omega (arith, L.stands_once g, c))

-- From the circle c, what serving flow g gives is a number of moves, with what leaves and which turn is completed.
abbrev Serves : ((ℕ → Flow) → Type 0) → Scheduler → ℕ → Circle → Visit → Type 0
Serves Wanted s g c v =
    Wanted (flow_at (put s g v.flow v.round))
    → Moves Wanted c (circle_of (put s g v.flow v.round)) (sent_by v.reply) (turn_then v.reply v.round.turn [])

-- Steps 3 to 6, in an open turn of g, whose flow is as in the state but for its surplus.
module _ (Wanted : (ℕ → Flow) → Type 0) (s : Scheduler) (R : Rules s) (r : Round) (g allowed sent w σ k : ℕ) (flow : ℕ → Flow)
    (only : OnlyAt g (flow_at s) flow) (reach : g < flow_limit) (fits : r.visits - 1 ≤ length r.line)
    (low : sent < allowed) (most : allowed ≤ w * (1 + r.mark)) where
  abbrev turning : Circle
  turning = circle flow (drop (r.visits - 1) r.line) (take (r.visits - 1) r.line) (Turn g allowed sent) r.mark r.running

  serving_moves : (q : List ℕ) → flow g ≡ flow_made_of w σ k q → Sizes q → (q ≡ [] → ⊥) → Serves Wanted s g turning (served r (flow_made_of w σ k q) g allowed sent)
  unfolding served settled first_left turn_kept turn_closed excess_kept put turn_then
  serving_moves [] here sizes waits = absurd (waits refl)
  serving_moves (p ∷ []) here sizes waits =
      moves
      (flow_runs_empty
      (renewed s R reach (flow_made_of w 0 (next_slot k) []) r 0 flow only (sym (ap (λ (x : Flow). x.weight) here)) refl)
      (first_in_range sizes).0
      low
      (raised_within r.running w r.mark allowed sent (sent + p) low most)
      (λ v. absurd (omega (arith, v, ap (λ (x : Flow). length x.queue) (here_now s R reach (flow_made_of w 0 (next_slot k) []) r)))))
  serving_moves (p ∷ (p' ∷ q)) here sizes waits = go (leb allowed (sent + p)) refl
    where
      x : Flow
      x = flow_made_of w σ k (p ∷ (p' ∷ q))

      weight : w ≡ (flow g).weight
      weight = sym (ap (λ (y : Flow). y.weight) here)

      most' : allowed ≤ (flow g).weight * (1 + r.mark)
      most' = omega (arith, ap (λ (v : ℕ). v * (1 + r.mark)) weight)

      go : (b : Bool) → leb allowed (sent + p) ≡ b
          → Serves Wanted s g turning (settled b r (first_left x) g allowed (sent + p) (Departure (departure g p r.mark allowed)))
      go true e =
          rw (drop-append-le (r.visits - 1) r.line (g ∷ []) fits, take-append-le (r.visits - 1) r.line (g ∷ []) fits)
          (moves
          (turn_is_over
          (renewed s R reach (flow_made_of w (sent + p - allowed) (next_slot k) (p' ∷ q)) r (sent + p - allowed) flow only weight refl)
          (first_in_range sizes).0
          low
          (raised_within r.running w r.mark allowed sent (sent + p) low most)
          most'
          (leb-true allowed (sent + p) e)))
      go false e =
          moves
          (turn_stays_open
          (renewed s R reach (flow_made_of w σ (next_slot k) (p' ∷ q)) r (flow g).surplus flow only weight (sym (ap (λ (y : Flow). y.surplus) here)))
          (first_in_range sizes).0)

abbrev allowance_of : Scheduler → ℕ → ℕ → ℕ
allowance_of s g mark = allowance (flow_at s g).weight mark (flow_at s g).surplus

-- The round in which g, the head of the line, has opened its turn.
abbrev opened_for : Scheduler → ℕ → List ℕ → ℕ → ℕ → ℕ → Round
opened_for s g line visits mark running = round_made_of line (suc visits) mark running (Turn g (allowance_of s g mark) 0)

-- Steps 2 to 6, for the head of the line once a visit is left.
module _ (Wanted : (ℕ → Flow) → Type 0) (back : Backwards Wanted) (s : Scheduler) (R : Rules s) (want : Wanted (flow_at s)) where
  turn_moves : (g : ℕ) (line : List ℕ) (visits mark running : ℕ) → LineRules (flow_at s) [] (g ∷ line) mark running (suc visits)
      → Serves Wanted s g (circle (flow_at s) (drop visits line) (g ∷ take visits line) NoTurn mark running)
      (served (opened_for s g line visits mark running) (surplus_cleared (flow_at s g)) g (allowance_of s g mark) 0)
  unfolding surplus_cleared put
  turn_moves g line visits mark running L final =
      follows
      (moves (turn_opens (renewed s R reach (surplus_cleared x) r 0 (flow_at s) (λ f d. refl) refl refl) covered)
      (back (flow_at s') (flow_at s) still want))
      (rw counted at
      (serving_moves Wanted s R r g (allowance_of s g mark) 0 x.weight 0 x.slot (flow_at s') (at_others s g (surplus_cleared x) r)
      reach
      (omega (arith, L.visits_in_line))
      (omega (arith, owed, weighs x (R.flow_rules g) waits))
      (omega arith)
      x.queue
      (here_now s R reach (surplus_cleared x) r)
      (R.flow_rules g).sizes_in_range
      waits
      final))
    where
      x : Flow
      x = flow_at s g

      r : Round
      r = opened_for s g line visits mark running

      s' : Scheduler
      s' = put s g (surplus_cleared x) r

      waits : x.queue ≡ [] → ⊥
      waits = counted_waits L (count_head g line)

      reach : g < flow_limit
      reach = waiting_in_reach s g R.all_flows waits

      still : (f : ℕ) → Waits (flow_at s f) → Waits (flow_at s' f)
      still = put_relates (λ y z. Waits y → Waits z) (λ y w. w) s.flows g (surplus_cleared x) (λ w. w)

      counted : suc visits - 1 ≡ visits
      counted = omega arith

      owed : x.surplus ≤ x.weight * mark
      owed = L.owed_this_round g (omega (arith, count_head g (take visits line)))

      covered : x.surplus ≤ x.weight * (1 + mark)
      covered = omega (arith, owed)

-- The departure call, on a state that is taken apart.
module _ (Wanted : (ℕ → Flow) → Type 0) (back : Backwards Wanted) where
  abbrev Departs : Scheduler → Type 0
  Departs s =
      Rules s
      → Wanted (flow_at (departed s).state)
      → Moves Wanted (circle_of s) (circle_of (departed s).state) (sent_by (departed s).reply) (turns_of 1 s)

  departs : (flows : List Flow) (line : List ℕ) (visits mark running : ℕ) (turn : Serving) → Departs (scheduler_made_of flows line visits mark running turn)
  unfolding departed visit visit_by round_started turn_opened RoundRules turns_of turn_then put
  departs flows line visits mark running (Turn g allowed sent) R final =
      serving_moves Wanted s R s.round g allowed sent x.weight x.surplus x.slot (flow_at s) (λ f d. refl)
      (waiting_in_reach s g R.all_flows waits)
      L.visits_in_line
      T.more_may_be_sent
      T.allowed_at_most
      x.queue
      refl
      (R.flow_rules g).sizes_in_range
      waits
      final
    where
      s : Scheduler
      s = scheduler_made_of flows line visits mark running (Turn g allowed sent)

      x : Flow
      x = flow_at s g

      L : LineRules (flow_at s) (g ∷ []) line mark running (visits - 1)
      L = R.round_rules.0

      T : TurnRules x visits mark allowed sent
      T = R.round_rules.1

      waits : x.queue ≡ [] → ⊥
      waits = counted_waits L (count_head g line)
  departs flows [] visits mark running NoTurn R final =
      rw (put_back (scheduler_made_of flows [] visits mark running NoTurn) 0) stands
  departs flows (g ∷ line) zero mark running NoTurn R final =
      let s : Scheduler = scheduler_made_of flows (g ∷ line) zero mark running NoTurn in
      let want : Wanted (flow_at s) = back (flow_at s) (flow_at (departed s).state) (waited_before s) final in
      follows
      (moves (round_starts R.round_rules.stands_once) want)
      (rw (drop-length line, take-length line) at
      (turn_moves Wanted back s R want g line (length line) running 0 (rules_when_a_round_starts R.round_rules) final))
  departs flows (g ∷ line) (suc visits) mark running NoTurn R final =
      let s : Scheduler = scheduler_made_of flows (g ∷ line) (suc visits) mark running NoTurn in
      turn_moves Wanted back s R (back (flow_at s) (flow_at (departed s).state) (waited_before s) final) g line visits mark running R.round_rules final

  pub departure_moves : (s : Scheduler) → Departs s
  departure_moves s = departs s.flows s.round.line s.round.visits s.round.mark s.round.running s.round.turn
