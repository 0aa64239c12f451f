-- What the rules tell of the flow whose turn it is, and of the room in the line. The user's old fault, a controller in line twice, is `never_twice`.
use Prim.Native.Nat.{ℕ, zero, suc, ◌*◌, ◌≤◌, ◌<◌}
use mathlib.Core.Path.{◌≡◌, refl, ap, subst}
use mathlib.Core.List.{List, [], ◌∷◌}
use native.Mathlib.Omega.{arith}
use native.Mathlib.Nat.{mul-le-mul}
use lib.ListN.{length, get_or, take}
use lib.Seq.{take-length}
use Rattle.model.specs.Limits.{flow_limit, mark_limit, allowance_limit}
use Rattle.model.specs.Choose.{if_empty, if_zero}
use Rattle.model.specs.Model.{Round, Scheduler, flow_at}
use Rattle.model.specs.Steps.{round_started, whose, whose_turn}
use Rattle.model.specs.Rules.{count, activity, LineRules, RoundRules, Rules, standing_with, standing}
use Rattle.model.specs.declared.Serving.{Serving}
use Rattle.model.specs.declared.Serving.TheVariants.{NoTurn, Turn}
use Rattle.model.proofs.Counts.{count_head}
use Rattle.model.proofs.Line.{line_fits, line_has_room, round_starts, activity_at_most_one}
use Rattle.model.proofs.Flows.{beyond_not_active, waiting_in_reach}
use Rattle.model.proofs.Keeps.{weighs, standing_waits}

-- Numbers of the round that are in range.
pub record InRange (r : Round) : Type 0 where
  pub line_in_range : length r.line ≤ flow_limit
  pub mark_in_range : r.mark ≤ mark_limit
  pub running_in_range : r.running ≤ mark_limit

-- The flow of an open turn.
pub record TurnFacts (s : Scheduler) (f allowed sent : ℕ) : Type 0 where
  pub in_reach : f < flow_limit
  pub waits : (flow_at s f).queue ≡ [] → ⊥
  pub weighs : 1 ≤ (flow_at s f).weight
  pub no_surplus : (flow_at s f).surplus ≡ 0
  pub line_has_room : length s.round.line < flow_limit
  pub a_visit_left : 1 ≤ s.round.visits
  pub allowed_in_range : allowed ≤ allowance_limit
  pub more_may_be_sent : sent < allowed

-- The flow at the head of the line, with no open turn.
pub record HeadFacts (s : Scheduler) (f : ℕ) : Type 0 where
  pub in_reach : f < flow_limit
  pub waits : (flow_at s f).queue ≡ [] → ⊥
  pub weighs : 1 ≤ (flow_at s f).weight
  pub owed : (flow_at s f).surplus ≤ (flow_at s f).weight * (round_started s.round).mark

module _ (s : Scheduler) (R : Rules s) where
  beyond : (g : ℕ) → flow_limit ≤ g → activity (flow_at s g) ≡ 0
  beyond = beyond_not_active s R.all_flows

  at_turn : (turn : Serving) → s.round.turn ≡ turn → RoundRules (flow_at s) s.round turn
  at_turn turn t = subst (RoundRules (flow_at s) s.round) t R.round_rules

  in_range_by : (turn : Serving) → RoundRules (flow_at s) s.round turn → InRange s.round
  unfolding RoundRules
  in_range_by NoTurn L =
      record { line_in_range = omega (arith, line_fits L beyond); mark_in_range = L.mark_in_range; running_in_range = L.running_in_range }
  in_range_by (Turn f a n) T =
      record { line_in_range = omega (arith, line_fits T.0 beyond); mark_in_range = T.0.mark_in_range; running_in_range = T.0.running_in_range }

  pub in_range : InRange s.round
  in_range = in_range_by s.round.turn R.round_rules

  room_by : (turn : Serving) → RoundRules (flow_at s) s.round turn → (f : ℕ) → f < flow_limit → activity (flow_at s f) ≡ 0 → length s.round.line < flow_limit
  unfolding RoundRules
  room_by NoTurn L f b a = omega (arith, line_has_room L beyond f b a)
  room_by (Turn g m n) T f b a = omega (arith, line_has_room T.0 beyond f b a)

  -- While a flow is not active the line has room for it.
  pub room_for_another : (f : ℕ) → f < flow_limit → (flow_at s f).queue ≡ [] → length s.round.line < flow_limit
  room_for_another f b e = room_by s.round.turn R.round_rules f b (ap (λ (q : List ℕ). if_empty q 0 1) e)

  pub turn_facts : (f allowed sent : ℕ) → s.round.turn ≡ Turn f allowed sent → TurnFacts s f allowed sent
  unfolding RoundRules
  turn_facts f allowed sent t = from (at_turn (Turn f allowed sent) t)
    where
      from : RoundRules (flow_at s) s.round (Turn f allowed sent) → TurnFacts s f allowed sent
      from T =
          let waits : (flow_at s f).queue ≡ [] → ⊥ = standing_waits (flow_at s f) (omega (arith, T.0.stands_once f, count_head f s.round.line)) in
          record {
            in_reach = waiting_in_reach s f R.all_flows waits;
            waits = waits;
            weighs = weighs (flow_at s f) (R.flow_rules f) waits;
            no_surplus = T.1.has_no_surplus;
            line_has_room = omega (arith, line_fits T.0 beyond);
            a_visit_left = T.1.counts_a_visit;
            allowed_in_range = omega (arith, T.1.allowed_at_most, mul-le-mul (R.flow_rules f).weight_in_range T.0.mark_in_range, (R.flow_rules f).weight_in_range);
            more_may_be_sent = T.1.more_may_be_sent;
          }

  -- Where a round starts, all of the line is visited in it; otherwise the head is among those to be visited.
  owed_by_head : (visits : ℕ) (f : ℕ) (l : List ℕ) → s.round.visits ≡ visits
      → LineRules (flow_at s) [] (f ∷ l) s.round.mark s.round.running visits
      → (flow_at s f).surplus ≤ (flow_at s f).weight * if_zero visits s.round.running s.round.mark
  owed_by_head zero f l v L = (round_starts L).owed_this_round f (rw (take-length (f ∷ l)) (omega (arith, count_head f l)))
  owed_by_head (suc n) f l v L = L.owed_this_round f (omega (arith, count_head f (take n l)))

  pub head_facts : s.round.turn ≡ NoTurn → 0 < length s.round.line → HeadFacts s (get_or s.round.line 0 0)
  unfolding RoundRules round_started
  head_facts t h = from s.round.line refl h
    where
      rules : LineRules (flow_at s) [] s.round.line s.round.mark s.round.running s.round.visits
      rules = at_turn NoTurn t

      from : (l : List ℕ) → s.round.line ≡ l → 0 < length l → HeadFacts s (get_or l 0 0)
      from [] e b = absurd (omega arith)
      from (f ∷ l) e b =
          let L : LineRules (flow_at s) [] (f ∷ l) s.round.mark s.round.running s.round.visits =
          subst (λ (k : List ℕ). LineRules (flow_at s) [] k s.round.mark s.round.running s.round.visits) e rules in
          let waits : (flow_at s f).queue ≡ [] → ⊥ = standing_waits (flow_at s f) (omega (arith, L.stands_once f, count_head f l)) in
          record {
            in_reach = waiting_in_reach s f R.all_flows waits;
            waits = waits;
            weighs = weighs (flow_at s f) (R.flow_rules f) waits;
            owed = owed_by_head s.round.visits f l refl L;
          }

  never_twice_by : (turn : Serving) → RoundRules (flow_at s) s.round turn → (f : ℕ) → count f (standing_with turn s.round.line) ≤ 1
  unfolding RoundRules
  never_twice_by NoTurn L f = omega (arith, L.stands_once f, activity_at_most_one (flow_at s f))
  never_twice_by (Turn g a n) T f = omega (arith, T.0.stands_once f, activity_at_most_one (flow_at s f))

  -- No flow stands twice, in line or once there and once with the open turn.
  pub never_twice : (f : ℕ) → count f (standing s.round) ≤ 1
  never_twice = never_twice_by s.round.turn R.round_rules

  -- Nor does the flow of an open turn stand in line.
  pub turn_not_in_line : (f allowed sent : ℕ) → s.round.turn ≡ Turn f allowed sent → count f s.round.line ≡ 0
  unfolding RoundRules
  turn_not_in_line f allowed sent t = from (at_turn (Turn f allowed sent) t)
    where
      from : RoundRules (flow_at s) s.round (Turn f allowed sent) → count f s.round.line ≡ 0
      from T = omega (arith, count_head f s.round.line, T.0.stands_once f, activity_at_most_one (flow_at s f))

  -- The flow that a departure concerns is one of the state's.
  pub whose_in_reach : whose s.round < flow_limit
  whose_in_reach = by s.round.turn refl s.round.line refl
    where
      by : (turn : Serving) → s.round.turn ≡ turn → (l : List ℕ) → s.round.line ≡ l → whose_turn turn l < flow_limit
      by (Turn f a n) t l e = (turn_facts f a n t).in_reach
      by NoTurn t [] e = omega arith
      by NoTurn t (f ∷ l) e =
          omega (arith, (head_facts t (omega (arith, ap length e))).in_reach, ap (λ (k : List ℕ). get_or k 0 0) e)

  -- With no open turn and nobody in line, nothing waits.
  pub nobody_waits : s.round.turn ≡ NoTurn → s.round.line ≡ [] → (f : ℕ) → (flow_at s f).queue ≡ []
  unfolding RoundRules count
  nobody_waits t l f = empty (flow_at s f).queue refl
    where
      rules : LineRules (flow_at s) [] s.round.line s.round.mark s.round.running s.round.visits
      rules = at_turn NoTurn t

      empty : (q : List ℕ) → (flow_at s f).queue ≡ q → q ≡ []
      empty [] e = refl
      empty (p ∷ q) e =
          absurd (omega (arith, rules.stands_once f, ap (count f) l, ap (λ (k : List ℕ). if_empty {A = ℕ} k 0 1) e))

  -- In an open turn the allowance is at least the flow's weight.
  pub turn_allowed_at_least_weight : (f allowed sent : ℕ) → s.round.turn ≡ Turn f allowed sent → (flow_at s f).weight ≤ allowed
  unfolding RoundRules
  turn_allowed_at_least_weight f allowed sent t = from (at_turn (Turn f allowed sent) t)
    where
      from : RoundRules (flow_at s) s.round (Turn f allowed sent) → (flow_at s f).weight ≤ allowed
      from T = T.1.allowed_at_least_weight
