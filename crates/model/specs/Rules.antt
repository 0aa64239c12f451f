-- Document 01's rules of the state, which hold of every state that calls give: the ranges of its table; a flow is active exactly when it has a
-- packet waiting; it stands once in the line or is the flow of the open turn, never both; every allowance is at least the flow's weight.
-- They are facts of one state, and not of how it came about.
use Rattle.std.specs.Prelude.{ℕ, ◌+◌, ◌*◌, ◌-◌, ◌≤◌, ◌<◌, ◌≡◌, List, [], ◌∷◌, ◌++◌, cond, length, take, drop, eqb}
use Rattle.model.specs.Limits.{flow_limit, weight_limit, size_limit, queue_limit, mark_limit}
use Rattle.model.specs.Choose.{if_empty}
use Rattle.model.specs.Model.{Flow, Round, Scheduler, flow_at}
use Rattle.model.specs.declared.Serving.{Serving}
use Rattle.model.specs.declared.Serving.TheVariants.{NoTurn, Turn}

-- Every size is 1 to 256.
pub data Sizes : List ℕ → Type 0 where
  none : Sizes []
  one : {p : ℕ} {q : List ℕ} → 1 ≤ p → p ≤ size_limit → Sizes q → Sizes (p ∷ q)

-- The rules of one flow.
pub record FlowRules (x : Flow) : Type 0 where
  pub weight_in_range : x.weight ≤ weight_limit
  pub surplus_in_range : x.surplus ≤ mark_limit
  pub slot_in_range : x.slot < queue_limit
  pub waiting_in_range : length x.queue ≤ queue_limit
  pub sizes_in_range : Sizes x.queue
  -- only an open flow has packets, and only a flow with packets has a surplus
  pub open_if_waiting : x.weight ≡ 0 → x.queue ≡ []
  pub no_surplus_if_empty : x.queue ≡ [] → x.surplus ≡ 0

-- How often the flow f stands in a list of flow numbers.
unfoldable pub count : ℕ → List ℕ → ℕ
count f [] = 0
count f (g ∷ l) = cond (eqb f g) 1 0 + count f l

-- The flows that stand: that of the open turn, and those in line.
abbrev pub standing_with : Serving → List ℕ → List ℕ
standing_with (Turn f allowed sent) line = f ∷ line
standing_with NoTurn line = line

abbrev pub standing : Round → List ℕ
standing r = standing_with r.turn r.line

-- A flow is active, which counts 1, exactly when it has a packet waiting.
abbrev pub activity : Flow → ℕ
activity x = if_empty x.queue 0 1

-- The rules of the flows in line, the first n of which are still to be visited in this round, while the flows of `out` are out of the line.
pub record LineRules (flow : ℕ → Flow) (out line : List ℕ) (mark running n : ℕ) : Type 0 where
  pub mark_in_range : mark ≤ mark_limit
  pub running_in_range : running ≤ mark_limit
  -- an active flow stands once, a flow that is not active nowhere
  pub stands_once : (f : ℕ) → count f (out ++ line) ≡ activity (flow f)
  pub visits_in_line : n ≤ length line
  -- what a flow sent too much is covered by the mark of the round in which it is visited next
  pub owed_this_round : (f : ℕ) → 1 ≤ count f (take n line) → (flow f).surplus ≤ (flow f).weight * mark
  pub owed_next_round : (f : ℕ) → 1 ≤ count f (drop n line) → (flow f).surplus ≤ (flow f).weight * running

-- The rules of an open turn.
pub record TurnRules (x : Flow) (visits mark allowed sent : ℕ) : Type 0 where
  pub counts_a_visit : 1 ≤ visits
  pub has_no_surplus : x.surplus ≡ 0
  pub allowed_at_least_weight : x.weight ≤ allowed
  pub allowed_at_most : allowed ≤ x.weight * (1 + mark)
  pub more_may_be_sent : sent < allowed

unfoldable pub RoundRules : (ℕ → Flow) → Round → Serving → Type 0
RoundRules flow r NoTurn = LineRules flow [] r.line r.mark r.running r.visits
RoundRules flow r (Turn f allowed sent) =
    LineRules flow (f ∷ []) r.line r.mark r.running (r.visits - 1) × TurnRules (flow f) r.visits r.mark allowed sent × (1 ≤ sent)

pub record Rules (s : Scheduler) : Type 0 where
  pub all_flows : length s.flows ≡ flow_limit
  pub flow_rules : (f : ℕ) → FlowRules (flow_at s f)
  pub round_rules : RoundRules (flow_at s) s.round s.round.turn
