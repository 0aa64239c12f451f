-- What the functions of a departure may count on, which the state's calls show from `Sound`; and what they make of a round and a flow.
use Rattle.std.specs.Prelude.{ℕ, ◌*◌, ◌≤◌, ◌<◌, ◌≡◌, List, [], ◌∷◌}
use Rattle.model.specs.Limits.{flow_limit, allowance_limit}
use Rattle.model.specs.Model.{Flow, Round}
use Rattle.model.specs.Steps.{Visit, round_started, head_allowance, turn_opened}
use Rattle.model.specs.declared.Reply.{Reply}
use Rattle.model.specs.declared.Serving.{Serving}
use Rattle.model.specs.declared.Serving.TheVariants.{NoTurn, Turn}
use Rattle.steps.specs.Cells.{encode_flow}
use Rattle.steps.specs.Premises.{RoundInPlace, in_place, encode_round, view_round, FlowReady, HasFirst, RoundReady}
use Rattle.steps.specs.declared.FlowCell.{FlowCell}
use Rattle.steps.specs.declared.RoundCell.{RoundCell}

-- A turn of the flow is open in which more may be sent.
pub record MayServe (r : RoundInPlace) (x : FlowCell) (allowed sent : ℕ) : Type 0 where
  pub round_ready : RoundReady r
  pub has_first : HasFirst x
  pub weighs : 1 ≤ x.weight
  pub no_surplus : x.surplus ≡ 0
  pub line_has_room : r.length < flow_limit
  pub a_visit_left : 1 ≤ r.visits
  pub allowed_in_range : allowed ≤ allowance_limit
  pub more_may_be_sent : sent < allowed

-- The flow is at the head of the line, and owes no more than the mark of the round in which its turn opens covers.
pub record MayBegin (r : RoundInPlace) (x : FlowCell) : Type 0 where
  pub round_ready : RoundReady r
  pub some_in_line : 0 < r.length
  pub has_first : HasFirst x
  pub weighs : 1 ≤ x.weight
  pub owed : x.surplus ≤ x.weight * (round_started (view_round r)).mark

pub record MayVisit (r : RoundInPlace) (x : FlowCell) : Type 0 where
  pub round_ready : RoundReady r
  pub flow_ready : FlowReady x
  pub in_turn : (f allowed sent : ℕ) → r.turn ≡ Turn f allowed sent → MayServe r x allowed sent
  pub at_head : r.turn ≡ NoTurn → (r.length ≡ 0 → ⊥) → MayBegin r x

-- Step 2: the round with a turn open, opened here where none was; unchanged where nobody stands in line.
unfoldable pub begun_by : Serving → List ℕ → Round → Flow → Round
begun_by (Turn f allowed sent) line r x = r
begun_by NoTurn [] r x = r
begun_by NoTurn (f ∷ line) r x = turn_opened (round_started r) f (head_allowance r x)

unfoldable pub begun_turn : Round → Flow → Round
begun_turn r x = begun_by r.turn r.line r x

-- What a departure call makes of a round and a flow, as code keeps them, with its reply.
pub record VisitInPlace : Type 0 where
  pub round : RoundInPlace
  pub flow : FlowCell
  pub reply : Reply

unfoldable pub encode_visit : Visit → VisitInPlace
encode_visit v = record { round = encode_round v.round; flow = encode_flow v.flow; reply = v.reply }

abbrev pub visit_in_place : List ℕ → RoundCell → FlowCell → Reply → VisitInPlace
visit_in_place line r x reply = record { round = in_place line r; flow = x; reply = reply }
