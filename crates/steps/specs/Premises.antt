-- What the private functions may count on, which every public call shows from `Sound`; and how what they make of the parts of a state is told.
use Rattle.std.specs.Prelude.{ℕ, ◌+◌, ◌≤◌, ◌<◌, ◌≡◌, List, length, take, Result}
use Rattle.model.specs.Limits.{size_limit, queue_limit, flow_limit, mark_limit, allowance_limit}
use Rattle.model.specs.Model.{Round}
use Rattle.model.specs.Rules.{FlowRules}
use Rattle.model.specs.Choose.{if_ok}
use Rattle.model.specs.Calls.{open_answer, offer_answer, open_flow}
use Rattle.model.specs.Replies.{Answer}
use Rattle.model.specs.Steps.{packet_joined, flow_lined}
use Rattle.model.specs.declared.Refusal.{Refusal}
use Rattle.model.specs.declared.Serving.{Serving}
use Rattle.steps.specs.Cells.{cells, line_room, encode_flow, view_flow}
use Rattle.steps.specs.Places.{offered_place}
use Rattle.steps.specs.declared.FlowCell.{FlowCell}
use Rattle.steps.specs.declared.Place.{Place}
use Rattle.steps.specs.declared.RoundCell.{RoundCell}

-- The flow is one of a sound state.
pub record FlowReady (x : FlowCell) : Type 0 where
  pub form : x ≡ encode_flow (view_flow x)
  pub rules : FlowRules (view_flow x)

-- It also has a packet waiting.
pub record HasFirst (x : FlowCell) : Type 0 where
  pub ready : FlowReady x
  pub waits : 0 < x.waiting

-- It also has room for a packet of this size.
pub record HasRoom (x : FlowCell) (size : ℕ) : Type 0 where
  pub ready : FlowReady x
  pub room : x.waiting < queue_limit
  pub size_positive : 1 ≤ size
  pub size_small : size ≤ size_limit

-- A round as the steps have it: the cells of the line, which are lent, and the numbers beside them.
pub record RoundInPlace : Type 0 where
  pub line : List ℕ
  pub length : ℕ
  pub visits : ℕ
  pub mark : ℕ
  pub running : ℕ
  pub turn : Serving

abbrev pub in_place : List ℕ → RoundCell → RoundInPlace
in_place line c = record { line = line; length = c.length; visits = c.visits; mark = c.mark; running = c.running; turn = c.turn }

abbrev pub numbers_of : RoundInPlace → RoundCell
numbers_of r = record { length = r.length; visits = r.visits; mark = r.mark; running = r.running; turn = r.turn }

unfoldable pub encode_round : Round → RoundInPlace
encode_round r =
    record {
      line = cells line_room r.line;
      length = length r.line;
      visits = r.visits;
      mark = r.mark;
      running = r.running;
      turn = r.turn;
    }

unfoldable pub view_round : RoundInPlace → Round
view_round c =
    record { line = take c.length c.line; visits = c.visits; mark = c.mark; running = c.running; turn = c.turn }

-- In a turn fewer bytes are sent than this.
abbrev pub sent_limit : ℕ
sent_limit = allowance_limit + size_limit

-- The round is one of a sound state.
pub record RoundReady (r : RoundInPlace) : Type 0 where
  pub form : r ≡ encode_round (view_round r)
  pub line_fits : r.length ≤ flow_limit
  pub mark_in_range : r.mark ≤ mark_limit
  pub running_in_range : r.running ≤ mark_limit

-- A step that leaves the line alone gives these numbers, whatever line lies beside them.
abbrev pub StepGives : RoundCell → (Round → Round) → RoundCell → Type 0
StepGives r step c = (line : List ℕ) → RoundReady (in_place line r) → in_place line c ≡ encode_round (step (view_round (in_place line r)))

-- What open makes of the flow that it concerns, with its answer.
pub record OpenInPlace : Type 0 where
  pub flow : FlowCell
  pub answer : Answer

abbrev pub open_in_place : FlowCell → Answer → OpenInPlace
open_in_place x answer = record { flow = x; answer = answer }

unfoldable pub opened_parts : FlowCell → ℕ → ℕ → OpenInPlace
opened_parts x f weight =
    record {
      flow = encode_flow (if_ok (open_answer f weight (view_flow x)) (open_flow weight) (view_flow x));
      answer = open_answer f weight (view_flow x);
    }

-- What offer makes of the round and of the flow that it concerns, with its reply.
pub record OfferInPlace : Type 0 where
  pub round : RoundInPlace
  pub flow : FlowCell
  pub reply : Result Place Refusal

abbrev pub offer_in_place : List ℕ → RoundCell → FlowCell → Result Place Refusal → OfferInPlace
offer_in_place line r x reply = record { round = in_place line r; flow = x; reply = reply }

unfoldable pub offered_parts : RoundInPlace → FlowCell → ℕ → ℕ → OfferInPlace
offered_parts r x f size =
    record {
      round = encode_round (if_ok (offer_answer f size (view_flow x)) (flow_lined (view_round r) f (view_flow x)) (view_round r));
      flow = encode_flow (if_ok (offer_answer f size (view_flow x)) (packet_joined (view_flow x) size) (view_flow x));
      reply = offered_place f (view_flow x) size;
    }
