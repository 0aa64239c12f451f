-- Document 01's steps 1 to 6. Every step concerns the round and one flow.
use Rattle.std.specs.Prelude.{ℕ, ◌+◌, ◌*◌, ◌-◌, ◌/◌, ◌%◌, max, List, [], ◌∷◌, ◌++◌, Bool, true, false, cond, length, get_or, drop, leb}
use Rattle.model.specs.Limits.{queue_limit}
use Rattle.model.specs.Choose.{if_empty, if_zero}
use Rattle.model.specs.Model.{Flow, Round}
use Rattle.model.specs.declared.Serving.{Serving}
use Rattle.model.specs.declared.Serving.TheVariants.{NoTurn, Turn}
use Rattle.model.specs.declared.Reply.{Reply}
use Rattle.model.specs.declared.Reply.TheVariants.{Departure, Idle}

-- Where bytes lie: a flow's slots follow each other, the last being followed by slot 0.
abbrev pub next_slot : ℕ → ℕ
next_slot k = (k + 1) % queue_limit

-- The next packet takes the slot behind those of the packets that wait, the first of which lies in the flow's slot. So a flow's first packet since
-- reset takes slot 0, and each later one the next.
abbrev pub next_slot_of : Flow → ℕ
next_slot_of x = (x.slot + length x.queue) % queue_limit

-- Step 1. An accepted packet joins the end of its flow's queue. If the flow was not active, it goes to the end of the line with surplus 0.
unfoldable pub packet_joined : Flow → ℕ → Flow
packet_joined x size = record { weight = x.weight; surplus = if_empty x.queue 0 x.surplus; slot = x.slot; queue = x.queue ++ (size ∷ []) }

unfoldable pub flow_lined : Round → ℕ → Flow → Round
flow_lined r f x =
    record {
      line = if_empty x.queue (r.line ++ (f ∷ [])) r.line;
      visits = r.visits;
      mark = r.mark;
      running = r.running;
      turn = r.turn;
    }

-- Step 2. If visits left is 0, a round starts: mark becomes running mark, running mark becomes 0, visits left becomes the length of the line.
unfoldable pub round_started : Round → Round
round_started r =
    record {
      line = r.line;
      visits = if_zero r.visits (length r.line) r.visits;
      mark = if_zero r.visits r.running r.mark;
      running = if_zero r.visits 0 r.running;
      turn = r.turn;
    }

-- Allowance = weight × (1 + mark) − surplus.
abbrev pub allowance : ℕ → ℕ → ℕ → ℕ
allowance weight mark surplus = weight * (1 + mark) - surplus

-- The flow f at the head leaves the line and opens a turn; its surplus then becomes 0.
unfoldable pub turn_opened : Round → ℕ → ℕ → Round
turn_opened r f allowed =
    record { line = drop 1 r.line; visits = r.visits; mark = r.mark; running = r.running; turn = Turn f allowed 0 }

unfoldable pub surplus_cleared : Flow → Flow
surplus_cleared x = record { weight = x.weight; surplus = 0; slot = x.slot; queue = x.queue }

-- Step 3. The first packet of the turn's flow leaves.
abbrev pub first_size : Flow → ℕ
first_size x = get_or x.queue 0 0

unfoldable pub first_left : Flow → Flow
first_left x = record { weight = x.weight; surplus = x.surplus; slot = next_slot x.slot; queue = drop 1 x.queue }

-- Step 4. The turn ends if bytes sent is at least the allowance, or the queue is now empty.
abbrev pub turn_ends : ℕ → ℕ → List ℕ → Bool
turn_ends allowed sent queue = if_empty queue true (leb allowed sent)

-- Otherwise it stays open, with what is now sent.
unfoldable pub turn_kept : Round → ℕ → ℕ → ℕ → Round
turn_kept r f allowed sent = record { line = r.line; visits = r.visits; mark = r.mark; running = r.running; turn = Turn f allowed sent }

-- Step 5. Excess = bytes sent − allowance; if it is 0 or more, the running mark becomes the larger of itself and excess ÷ weight rounded up.
abbrev pub rounded_up : ℕ → ℕ → ℕ
rounded_up excess weight = (excess + (weight - 1)) / weight

unfoldable pub raised : ℕ → ℕ → ℕ → ℕ → ℕ
raised running weight allowed sent = cond (leb allowed sent) (max running (rounded_up (sent - allowed) weight)) running

-- Step 6. Visits left falls by 1. With packets waiting, the flow's surplus is the excess and it goes to the end of the line.
-- With none, surplus is 0 and it is not active.
unfoldable pub turn_closed : Round → Flow → ℕ → ℕ → ℕ → Round
turn_closed r x f allowed sent =
    record {
      line = if_empty x.queue r.line (r.line ++ (f ∷ []));
      visits = r.visits - 1;
      mark = r.mark;
      running = raised r.running x.weight allowed sent;
      turn = NoTurn;
    }

unfoldable pub excess_kept : Flow → ℕ → ℕ → Flow
excess_kept x allowed sent = record { weight = x.weight; surplus = if_empty x.queue 0 (sent - allowed); slot = x.slot; queue = x.queue }

-- What a departure call makes of the round and of the flow whose turn it is, and what it replies.
pub record Visit : Type 0 where
  pub round : Round
  pub flow : Flow
  pub reply : Reply

-- Steps 4 to 6, once the first packet has left and bytes sent have grown.
unfoldable pub settled : Bool → Round → Flow → ℕ → ℕ → ℕ → Reply → Visit
settled true r x f allowed sent reply = record { round = turn_closed r x f allowed sent; flow = excess_kept x allowed sent; reply = reply }
settled false r x f allowed sent reply = record { round = turn_kept r f allowed sent; flow = x; reply = reply }

-- Steps 3 to 6, in the open turn of flow f.
unfoldable pub served : Round → Flow → ℕ → ℕ → ℕ → Visit
served r x f allowed sent =
    settled (turn_ends allowed (sent + first_size x) (drop 1 x.queue))
    r
    (first_left x)
    f
    allowed
    (sent + first_size x)
    (Departure (record { flow = f; size = first_size x; mark = r.mark; allowance = allowed }))

-- The allowance of the flow at the head, by the mark of the round in which its turn opens.
abbrev pub head_allowance : Round → Flow → ℕ
head_allowance r x = allowance x.weight (round_started r).mark x.surplus

-- Steps 2 to 6: idle where no turn is open and the line is empty; else the turn's flow is served, or the one at the head.
unfoldable pub visit_by : Serving → List ℕ → Round → Flow → Visit
visit_by (Turn f allowed sent) line r x = served r x f allowed sent
visit_by NoTurn [] r x = record { round = r; flow = x; reply = Idle }
visit_by NoTurn (f ∷ line) r x =
    served (turn_opened (round_started r) f (head_allowance r x)) (surplus_cleared x) f (head_allowance r x) 0

unfoldable pub visit : Round → Flow → Visit
visit r x = visit_by r.turn r.line r x

-- The flow that a departure call concerns: that of the open turn or, with none open, the head of the line.
abbrev pub whose_turn : Serving → List ℕ → ℕ
whose_turn (Turn f allowed sent) line = f
whose_turn NoTurn line = get_or line 0 0

abbrev pub whose : Round → ℕ
whose r = whose_turn r.turn r.line
