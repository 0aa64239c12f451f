-- Document 01's calls on packet sizes: their checks in order, what they do, and what they reply.
use Rattle.std.specs.Prelude.{ℕ, zero, suc, List, [], ◌∷◌, ◌++◌, map, cond, ◌||◌, length, set, drop, leb, ltb, eqb, Ok, Err}
use Rattle.model.specs.Limits.{flow_limit, weight_limit, size_limit, queue_limit}
use Rattle.model.specs.Choose.{if_ok}
use Rattle.model.specs.Model.{Flow, Round, Scheduler, flow_at}
use Rattle.model.specs.Replies.{Answer, Count}
use Rattle.model.specs.Steps.{Visit, packet_joined, flow_lined, visit, whose}
use Rattle.model.specs.declared.Sent.{Sent}
use Rattle.model.specs.declared.Reply.{Reply}
use Rattle.model.specs.declared.Reply.TheVariants.{Departure, Idle, Refused}
use Rattle.model.specs.declared.Refusal.TheVariants.{NoSuchFlow, BadWeight, OpenAlready, NotOpen, BadSize, QueueFull, ListShort}
use Rattle.model.specs.declared.Outcome.{Outcome}

-- The state with the round and the flow f put in place.
unfoldable pub put : Scheduler → ℕ → Flow → Round → Scheduler
put s f x r = record { flows = set s.flows f x; round = r }

-- A refusal returns only its number: the state is as before.
unfoldable pub unless_refused : Answer → Scheduler → Scheduler → Outcome Scheduler Answer
unless_refused answer before after = record { state = if_ok answer after before; reply = answer }

-- Open: 1, 2, 3.
abbrev pub open_answer : ℕ → ℕ → Flow → Answer
open_answer f weight x =
    cond (leb flow_limit f) (Err NoSuchFlow)
    (cond (eqb weight 0 || ltb weight_limit weight) (Err BadWeight) (cond (eqb x.weight 0) (Ok tt) (Err OpenAlready)))

abbrev pub open_flow : ℕ → Flow
open_flow weight = record { weight = weight; surplus = 0; slot = 0; queue = [] }

unfoldable pub opened : Scheduler → ℕ → ℕ → Outcome Scheduler Answer
opened s f weight = unless_refused (open_answer f weight (flow_at s f)) s (put s f (open_flow weight) s.round)

-- Offer: 1, 4, 5, 6.
abbrev pub offer_answer : ℕ → ℕ → Flow → Answer
offer_answer f size x =
    cond (leb flow_limit f) (Err NoSuchFlow)
    (cond (eqb x.weight 0) (Err NotOpen)
    (cond (eqb size 0 || ltb size_limit size) (Err BadSize) (cond (leb queue_limit (length x.queue)) (Err QueueFull) (Ok tt))))

unfoldable pub offered : Scheduler → ℕ → ℕ → Outcome Scheduler Answer
offered s f size =
    unless_refused (offer_answer f size (flow_at s f)) s (put s f (packet_joined (flow_at s f) size) (flow_lined s.round f (flow_at s f)))

-- Departure, on the round and the flow whose turn it is.
abbrev pub next_visit : Scheduler → Visit
next_visit s = visit s.round (flow_at s (whose s.round))

unfoldable pub departed : Scheduler → Outcome Scheduler Reply
departed s = record { state = put s (whose s.round) (next_visit s).flow (next_visit s).round; reply = (next_visit s).reply }

-- Up to n departures, one after the other, ending at the first that is none.
pub record Departures : Type 0 where
  pub state : Scheduler
  pub sent : List Sent

unfoldable pub and_then : Reply → Scheduler → Departures → Departures
and_then (Departure d) s more = record { state = more.state; sent = d ∷ more.sent }
and_then Idle s more = record { state = s; sent = [] }
and_then (Refused k) s more = record { state = s; sent = [] }

unfoldable pub departures : ℕ → Scheduler → Departures
departures zero s = record { state = s; sent = [] }
departures (suc n) s = and_then (departed s).reply (departed s).state (departures n (departed s).state)

-- The bytes that the departures write: their flow numbers.
abbrev pub flow_numbers : List Sent → List ℕ
flow_numbers sent = map (λ (d : Sent). d.flow) sent

-- What burst gives: the state, the lent list, and a reply.
pub record Burst : Type 0 where
  pub state : Scheduler
  pub list : List ℕ
  pub reply : Count

-- The reply carries the number of departures made; the rest of the list is unchanged.
unfoldable pub burst_made : List ℕ → Departures → Burst
burst_made list d = record { state = d.state; list = flow_numbers d.sent ++ drop (length d.sent) list; reply = Ok (length d.sent) }

-- Burst: 9, where the lent list is shorter than the number asked. It writes the flow number of each departure from the list's start.
unfoldable pub burst : Scheduler → ℕ → List ℕ → Burst
burst s n list =
    cond (ltb (length list) n) (record { state = s; list = list; reply = Err ListShort }) (burst_made list (departures n s))
