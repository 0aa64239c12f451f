-- What the calls of the order layer do, where they meet their contracts: the state that each gives back, and what its caller sees.
use Rattle.std.specs.Prelude.{ℕ, suc, List, [], ◌++◌, Result}
use Rattle.model.specs.Replies.{Answer, Count, of_answer, of_reply, of_count, sent_by, taken_by, made_by}
use Rattle.model.specs.Chain.{Seen, seen_reset, seen_asking, seen_departing}
use Rattle.model.specs.OrderCalls.{Call, Packet, resetting, opening, offering, departing, bursting}
use Rattle.model.specs.declared.Sent.{Sent}
use Rattle.order.specs.Promised.{NewGives, OpenGives, OfferGives, DepartGives, BurstGives}
use Rattle.order.specs.State.{State}
use Rattle.order.specs.declared.Departed.{Departed}
use Rattle.steps.specs.declared.Place.{Place}
use Rattle.model.specs.declared.Outcome.{Outcome}
use Rattle.model.specs.declared.Refusal.{Refusal}

-- The departures that n single calls tell of, and where they lead.
pub data Singles : ℕ → State → List Sent → State → Type 0 where
  none : {c : State} → Singles 0 c [] c
  one_more : {n : ℕ} {c t : State} {r : Outcome State Departed} {sent : List Sent} → DepartGives c r → Singles n r.state sent t
      → Singles (suc n) c (sent_by r.reply.reply ++ sent) t

-- A burst tells flow numbers only: what leaves is what as many single calls tell of.
pub data Does : State → Call → State → Seen Packet Sent → Type 0 where
  resets : {c r : State} → NewGives r → Does c resetting r seen_reset
  opens : {c : State} {f weight : ℕ} {r : Outcome State Answer} → OpenGives c f weight r
      → Does c (opening f weight) r.state (seen_asking (of_answer r.reply) [])
  offers : {c : State} {f size : ℕ} {r : Outcome State (Result Place Refusal)} → OfferGives c f size r
      → Does c (offering f size) r.state (seen_asking (of_answer r.reply) (taken_by r.reply (record { flow = f; size = size })))
  departs : {c : State} {r : Outcome State Departed} → DepartGives c r
      → Does c departing r.state (seen_departing (of_reply r.reply.reply) [] [] (sent_by r.reply.reply))
  bursts : {c t : State} {n : ℕ} {before list : List ℕ} {r : Outcome State Count} {sent : List Sent} → BurstGives c n before list r → Singles n c sent t
      → Does c (bursting n before) r.state (seen_departing (of_count r.reply) before list (made_by r.reply sent))
