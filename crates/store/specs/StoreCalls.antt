-- The calls on packet bytes, on one scheduler and one store, and what each does.
use Rattle.std.specs.Prelude.{ℕ, ◌-◌, ◌≡◌, List, [], ◌∷◌, ◌++◌, map, cond, length, take, drop, replicate, eqb}
use Rattle.model.specs.Model.{Scheduler, flow_at, new_scheduler}
use Rattle.model.specs.Steps.{next_slot}
use Rattle.model.specs.Calls.{opened}
use Rattle.model.specs.Replies.{of_answer, of_reply, sent_by, taken_by}
use Rattle.model.specs.Chain.{Effect, Kind, seen_reset, seen_asking, seen_departing}
use Rattle.model.specs.OrderCalls.{turn_then}
use Rattle.model.specs.declared.Reply.{Reply}
use Rattle.model.specs.declared.Sent.{Sent}
use Rattle.store.specs.Slots.{held, store_length}
use Rattle.store.specs.Calls.{AfterOffer, AfterDeparture, store_offer, store_depart}

-- A call with what is passed to it: a flow and a weight; a flow, a packet and how many bytes of the store are lent; how many bytes of the store are
-- lent and an outgoing buffer.
pub data StoreCall : Type 0 where
  resetting : StoreCall
  opening : ℕ → ℕ → StoreCall
  offering : ℕ → List ℕ → ℕ → StoreCall
  departing : ℕ → List ℕ → StoreCall

-- A scheduler, or a site that keeps one, with the store that goes with it.
pub record WithStore (A : Type 0) : Type 0 where
  pub keeper : A
  pub store : List ℕ

abbrev pub with_store : {A : Type 0} → A → List ℕ → WithStore A
with_store keeper store = record { keeper = keeper; store = store }

-- The n bytes lent: the first of the store, with zeros behind them where it has fewer.
unfoldable pub lent : ℕ → List ℕ → List ℕ
lent n store = take n store ++ replicate (n - length store) 0

-- The store once the n bytes lent have come back.
unfoldable pub back : List ℕ → ℕ → List ℕ → List ℕ
back store n bytes = take (length store) bytes ++ drop n store

pub record Packet : Type 0 where
  pub flow : ℕ
  pub bytes : List ℕ

-- The packet that leaves, if the reply tells of one: its bytes are the first of the outgoing buffer after the call, as many as the reply's size.
unfoldable pub put_out : Reply → List ℕ → List Packet
put_out reply out = map (λ (d : Sent). record { flow = d.flow; bytes = take d.size out }) (sent_by reply)

-- Only an offer writes in the store.
abbrev pub offer_does : List ℕ → ℕ → List ℕ → ℕ → AfterOffer → Effect (WithStore Scheduler) Packet Packet
offer_does store f packet n o =
    record {
      state = with_store o.state (back store n o.store);
      seen = seen_asking (of_answer o.answer) (taken_by o.answer (record { flow = f; bytes = packet }));
      completes = [];
    }

abbrev pub departure_does : List ℕ → List ℕ → AfterDeparture → Effect (WithStore Scheduler) Packet Packet
departure_does store out o =
    record {
      state = with_store o.state store;
      seen = seen_departing (of_reply o.reply) out o.out (put_out o.reply o.out);
      completes = turn_then o.reply o.state.round.turn [];
    }

unfoldable pub does : WithStore Scheduler → StoreCall → Effect (WithStore Scheduler) Packet Packet
does s resetting = record { state = with_store new_scheduler s.store; seen = seen_reset; completes = [] }
does s (opening f weight) =
    record {
      state = with_store (opened s.keeper f weight).state s.store;
      seen = seen_asking (of_answer (opened s.keeper f weight).reply) [];
      completes = [];
    }
does s (offering f packet n) = offer_does s.store f packet n (store_offer s.keeper f packet (lent n s.store))
does s (departing n out) = departure_does s.store out (store_depart s.keeper (lent n s.store) out)

-- A chain begins on a new scheduler and a store that may hold anything.
abbrev pub store_calls : Kind
store_calls =
    record {
      State = WithStore Scheduler;
      Call = StoreCall;
      Packet = Packet;
      Departure = Packet;
      does = does;
      New = λ s. (s.keeper ≡ new_scheduler) × (length s.store ≡ store_length);
      scheduler = λ s. s.keeper;
      flow_of = λ p. p.flow;
      size_of = λ p. length p.bytes;
    }

-- The bytes of the packets of flow f, packet by packet, in order.
unfoldable pub bytes_of : ℕ → List Packet → List (List ℕ)
bytes_of f [] = []
bytes_of f (p ∷ l) = cond (eqb p.flow f) (p.bytes ∷ []) [] ++ bytes_of f l

-- The bytes of the packets of a queue, which lie in flow f's slots from slot k on.
unfoldable pub held_from : List ℕ → ℕ → ℕ → List ℕ → List (List ℕ)
held_from store f k [] = []
held_from store f k (n ∷ q) = held store f k n ∷ held_from store f (next_slot k) q

-- The bytes of flow f's waiting packets, in queue order.
unfoldable pub waiting_bytes : Scheduler → List ℕ → ℕ → List (List ℕ)
waiting_bytes s store f = held_from store f (flow_at s f).slot (flow_at s f).queue
