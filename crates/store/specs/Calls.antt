-- Document 01's store calls: the order layer's calls, with the packet's bytes moved beside them.
use Rattle.std.specs.Prelude.{ℕ, List, ◌++◌, cond, length, drop, ltb, eqb, Ok, Err}
use Rattle.model.specs.Choose.{if_ok}
use Rattle.model.specs.Replies.{Answer}
use Rattle.model.specs.Model.{Scheduler, flow_at}
use Rattle.model.specs.Steps.{next_slot_of}
use Rattle.model.specs.Calls.{offer_answer, offered, departed}
use Rattle.model.specs.declared.Refusal.TheVariants.{OutShort, StoreWrong}
use Rattle.model.specs.declared.Reply.{Reply}
use Rattle.model.specs.declared.Reply.TheVariants.{Departure, Idle, Refused}
use Rattle.store.specs.Slots.{store_length, out_limit, written, held}

-- What a store offer gives: the state, the store and an answer.
pub record AfterOffer : Type 0 where
  pub state : Scheduler
  pub store : List ℕ
  pub answer : Answer

-- Offer: 8, then the order layer's 1, 4, 5, 6. A packet's size is the length lent.
abbrev pub store_offer_answer : Scheduler → ℕ → List ℕ → List ℕ → Answer
store_offer_answer s f packet store =
    cond (eqb (length store) store_length) (offer_answer f (length packet) (flow_at s f)) (Err StoreWrong)

-- Where nothing refuses, the packet is written in the slot that the flow's next packet takes. A refusal leaves state and store as they were.
unfoldable pub store_offer : Scheduler → ℕ → List ℕ → List ℕ → AfterOffer
store_offer s f packet store =
    record {
      state = if_ok (store_offer_answer s f packet store) (offered s f (length packet)).state s;
      store = if_ok (store_offer_answer s f packet store) (written store f (next_slot_of (flow_at s f)) packet) store;
      answer = store_offer_answer s f packet store;
    }

-- What a store departure gives: the state, the outgoing buffer and a reply. It writes nothing in the store.
pub record AfterDeparture : Type 0 where
  pub state : Scheduler
  pub out : List ℕ
  pub reply : Reply

-- Store departure: 8, 7, then idle.
abbrev pub store_depart_answer : List ℕ → List ℕ → Answer
store_depart_answer store out =
    cond (eqb (length store) store_length) (cond (ltb (length out) out_limit) (Err OutShort) (Ok tt)) (Err StoreWrong)

-- The order layer's reply, or the refusal.
abbrev pub unless_short : Answer → Reply → Reply
unless_short (Ok done) reply = reply
unless_short (Err r) reply = Refused r

-- A departure copies the packet's bytes to the start of the outgoing buffer and leaves its other bytes: they lie in the slot that was the flow's
-- first before the call.
unfoldable pub sent_out : Reply → Scheduler → List ℕ → List ℕ → List ℕ
sent_out (Departure d) s store out = held store d.flow (flow_at s d.flow).slot d.size ++ drop d.size out
sent_out Idle s store out = out
sent_out (Refused r) s store out = out

-- A refusal leaves state and outgoing buffer as they were.
unfoldable pub store_depart : Scheduler → List ℕ → List ℕ → AfterDeparture
store_depart s store out =
    record {
      state = if_ok (store_depart_answer store out) (departed s).state s;
      out = if_ok (store_depart_answer store out) (sent_out (departed s).reply s store out) out;
      reply = unless_short (store_depart_answer store out) (departed s).reply;
    }
