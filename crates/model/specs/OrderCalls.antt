-- The calls on packet sizes, and what each does.
use Rattle.std.specs.Prelude.{ℕ, zero, suc, ◌≡◌, List, [], ◌∷◌, ◌++◌, map, cond, eqb}
use Rattle.model.specs.Model.{Scheduler, new_scheduler}
use Rattle.model.specs.Calls.{opened, offered, departed, departures, burst}
use Rattle.model.specs.Replies.{of_answer, of_reply, of_count, sent_by, taken_by, made_by}
use Rattle.model.specs.Chain.{Effect, Kind, seen_reset, seen_asking, seen_departing}
use Rattle.model.specs.declared.Sent.{Sent}
use Rattle.model.specs.declared.Reply.{Reply}
use Rattle.model.specs.declared.Reply.TheVariants.{Departure, Idle, Refused}
use Rattle.model.specs.declared.Serving.{Serving}
use Rattle.model.specs.declared.Serving.TheVariants.{NoTurn, Turn}

pub data Call : Type 0 where
  resetting : Call
  opening : ℕ → ℕ → Call
  offering : ℕ → ℕ → Call
  departing : Call
  bursting : ℕ → List ℕ → Call

pub record Packet : Type 0 where
  pub flow : ℕ
  pub size : ℕ

-- A departure completes a turn where none is open after it.
unfoldable pub turn_then : Reply → Serving → List Sent → List Sent
turn_then (Departure d) NoTurn more = d ∷ more
turn_then (Departure d) (Turn f allowed sent) more = more
turn_then Idle turn more = []
turn_then (Refused k) turn more = []

-- The turns that up to n departures complete.
unfoldable pub turns_of : ℕ → Scheduler → List Sent
turns_of zero s = []
turns_of (suc n) s = turn_then (departed s).reply (departed s).state.round.turn (turns_of n (departed s).state)

unfoldable pub does : Scheduler → Call → Effect Scheduler Packet Sent
does s resetting = record { state = new_scheduler; seen = seen_reset; completes = [] }
does s (opening f weight) = record { state = (opened s f weight).state; seen = seen_asking (of_answer (opened s f weight).reply) []; completes = [] }
does s (offering f size) =
    record {
      state = (offered s f size).state;
      seen = seen_asking (of_answer (offered s f size).reply) (taken_by (offered s f size).reply (record { flow = f; size = size }));
      completes = [];
    }
does s departing =
    record { state = (departed s).state; seen = seen_departing (of_reply (departed s).reply) [] [] (sent_by (departed s).reply); completes = turns_of 1 s }
does s (bursting n list) =
    record {
      state = (burst s n list).state;
      seen = seen_departing (of_count (burst s n list).reply) list (burst s n list).list (made_by (burst s n list).reply (departures n s).sent);
      completes = made_by (burst s n list).reply (turns_of n s);
    }

abbrev pub order_calls : Kind
order_calls =
    record {
      State = Scheduler;
      Call = Call;
      Packet = Packet;
      Departure = Sent;
      does = does;
      New = λ s. s ≡ new_scheduler;
      scheduler = λ s. s;
      flow_of = λ d. d.flow;
      size_of = λ d. d.size;
    }

-- The sizes of the packets of flow f, in order.
unfoldable pub sizes_of : ℕ → List Packet → List ℕ
sizes_of f [] = []
sizes_of f (p ∷ l) = cond (eqb p.flow f) (p.size ∷ []) [] ++ sizes_of f l

abbrev pub packets_of : List Sent → List Packet
packets_of sent = map (λ (d : Sent). record { flow = d.flow; size = d.size }) sent
