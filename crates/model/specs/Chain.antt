-- Chains of calls of any kind: each call works on the state that the one before it left.
use Rattle.std.specs.Prelude.{ℕ, List, [], ◌∷◌, ◌++◌, Bool, true, false, cond}
use Rattle.model.specs.Model.{Scheduler}
use Rattle.model.specs.Replies.{Said, told}
use Rattle.model.specs.declared.Sent.{Sent}

-- What its caller sees of a call: what it says, the list or outgoing buffer lent to it and given back, the packets that it accepts, those that leave, and
-- whether it forgets what came before it.
pub record Seen (P D : Type 0) : Type 0 where
  pub says : Said
  pub lent : List ℕ
  pub back : List ℕ
  pub accepts : List P
  pub sends : List D
  pub forgets : Bool

module _ {P D : Type 0} where
  -- A reset, which says nothing; an open or an offer; a departure or a burst.
  abbrev pub seen_reset : Seen P D
  seen_reset = record { says = told []; lent = []; back = []; accepts = []; sends = []; forgets = true }

  abbrev pub seen_asking : Said → List P → Seen P D
  seen_asking says accepts = record { says = says; lent = []; back = []; accepts = accepts; sends = []; forgets = false }

  abbrev pub seen_departing : Said → List ℕ → List ℕ → List D → Seen P D
  seen_departing says lent back sends = record { says = says; lent = lent; back = back; accepts = []; sends = sends; forgets = false }

-- What a call does: the state that it gives back, what is seen of it, and the turns that it completes, each told by its last departure.
pub record Effect (S P D : Type 0) : Type 0 where
  pub state : S
  pub seen : Seen P D
  pub completes : List Sent

-- A kind of calls: what they work on, what they accept and send, what each does, and on what a chain of them begins; of a state its scheduler, and of
-- what is sent its flow and size.
pub record Kind : Type 1 where
  pub State : Type 0
  pub Call : Type 0
  pub Packet : Type 0
  pub Departure : Type 0
  pub does : State → Call → Effect State Packet Departure
  pub New : State → Type 0
  pub scheduler : State → Scheduler
  pub flow_of : Departure → ℕ
  pub size_of : Departure → ℕ

-- A state, with what was accepted and what has left since the last reset.
pub record History (S P D : Type 0) : Type 0 where
  pub state : S
  pub accepted : List P
  pub left : List D

module _ {S P D : Type 0} where
  abbrev pub begin : S → History S P D
  begin s = record { state = s; accepted = []; left = [] }

  -- After a call that gave back this state and of which this was seen.
  unfoldable pub moved : History S P D → S → Seen P D → History S P D
  moved h s e =
      record { state = s; accepted = cond e.forgets [] h.accepted ++ e.accepts; left = cond e.forgets [] h.left ++ e.sends }

module _ (K : Kind) where
  abbrev pub HistoryOf : Type 0
  HistoryOf = History K.State K.Packet K.Departure

  unfoldable pub next : HistoryOf → K.Call → HistoryOf
  next h c = moved h (K.does h.state c).state (K.does h.state c).seen

  unfoldable pub chain : HistoryOf → List K.Call → HistoryOf
  chain h [] = h
  chain h (c ∷ calls) = chain (next h c) calls

  -- A part of what each call does, one call after the other.
  unfoldable pub over : {A : Type 0} → (Effect K.State K.Packet K.Departure → List A) → K.State → List K.Call → List A
  over part s [] = []
  over part s (c ∷ calls) = part (K.does s c) ++ over part (K.does s c).state calls

  -- What is seen of each call.
  abbrev pub seen_over : K.State → List K.Call → List (Seen K.Packet K.Departure)
  seen_over s calls = over (λ (e : Effect K.State K.Packet K.Departure). e.seen ∷ []) s calls
