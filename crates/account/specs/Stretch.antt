-- Stretches of calls of any kind, in the words of demand 3.
use Rattle.std.specs.Prelude.{ℕ, ◌+◌, ◌≤◌, max, ◌≡◌, List, [], ◌∷◌, ◌++◌, cond, length, eqb}
use Rattle.model.specs.Model.{Scheduler, flow_at}
use Rattle.model.specs.Chain.{Seen, Effect, Kind, HistoryOf, begin, chain, over, seen_over}
use Rattle.model.specs.declared.Sent.{Sent}
use Rattle.model.specs.declared.Serving.TheVariants.{Turn}

-- What leaves over calls of which this is seen.
unfoldable pub left_over : {P D : Type 0} → List (Seen P D) → List D
left_over [] = []
left_over (e ∷ seen) = e.sends ++ left_over seen

-- The sum of a value over those of flow f.
unfoldable pub sum_of : {D : Type 0} → (D → ℕ) → ℕ → (D → ℕ) → List D → ℕ
sum_of flow_of f value [] = 0
sum_of flow_of f value (d ∷ l) = cond (eqb f (flow_of d)) (value d) 0 + sum_of flow_of f value l

-- The largest of a value; 0 where there is none.
unfoldable pub largest : {D : Type 0} → (D → ℕ) → List D → ℕ
largest value [] = 0
largest value (d ∷ l) = max (value d) (largest value l)

-- A turn is told by the departure that completes it: its flow, and one plus the mark of its round.
abbrev pub turn_flow : Sent → ℕ
turn_flow d = d.flow

abbrev pub one_plus_mark : Sent → ℕ
one_plus_mark d = 1 + d.mark

-- Flow f has a packet waiting.
abbrev pub Waiting : Scheduler → ℕ → Type 0
Waiting s f = 1 ≤ length (flow_at s f).queue

-- No turn of flow f is open.
abbrev pub BetweenTurns : Scheduler → ℕ → Type 0
BetweenTurns s f = (allowed sent : ℕ) → s.round.turn ≡ Turn f allowed sent → ⊥

module _ (K : Kind) where
  -- Bytes of flow f, and the largest packet, among what left.
  abbrev pub bytes_by : ℕ → List K.Departure → ℕ
  bytes_by f l = sum_of K.flow_of f K.size_of l

  abbrev pub largest_of : List K.Departure → ℕ
  largest_of l = largest K.size_of l

  -- Calls from any moment on, with those that came before them since the beginning.
  pub record Stretch : Type 0 where
    pub first : K.State
    pub new : K.New first
    pub before : List K.Call
    pub calls : List K.Call

  abbrev pub begun : Stretch → HistoryOf K
  begun x = chain K (begin x.first) x.before

  abbrev pub ended : Stretch → HistoryOf K
  ended x = chain K (begun x) x.calls

  -- Flow f has a packet waiting after every call.
  unfoldable pub WaitingAfterEvery : ℕ → K.State → List K.Call → Type 0
  WaitingAfterEvery f s [] = Unit {0}
  WaitingAfterEvery f s (c ∷ calls) = Waiting (K.scheduler (K.does s c).state) f × WaitingAfterEvery f (K.does s c).state calls

  -- It has one before and after every call.
  abbrev pub WaitingThroughout : Stretch → ℕ → Type 0
  WaitingThroughout x f = Waiting (K.scheduler (begun x).state) f × WaitingAfterEvery f (begun x).state x.calls

  -- What leaves, and the turns that are completed, in order.
  abbrev pub sent_in : K.State → List K.Call → List K.Departure
  sent_in s calls = left_over (seen_over K s calls)

  abbrev pub turns_in : K.State → List K.Call → List Sent
  turns_in s calls = over K (λ (e : Effect K.State K.Packet K.Departure). e.completes) s calls

  abbrev pub bytes_sent : Stretch → ℕ → ℕ
  bytes_sent x f = bytes_by f (sent_in (begun x).state x.calls)

  -- The largest packet that anyone has sent, from the last reset to the end of the stretch.
  abbrev pub largest_since_reset : Stretch → ℕ
  largest_since_reset x = largest_of (ended x).left

  -- The sum, over the turns of flow f that the stretch completes, of one plus the mark of the turn's round.
  abbrev pub one_plus_marks : Stretch → ℕ → ℕ
  one_plus_marks x f = sum_of turn_flow f one_plus_mark (turns_in (begun x).state x.calls)

  -- Consecutive completed turns of flow f: the stretch begins before the first and ends after the last of them, and f has a packet waiting after every
  -- call of it.
  pub record ConsecutiveTurns (x : Stretch) (f : ℕ) : Type 0 where
    pub before_the_first : BetweenTurns (K.scheduler (begun x).state) f
    pub after_the_last : BetweenTurns (K.scheduler (ended x).state) f
    pub waiting_after_every : WaitingAfterEvery f (begun x).state x.calls

  abbrev pub weight_of : Stretch → ℕ → ℕ
  weight_of x f = (flow_at (K.scheduler (begun x).state) f).weight

  abbrev pub surplus_before : Stretch → ℕ → ℕ
  surplus_before x f = (flow_at (K.scheduler (begun x).state) f).surplus

  abbrev pub surplus_after : Stretch → ℕ → ℕ
  surplus_after x f = (flow_at (K.scheduler (ended x).state) f).surplus
