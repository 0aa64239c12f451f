-- The user's three demands, each over runs of the code: calls that meet their contracts, each on what the one before it left. They are stated once, for any
-- layer of the box.
use Rattle.std.specs.Prelude.{ℕ, ◌+◌, ◌*◌, ◌-◌, ◌≤◌, ◌<◌, ◌≡◌, List, ◌++◌, length}
use Rattle.model.specs.Chain.{Seen, Kind, History, begin, chain, seen_over}
use Rattle.model.specs.Runs.{Run}
use Rattle.account.specs.Stretch.{Stretch, left_over, bytes_by, largest_of, WaitingThroughout, ConsecutiveTurns, weight_of, surplus_before, surplus_after, one_plus_marks}

-- A layer: its kind of calls, and the code that makes them.
pub record Layer : Type 1 where
  pub kind : Kind
  -- what the code works on, what its calls do, what it and the definitions begin on, and the one premise of its calls
  pub State : Type 0
  pub Does : State → kind.Call → State → Seen kind.Packet kind.Departure → Type 0
  pub New : State → kind.State → Type 0
  pub Premise : State → Type 0
  -- what a flow's packets are known by, their sizes or their bytes: of those accepted, of those that left, of those that wait
  pub Load : Type 0
  pub accepted : ℕ → List kind.Packet → List Load
  pub left : ℕ → List kind.Departure → List Load
  pub waiting : ℕ → kind.State → List Load

module _ (L : Layer) where
  abbrev pub CodeHistory : Type 0
  CodeHistory = History L.State L.kind.Packet L.kind.Departure

  abbrev pub SeenOf : Type 0
  SeenOf = Seen L.kind.Packet L.kind.Departure

  -- From a new state these calls of the code have led to this history, and this was seen of them; the definitions begin on `first`.
  pub record Reached (first : L.kind.State) (calls : List L.kind.Call) (h : CodeHistory) (seen : List SeenOf) : Type 0 where
    pub code : L.State
    pub new : L.New code first
    pub run : Run L.Does (begin code) calls h seen

  -- The code's calls of a stretch have led to this history, and this was seen of them.
  pub record RunOver (x : Stretch L.kind) (h : CodeHistory) (seen : List SeenOf) : Type 0 where
    pub begun : CodeHistory
    pub earlier : List SeenOf
    pub to_begin : Reached x.first x.before begun earlier
    pub to_end : Run L.Does begun x.calls h seen

  -- DEMAND 1. Any call, on any state our calls have given, with any numbers and any buffers, ends and does nothing undefined. That is proved of every
  -- function, and the one premise of a call holds of every state that calls have given; so every call on it has an outcome.
  pub record Demand1 : Type 0 where
    pub premise_holds : {first : L.kind.State} {calls : List L.kind.Call} {h : CodeHistory} {seen : List SeenOf} → Reached first calls h seen
        → L.Premise h.state
    pub has_an_outcome : {first : L.kind.State} {calls : List L.kind.Call} {h : CodeHistory} {seen : List SeenOf} → Reached first calls h seen
        → (c : L.kind.Call) → (s : L.State) × (e : SeenOf) × L.Does h.state c s e
    -- Bad input is refused with a fixed number; a refusal changes neither the scheduler nor any buffer lent to it.
    pub refusal_changes_nothing : {first : L.kind.State} {calls : List L.kind.Call} {h : CodeHistory} {seen : List SeenOf} {c : L.kind.Call} {s : L.State} {e : SeenOf}
        → Reached first calls h seen → L.Does h.state c s e → 1 ≤ e.says.refusal → (s ≡ h.state) × (e.back ≡ e.lent)
    -- For every input the contract determines reply, new state and lent bytes: no second outcome meets it.
    pub no_second_outcome : {first : L.kind.State} {calls : List L.kind.Call} {h : CodeHistory} {seen : List SeenOf} {c : L.kind.Call} {s t : L.State} {d e : SeenOf}
        → Reached first calls h seen → L.Does h.state c s d → L.Does h.state c t e → (s ≡ t) × (d ≡ e)

  -- DEMAND 2. The departures are those of Elastic Round Robin as document 01 states it: what is seen of each call, refusals, marks, allowances and lent
  -- bytes with it, is what the definitions' call shows.
  pub record Demand2 : Type 0 where
    pub as_defined : {first : L.kind.State} {calls : List L.kind.Call} {h : CodeHistory} {seen : List SeenOf} → Reached first calls h seen
        → seen ≡ seen_over L.kind first calls
    -- Between resets no packet is skipped or leaves twice, each flow's packets keep their order, and each has what was accepted: what was accepted is what
    -- has left, followed by what waits.
    pub nothing_lost : {first : L.kind.State} {calls : List L.kind.Call} {h : CodeHistory} {seen : List SeenOf} → Reached first calls h seen → (f : ℕ)
        → L.accepted f h.accepted ≡ L.left f h.left ++ L.waiting f (chain L.kind (begin first) calls).state

  -- DEMAND 3. The account balances, whichever calls come. Over consecutive completed turns of a flow that still has a packet waiting after every call, bytes
  -- sent plus surplus carried into the first turn equal surplus after the last plus weight times the sum of one plus the mark of each turn's round.
  pub record Demand3 : Type 0 where
    pub account_balances : {x : Stretch L.kind} {h : CodeHistory} {seen : List SeenOf} → RunOver x h seen → (f : ℕ) → ConsecutiveTurns L.kind x f
        → bytes_by L.kind f (left_over seen) + surplus_before L.kind x f ≡ surplus_after L.kind x f + weight_of L.kind x f * one_plus_marks L.kind x f
    -- Over any stretch of calls without a reset, from any moment on, in which two flows both have packets waiting before and after every call and at least
    -- one packet is sent, each one's bytes times the other's weight differ by less than three times the largest packet sent by anyone since the last reset
    -- times both weights. (A flow that waits after every call saw no reset.)
    pub shares_differ_by_less : {x : Stretch L.kind} {h : CodeHistory} {seen : List SeenOf} → RunOver x h seen → (i j : ℕ)
        → WaitingThroughout L.kind x i → WaitingThroughout L.kind x j → 1 ≤ length (left_over seen)
        → weight_of L.kind x j * bytes_by L.kind i (left_over seen)
        < weight_of L.kind x i * bytes_by L.kind j (left_over seen) + 3 * largest_of L.kind h.left * (weight_of L.kind x i * weight_of L.kind x j)
    -- The exact bound: with m the largest packet they differ by at most m times both weights and m - 1 times their sum.
    pub shares_differ_by_at_most : {x : Stretch L.kind} {h : CodeHistory} {seen : List SeenOf} → RunOver x h seen → (i j : ℕ)
        → WaitingThroughout L.kind x i → WaitingThroughout L.kind x j
        → weight_of L.kind x j * bytes_by L.kind i (left_over seen)
        ≤ weight_of L.kind x i * bytes_by L.kind j (left_over seen)
        + (largest_of L.kind h.left * (weight_of L.kind x i * weight_of L.kind x j)
        + (largest_of L.kind h.left - 1) * (weight_of L.kind x i + weight_of L.kind x j))
