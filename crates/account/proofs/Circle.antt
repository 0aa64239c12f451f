-- A state as the account sees it, and the moves that calls are made of.
-- The flows that stand form a circle: those that stand for the next round, then the flow whose turn is open, then those still to be visited in this
-- round. A turn's end and a round's start leave the circle as it is; only a flow that joins or runs empty changes it.
use Prim.Native.Nat.{ℕ, ◌+◌, ◌*◌, ◌-◌, ◌≤◌, ◌<◌, max}
use mathlib.Core.Path.{◌≡◌, ap, ◌∙◌}
use mathlib.Core.List.{List, [], ◌∷◌, ◌++◌}
use mathlib.Core.Bool.{cond}
use lib.ListN.{length, take, drop}
use lib.Dec.{eqb}
use Rattle.model.specs.Model.{Flow, Scheduler, flow_at}
use Rattle.model.specs.Steps.{allowance}
use Rattle.model.specs.Rules.{count, activity}
use Rattle.model.specs.declared.Sent.{Sent}
use Rattle.model.specs.declared.Serving.{Serving}
use Rattle.model.specs.declared.Serving.TheVariants.{NoTurn, Turn}
use Rattle.model.proofs.Line.{OnlyAt, same_or_other}

pub record Circle : Type 0 where
  pub flow : ℕ → Flow
  -- those that stand for the next round
  pub next : List ℕ
  -- those still to be visited in this round
  pub rest : List ℕ
  pub turn : Serving
  pub mark : ℕ
  pub running : ℕ

abbrev pub circle : (ℕ → Flow) → List ℕ → List ℕ → Serving → ℕ → ℕ → Circle
circle flow next rest turn mark running = record { flow = flow; next = next; rest = rest; turn = turn; mark = mark; running = running }

-- The visits left count that of an open turn, whose flow is out of the line.
abbrev pub visits_of_line : Serving → ℕ → ℕ
visits_of_line NoTurn visits = visits
visits_of_line (Turn f allowed sent) visits = visits - 1

abbrev pub circle_of : Scheduler → Circle
circle_of s =
    circle (flow_at s)
    (drop (visits_of_line s.round.turn s.round.visits) s.round.line)
    (take (visits_of_line s.round.turn s.round.visits) s.round.line)
    s.round.turn
    s.round.mark
    s.round.running

abbrev pub flows_in_turn : Serving → List ℕ
flows_in_turn NoTurn = []
flows_in_turn (Turn f allowed sent) = f ∷ []

-- Those that have a turn of this round still to complete.
abbrev pub this_round : Circle → List ℕ
this_round c = flows_in_turn c.turn ++ c.rest

-- ---- what is compared

-- What a flow has on account: its surplus or, in its turn, the surplus carried into the turn and what it has sent since.
abbrev pub on_account_in : Serving → ℕ → ℕ → ℕ → ℕ → ℕ
on_account_in NoTurn mark f weight surplus = surplus
on_account_in (Turn g allowed sent) mark f weight surplus = cond (eqb f g) (weight * (1 + mark) - allowed + sent) surplus

abbrev pub on_account : Circle → ℕ → ℕ
on_account c f = on_account_in c.turn c.mark f (c.flow f).weight (c.flow f).surplus

-- What this round is still to allow a flow, for each unit of its weight.
abbrev pub to_come : Circle → ℕ → ℕ
to_come c f = count f (this_round c) * (1 + c.mark)

abbrev pub Waits : Flow → Type 0
Waits x = 1 ≤ length x.queue

-- ---- the moves

-- Only flow g is not as it was; it has the weight that it had, and this surplus.
pub record Renewed (g surplus : ℕ) (flow flow' : ℕ → Flow) : Type 0 where
  pub others_same : OnlyAt g flow flow'
  pub weight_same : (flow' g).weight ≡ (flow g).weight
  pub surplus_now : (flow' g).surplus ≡ surplus

abbrev pub departure : ℕ → ℕ → ℕ → ℕ → Sent
departure flow size mark allowed = record { flow = flow; size = size; mark = mark; allowance = allowed }

-- A move from one circle to another, with what leaves and which turn is completed.
pub data Move : Circle → Circle → List Sent → List Sent → Type 0 where
  -- Step 2. All who stand are to be visited; the running mark becomes the mark.
  round_starts : {flow : ℕ → Flow} {next : List ℕ} {mark running : ℕ}
      → ((f : ℕ) → count f next ≡ activity (flow f))
      → Move (circle flow next [] NoTurn mark running) (circle flow [] next NoTurn running 0) [] []
  turn_opens : {flow flow' : ℕ → Flow} {next rest : List ℕ} {g mark running : ℕ}
      → Renewed g 0 flow flow'
      → (flow g).surplus ≤ (flow g).weight * (1 + mark)
      → Move (circle flow next (g ∷ rest) NoTurn mark running)
      (circle flow' next rest (Turn g (allowance (flow g).weight mark (flow g).surplus) 0) mark running)
      [] []
  -- Steps 3 to 6. A packet leaves, and the turn stays open, or ends with packets waiting, or ends with none.
  turn_stays_open : {flow flow' : ℕ → Flow} {next rest : List ℕ} {g allowed sent size mark running : ℕ}
      → Renewed g (flow g).surplus flow flow'
      → 1 ≤ size
      → Move (circle flow next rest (Turn g allowed sent) mark running) (circle flow' next rest (Turn g allowed (sent + size)) mark running)
      (departure g size mark allowed ∷ []) []
  turn_is_over : {flow flow' : ℕ → Flow} {next rest : List ℕ} {g allowed sent size mark running running' : ℕ}
      → Renewed g (sent + size - allowed) flow flow'
      → 1 ≤ size
      → sent < allowed
      → running' ≤ max running (sent + size - allowed)
      → allowed ≤ (flow g).weight * (1 + mark)
      → allowed ≤ sent + size
      → Move (circle flow next rest (Turn g allowed sent) mark running) (circle flow' (next ++ (g ∷ [])) rest NoTurn mark running')
      (departure g size mark allowed ∷ []) (departure g size mark allowed ∷ [])
  flow_runs_empty : {flow flow' : ℕ → Flow} {next rest : List ℕ} {g allowed sent size mark running running' : ℕ}
      → Renewed g 0 flow flow'
      → 1 ≤ size
      → sent < allowed
      → running' ≤ max running (sent + size - allowed)
      → (Waits (flow' g) → ⊥)
      → Move (circle flow next rest (Turn g allowed sent) mark running) (circle flow' next rest NoTurn mark running')
      (departure g size mark allowed ∷ []) (departure g size mark allowed ∷ [])
  -- Step 1. A packet comes for a flow that was not active, or for one that was.
  flow_joins : {flow flow' : ℕ → Flow} {next rest : List ℕ} {turn : Serving} {g mark running : ℕ}
      → Renewed g (flow g).surplus flow flow'
      → (Waits (flow g) → ⊥)
      → Move (circle flow next rest turn mark running) (circle flow' (next ++ (g ∷ [])) rest turn mark running) [] []
  packet_joins : {flow flow' : ℕ → Flow} {next rest : List ℕ} {turn : Serving} {g mark running : ℕ}
      → Renewed g (flow g).surplus flow flow'
      → Move (circle flow next rest turn mark running) (circle flow' next rest turn mark running) [] []
  flow_opens : {flow flow' : ℕ → Flow} {next rest : List ℕ} {turn : Serving} {g mark running : ℕ}
      → OnlyAt g flow flow'
      → (flow' g).surplus ≡ 0
      → (Waits (flow' g) → ⊥)
      → Move (circle flow next rest turn mark running) (circle flow' next rest turn mark running) [] []

-- Something wanted of the flows, that they had before where all who wait now waited.
abbrev pub Backwards : ((ℕ → Flow) → Type 0) → Type 0
Backwards Wanted = (flow flow' : ℕ → Flow) → ((f : ℕ) → Waits (flow' f) → Waits (flow f)) → Wanted flow' → Wanted flow

-- Moves one after the other, after each of which the flows are as wanted.
pub data Moves (Wanted : (ℕ → Flow) → Type 0) : Circle → Circle → List Sent → List Sent → Type 0 where
  stands : {c : Circle} → Moves Wanted c c [] []
  moves : {c c' : Circle} {l e : List Sent} → Move c c' l e → Wanted c'.flow → Moves Wanted c c' l e
  follows : {c c' c'' : Circle} {l l' e e' : List Sent} → Moves Wanted c c' l e → Moves Wanted c' c'' l' e' → Moves Wanted c c'' (l ++ l') (e ++ e')

-- ---- what a renewed flow leaves as it was

module _ {g surplus : ℕ} {flow flow' : ℕ → Flow} (new : Renewed g surplus flow flow') where
  pub weights_same : (f : ℕ) → (flow' f).weight ≡ (flow f).weight
  weights_same f =
      same_or_other (λ h. (flow' h).weight ≡ (flow h).weight) g f new.weight_same (λ q. ap (λ (x : Flow). x.weight) (new.others_same f q))

  pub surpluses_same : surplus ≡ (flow g).surplus → (f : ℕ) → (flow' f).surplus ≡ (flow f).surplus
  surpluses_same e f =
      same_or_other (λ h. (flow' h).surplus ≡ (flow h).surplus) g f (new.surplus_now ∙ e) (λ q. ap (λ (x : Flow). x.surplus) (new.others_same f q))
