-- Every call that is no reset is a number of moves.
use Prim.Native.Nat.{ℕ, zero, suc, ◌≤◌, ◌<◌}
use mathlib.Core.Path.{◌≡◌, refl, sym, ap}
use mathlib.Core.List.{List, [], ◌∷◌, ◌++◌}
use native.Mathlib.Omega.{arith}
use lib.ListN.{length}
use lib.Dec.{ltb}
use lib.Seq.{take-append-le, drop-append-le}
use Rattle.std.specs.Prelude.{Ok}
use Rattle.model.specs.Limits.{flow_limit}
use Rattle.model.specs.Model.{Flow, Round, Scheduler, flow_at}
use Rattle.model.specs.Steps.{packet_joined, flow_lined}
use Rattle.model.specs.Calls.{Burst, put, open_flow, opened, offered, departed, departures, and_then, burst, burst_made, unless_refused, open_answer, offer_answer}
use Rattle.model.specs.Rules.{RoundRules, Rules}
use Rattle.model.specs.Replies.{Answer, sent_by, made_by}
use Rattle.model.specs.OrderCalls.{Call, resetting, opening, offering, departing, bursting, turn_then, turns_of, does}
use Rattle.model.specs.declared.Sent.{Sent}
use Rattle.model.specs.declared.Reply.{Reply}
use Rattle.model.specs.declared.Reply.TheVariants.{Departure, Idle, Refused}
use Rattle.model.specs.declared.Serving.{Serving}
use Rattle.model.specs.declared.Serving.TheVariants.{NoTurn, Turn}
use Rattle.model.proofs.Refusals.{may_open, may_offer}
use Rattle.model.proofs.Flows.{at_others, here_now}
use Rattle.model.proofs.Keeps.{departed_keeps}
use Rattle.model.proofs.Parts.{flow_made_of}
use Rattle.model.proofs.Departing.{departures_add_none}
use Rattle.model.proofs.Choosing.{ok_has, tested_has}
use Rattle.account.proofs.Circle.{circle_of, visits_of_line, flow_joins, packet_joins, flow_opens, Moves, stands, moves, follows, Renewed, Waits, Backwards}
use Rattle.account.proofs.Departure.{renewed, departure_moves}

-- The visits left are visits of flows in line.
visits_fit : (flow : ℕ → Flow) (r : Round) (turn : Serving) → RoundRules flow r turn → visits_of_line turn r.visits ≤ length r.line
unfolding RoundRules
visits_fit flow r NoTurn L = L.visits_in_line
visits_fit flow r (Turn g allowed sent) L = L.0.visits_in_line

module _ (Wanted : (ℕ → Flow) → Type 0) (s : Scheduler) (R : Rules s) where
  -- Step 1.
  packet_moves : (g size : ℕ) (reach : g < flow_limit) (w σ k : ℕ) (q : List ℕ) → flow_at s g ≡ flow_made_of w σ k q
      → Wanted (flow_at (put s g (packet_joined (flow_made_of w σ k q) size) (flow_lined s.round g (flow_made_of w σ k q))))
      → Moves Wanted (circle_of s) (circle_of (put s g (packet_joined (flow_made_of w σ k q) size) (flow_lined s.round g (flow_made_of w σ k q)))) [] []
  unfolding put packet_joined flow_lined
  packet_moves g size reach w σ k [] here W =
      rw (drop-append-le n s.round.line (g ∷ []) fits, take-append-le n s.round.line (g ∷ []) fits)
      (moves (flow_joins new not_waiting) W)
    where
      n : ℕ
      n = visits_of_line s.round.turn s.round.visits

      fits : n ≤ length s.round.line
      fits = visits_fit (flow_at s) s.round s.round.turn R.round_rules

      empty : (flow_at s g).queue ≡ []
      empty = ap (λ (x : Flow). x.queue) here

      not_waiting : Waits (flow_at s g) → ⊥
      not_waiting v = absurd (omega (arith, v, ap length empty))

      new : Renewed g (flow_at s g).surplus (flow_at s) (flow_at (put s g (flow_made_of w 0 k (size ∷ [])) s.round))
      new =
          renewed s R reach (flow_made_of w 0 k (size ∷ [])) s.round (flow_at s g).surplus (flow_at s) (λ f d. refl)
          (sym (ap (λ (x : Flow). x.weight) here))
          (sym ((R.flow_rules g).no_surplus_if_empty empty))
  packet_moves g size reach w σ k (p ∷ q) here W =
      moves
      (packet_joins
      (renewed s R reach (flow_made_of w σ k ((p ∷ q) ++ (size ∷ []))) s.round (flow_at s g).surplus (flow_at s) (λ f d. refl)
      (sym (ap (λ (x : Flow). x.weight) here))
      (sym (ap (λ (x : Flow). x.surplus) here))))
      W

  -- A flow is opened that was not open.
  opening_moves : (g weight : ℕ) (reach : g < flow_limit) → Wanted (flow_at (put s g (open_flow weight) s.round))
      → Moves Wanted (circle_of s) (circle_of (put s g (open_flow weight) s.round)) [] []
  unfolding put
  opening_moves g weight reach =
      moves
      (flow_opens
      (at_others s g (open_flow weight) s.round)
      (ap (λ (x : Flow). x.surplus) now)
      (λ v. absurd (omega (arith, v, ap (λ (x : Flow). length x.queue) now))))
    where
      now : flow_at (put s g (open_flow weight) s.round) g ≡ open_flow weight
      now = here_now s R reach (open_flow weight) s.round

  -- A refusal changes nothing.
  unless_refused_moves : (a : Answer) (t : Scheduler) → (a ≡ Ok tt → Wanted (flow_at t) → Moves Wanted (circle_of s) (circle_of t) [] [])
      → Wanted (flow_at (unless_refused a s t).state) → Moves Wanted (circle_of s) (circle_of (unless_refused a s t).state) [] []
  unfolding unless_refused
  unless_refused_moves a t effect =
      ok_has (λ k. Wanted (flow_at k) → Moves Wanted (circle_of s) (circle_of k) [] []) a t s effect (λ W. stands)

  offered_moves : (g size : ℕ) → Wanted (flow_at (offered s g size).state) → Moves Wanted (circle_of s) (circle_of (offered s g size).state) [] []
  unfolding offered
  offered_moves g size =
      unless_refused_moves (offer_answer g size (flow_at s g)) (put s g (packet_joined (flow_at s g) size) (flow_lined s.round g (flow_at s g)))
      (λ e. packet_moves g size (may_offer g size (flow_at s g) e).flow_in_range (flow_at s g).weight (flow_at s g).surplus (flow_at s g).slot (flow_at s g).queue refl)

  opened_moves : (g weight : ℕ) → Wanted (flow_at (opened s g weight).state) → Moves Wanted (circle_of s) (circle_of (opened s g weight).state) [] []
  unfolding opened
  opened_moves g weight =
      unless_refused_moves (open_answer g weight (flow_at s g)) (put s g (open_flow weight) s.round)
      (λ e. opening_moves g weight (may_open g weight (flow_at s g) e).flow_in_range)

-- A flow that waits after some departures waited before them.
pub waited_before_all : (n : ℕ) (s : Scheduler) (f : ℕ) → Waits (flow_at (departures n s).state f) → Waits (flow_at s f)
waited_before_all n s f w = omega (arith, departures_add_none n s f)

module _ (Wanted : (ℕ → Flow) → Type 0) (back : Backwards Wanted) where
  abbrev pub MovesTo : Scheduler → Scheduler → List Sent → List Sent → Type 0
  MovesTo s t l e = Wanted (flow_at t) → Moves Wanted (circle_of s) (circle_of t) l e

  departures_move : (n : ℕ) (s : Scheduler) → Rules s → MovesTo s (departures n s).state (departures n s).sent (turns_of n s)
  unfolding departures and_then turns_of turn_then
  departures_move zero s R W = stands
  departures_move (suc n) s R W =
      go (departed s).reply (departed s).state.round.turn (departure_moves Wanted back s R)
      (departures_move n (departed s).state (departed_keeps s R)) W
    where
      t : Scheduler
      t = (departed s).state

      go : (reply : Reply) (turn : Serving) → MovesTo s t (sent_by reply) (turn_then reply turn [])
          → MovesTo t (departures n t).state (departures n t).sent (turns_of n t)
          → MovesTo s (and_then reply t (departures n t)).state (and_then reply t (departures n t)).sent (turn_then reply turn (turns_of n t))
      go (Departure d) NoTurn one more W = follows (one (back (flow_at t) (flow_at (departures n t).state) (waited_before_all n t) W)) (more W)
      go (Departure d) (Turn g allowed sent) one more W = follows (one (back (flow_at t) (flow_at (departures n t).state) (waited_before_all n t) W)) (more W)
      go Idle turn one more W = one W
      go (Refused k) turn one more W = one W

  pub call_moves : (s : Scheduler) (c : Call) → Rules s → (c ≡ resetting → ⊥) → MovesTo s (does s c).state (does s c).seen.sends (does s c).completes
  unfolding does burst burst_made
  call_moves s resetting R no_reset W = absurd (no_reset refl)
  call_moves s (opening g weight) R no_reset W = opened_moves Wanted s R g weight W
  call_moves s (offering g size) R no_reset W = offered_moves Wanted s R g size W
  call_moves s departing R no_reset W = departure_moves Wanted back s R W
  call_moves s (bursting n list) R no_reset W =
      tested_has (λ (b : Burst). MovesTo s b.state (made_by b.reply (departures n s).sent) (made_by b.reply (turns_of n s)))
      (ltb (length list) n) _ (burst_made list (departures n s)) (λ W. stands) (λ e. departures_move n s R) W
