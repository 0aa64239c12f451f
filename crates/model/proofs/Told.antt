-- The numbers that a departure tells are in the ranges of document 01's table, and its allowance is at least its flow's weight.
use Prim.Native.Nat.{ℕ, ◌≤◌, ◌<◌}
use mathlib.Core.Path.{◌≡◌, refl, ap, subst}
use mathlib.Core.List.{List, [], ◌∷◌}
use native.Mathlib.Omega.{arith}
use native.Mathlib.Nat.{mul-le-mul}
use lib.ListN.{length}
use Rattle.model.specs.Limits.{flow_limit, size_limit, mark_limit, allowance_limit}
use Rattle.model.specs.Choose.{if_zero}
use Rattle.model.specs.Model.{Flow, Scheduler, flow_at}
use Rattle.model.specs.Steps.{round_started, turn_opened, surplus_cleared, visit_by, visit, head_allowance}
use Rattle.model.specs.Calls.{departed}
use Rattle.model.specs.Rules.{Sizes, Rules}
use Rattle.model.specs.declared.Reply.TheVariants.{Departure}
use Rattle.model.specs.declared.Sent.{Sent}
use Rattle.model.specs.declared.Serving.{Serving}
use Rattle.model.specs.declared.Serving.TheVariants.{NoTurn, Turn}
use Rattle.model.proofs.Standing.{HeadFacts, in_range, turn_facts, head_facts, turn_allowed_at_least_weight}
use Rattle.model.proofs.Choosing.{chosen_has}
use Rattle.model.proofs.Parts.{scheduler_made_of}
use Rattle.model.proofs.Flows.{first_in_range}
use Rattle.model.proofs.Keeps.{weighs}
use Rattle.model.proofs.Departing.{Leaves, departed_leaves, served_tells}

pub record ToldInRange (s : Scheduler) (d : Sent) : Type 0 where
  pub flow_in_range : d.flow < flow_limit
  pub size_positive : 1 ≤ d.size
  pub size_in_range : d.size ≤ size_limit
  pub mark_in_range : d.mark ≤ mark_limit
  pub allowance_at_least_weight : (flow_at s d.flow).weight ≤ d.allowance
  pub allowance_positive : 1 ≤ d.allowance
  pub allowance_in_range : d.allowance ≤ allowance_limit

-- The mark and the allowance that a departure tells, on a state that is taken apart.
record MarkAndAllowance (s : Scheduler) (d : Sent) : Type 0 where
  mark_told : d.mark ≤ mark_limit
  least_told : (flow_at s d.flow).weight ≤ d.allowance
  most_told : d.allowance ≤ allowance_limit

mark_and_allowance : (flows : List Flow) (line : List ℕ) (visits mark running : ℕ) (turn : Serving) → Rules (scheduler_made_of flows line visits mark running turn)
    → (d : Sent) → (departed (scheduler_made_of flows line visits mark running turn)).reply ≡ Departure d
    → MarkAndAllowance (scheduler_made_of flows line visits mark running turn) d
unfolding departed visit visit_by turn_opened round_started
mark_and_allowance flows line visits mark running (Turn f a n) R d e =
    let s : Scheduler = scheduler_made_of flows line visits mark running (Turn f a n) in
    subst (MarkAndAllowance s) (served_tells s.round (flow_at s f) f a n d e)
    (record {
      mark_told = (in_range s R).mark_in_range;
      least_told = turn_allowed_at_least_weight s R f a n refl;
      most_told = (turn_facts s R f a n refl).allowed_in_range;
    })
mark_and_allowance flows [] visits mark running NoTurn R d e = let z : ◌≡◌ {A = ℕ} 0 1 = cc in absurd (omega arith)
mark_and_allowance flows (f ∷ line) visits mark running NoTurn R d e =
    let s : Scheduler = scheduler_made_of flows (f ∷ line) visits mark running NoTurn in
    let H : HeadFacts s f = head_facts s R refl (omega arith) in
    let small : if_zero visits running mark ≤ mark_limit =
    chosen_has (λ (m : ℕ). m ≤ mark_limit) visits running mark (λ z. (in_range s R).running_in_range) (in_range s R).mark_in_range in
    let a : ℕ = head_allowance s.round (flow_at s f) in
    subst (MarkAndAllowance s) (served_tells (turn_opened (round_started s.round) f a) (surplus_cleared (flow_at s f)) f a 0 d e)
    (record {
      mark_told = small;
      least_told = omega (arith, H.owed);
      most_told = omega (arith, mul-le-mul (R.flow_rules f).weight_in_range small, (R.flow_rules f).weight_in_range);
    })

pub told_in_range : (s : Scheduler) → Rules s → (d : Sent) → (departed s).reply ≡ Departure d → ToldInRange s d
told_in_range s R d e =
    record {
      flow_in_range = L.in_reach;
      size_positive = size.0;
      size_in_range = size.1;
      mark_in_range = told.mark_told;
      allowance_at_least_weight = told.least_told;
      allowance_positive = omega (arith, told.least_told, weighs (flow_at s d.flow) (R.flow_rules d.flow) waits);
      allowance_in_range = told.most_told;
    }
  where
    L : Leaves s d (departed s).state
    L = departed_leaves s R d e

    told : MarkAndAllowance s d
    told = mark_and_allowance s.flows s.round.line s.round.visits s.round.mark s.round.running s.round.turn R d e

    size : (1 ≤ d.size) × (d.size ≤ size_limit)
    size = first_in_range (subst Sizes L.first_in_queue (R.flow_rules d.flow).sizes_in_range)

    waits : (flow_at s d.flow).queue ≡ [] → ⊥
    waits empty = omega (arith, ap length L.first_in_queue, ap length empty)
