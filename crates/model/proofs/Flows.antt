-- What putting one flow in place does to the others, what a queue begins with, and which changes of a flow keep its rules.
use Prim.Native.Nat.{ℕ, zero, suc, ◌+◌, ◌%◌, ◌≤◌, ◌<◌}
use mathlib.Core.Path.{◌≡◌, refl, sym, ap, ◌∙◌, subst}
use mathlib.Core.List.{List, [], ◌∷◌, ◌++◌}
use native.Mathlib.Omega.{arith}
use native.Mathlib.Decide.{dec_lt}
use lib.ListN.{length, get_or, set, drop, length-append, length-set, get_or-eq_default}
use lib.Seq.{get_or-set_same, get_or-set_other, set-get_or}
use Rattle.model.specs.Limits.{flow_limit, weight_limit, size_limit, queue_limit, mark_limit}
use Rattle.model.specs.Model.{Flow, Round, Scheduler, flow_at, closed_flow}
use Rattle.model.specs.Steps.{packet_joined, surplus_cleared}
use Rattle.model.specs.Calls.{put, open_flow}
use Rattle.model.specs.Rules.{Sizes, none, one, FlowRules, RoundRules, Rules, activity}
use Rattle.model.proofs.Line.{OnlyAt, everywhere}

pub at_put : (s : Scheduler) (f : ℕ) (x : Flow) (r : Round) → f < length s.flows → flow_at (put s f x r) f ≡ x
unfolding put
at_put s f x r h = get_or-set_same s.flows f x closed_flow h

pub here_now : (s : Scheduler) → Rules s → {f : ℕ} → f < flow_limit → (x : Flow) (r : Round) → flow_at (put s f x r) f ≡ x
here_now s R {f} reach x r = at_put s f x r (omega (arith, R.all_flows))

pub at_others : (s : Scheduler) (f : ℕ) (x : Flow) (r : Round) → OnlyAt f (flow_at s) (flow_at (put s f x r))
unfolding put
at_others s f x r g d = get_or-set_other s.flows f g x closed_flow d

pub put_back : (s : Scheduler) (f : ℕ) → put s f (flow_at s f) s.round ≡ s
unfolding put
put_back s f = ap (λ (l : List Flow). record { flows = l; round = s.round }) (set-get_or s.flows f closed_flow)

-- A number that no flow has stands for a closed flow.
pub beyond_closed : (s : Scheduler) → length s.flows ≡ flow_limit → (g : ℕ) → flow_limit ≤ g → flow_at s g ≡ closed_flow
beyond_closed s e g h = get_or-eq_default s.flows closed_flow {n = g} (omega arith)

-- A flow with a packet waiting has a number below the limit.
pub waiting_in_reach : (s : Scheduler) (f : ℕ) → length s.flows ≡ flow_limit → ((flow_at s f).queue ≡ [] → ⊥) → f < flow_limit
waiting_in_reach s f e h =
    elim (dec_lt f flow_limit) [
      | yes b ↦ b
      | no b ↦ absurd (h (ap (λ (x : Flow). x.queue) (beyond_closed s e f (omega arith))))
    ]

pub beyond_not_active : (s : Scheduler) → length s.flows ≡ flow_limit → (g : ℕ) → flow_limit ≤ g → activity (flow_at s g) ≡ 0
beyond_not_active s e g h = ap activity (beyond_closed s e g h)

-- What relates a flow to what is put in its place relates every flow to what it then is.
pub put_relates : (R : Flow → Flow → Type 0) → ((x : Flow) → R x x) → (flows : List Flow) (g : ℕ) (y : Flow) → R (get_or flows g closed_flow) y
    → (f : ℕ) → R (get_or flows f closed_flow) (get_or (set flows g y) f closed_flow)
put_relates R same [] g y r f = same closed_flow
put_relates R same (x ∷ flows) zero y r zero = r
put_relates R same (x ∷ flows) zero y r (suc f) = same (get_or flows f closed_flow)
put_relates R same (x ∷ flows) (suc g) y r zero = same x
put_relates R same (x ∷ flows) (suc g) y r (suc f) = put_relates R same flows g y r f

pub rules_put : (s : Scheduler) (f : ℕ) (x : Flow) (r : Round) → Rules s → f < flow_limit → FlowRules x
    → RoundRules (flow_at (put s f x r)) r r.turn → Rules (put s f x r)
unfolding put
rules_put s f x r R b X T =
    record {
      all_flows = length-set s.flows f x ∙ R.all_flows;
      flow_rules =
          everywhere (λ g y. FlowRules y) f (flow_at s) (flow_at (put s f x r)) (at_others s f x r)
          (subst FlowRules (sym (here_now s R b x r)) X)
          (λ g d. R.flow_rules g);
      round_rules = T;
    }

pub sizes_joined : {q : List ℕ} {size : ℕ} → Sizes q → 1 ≤ size → size ≤ size_limit → Sizes (q ++ (size ∷ []))
sizes_joined none h k = one h k none
sizes_joined (one p l more) h k = one p l (sizes_joined more h k)

pub closed_flow_rules : FlowRules closed_flow
closed_flow_rules =
    record {
      weight_in_range = omega arith;
      surplus_in_range = omega arith;
      slot_in_range = omega arith;
      waiting_in_range = omega arith;
      sizes_in_range = none;
      open_if_waiting = λ e. refl;
      no_surplus_if_empty = λ e. refl;
    }

pub open_flow_rules : (weight : ℕ) → weight ≤ weight_limit → FlowRules (open_flow weight)
open_flow_rules weight h =
    record {
      weight_in_range = h;
      surplus_in_range = omega arith;
      slot_in_range = omega arith;
      waiting_in_range = omega arith;
      sizes_in_range = none;
      open_if_waiting = λ e. refl;
      no_surplus_if_empty = λ e. refl;
    }

-- Step 1.
pub joined_flow_rules : (w σ k : ℕ) (q : List ℕ) (size : ℕ) → FlowRules (record { weight = w; surplus = σ; slot = k; queue = q })
    → (w ≡ 0 → ⊥) → 1 ≤ size → size ≤ size_limit → length q < queue_limit
    → FlowRules (packet_joined (record { weight = w; surplus = σ; slot = k; queue = q }) size)
unfolding packet_joined
joined_flow_rules w σ k [] size R d h l b =
    record {
      weight_in_range = R.weight_in_range;
      surplus_in_range = omega arith;
      slot_in_range = R.slot_in_range;
      waiting_in_range = omega arith;
      sizes_in_range = one h l none;
      open_if_waiting = λ e. absurd (d e);
      no_surplus_if_empty = λ e. refl;
    }
joined_flow_rules w σ k (p ∷ q) size R d h l b =
    record {
      weight_in_range = R.weight_in_range;
      surplus_in_range = R.surplus_in_range;
      slot_in_range = R.slot_in_range;
      waiting_in_range = omega (arith, length-append q (size ∷ []));
      sizes_in_range = sizes_joined R.sizes_in_range h l;
      open_if_waiting = λ e. absurd (d e);
      no_surplus_if_empty = λ e. let z : ◌≡◌ {A = ℕ} 0 1 = cc in absurd (omega arith);
    }

-- Step 2.
pub cleared_flow_rules : (x : Flow) → FlowRules x → FlowRules (surplus_cleared x)
unfolding surplus_cleared
cleared_flow_rules x R =
    record {
      weight_in_range = R.weight_in_range;
      surplus_in_range = omega arith;
      slot_in_range = R.slot_in_range;
      waiting_in_range = R.waiting_in_range;
      sizes_in_range = R.sizes_in_range;
      open_if_waiting = R.open_if_waiting;
      no_surplus_if_empty = λ e. refl;
    }

-- A list's first and what follows it, and a list of none.
pub first_and_rest : (q : List ℕ) → (q ≡ [] → ⊥) → q ≡ get_or q 0 0 ∷ drop 1 q
first_and_rest [] waits = absurd (waits refl)
first_and_rest (p ∷ q) waits = refl

pub none_is_empty : (q : List ℕ) → length q ≡ 0 → q ≡ []
none_is_empty [] e = refl
none_is_empty (p ∷ q) e = absurd (omega arith)

-- Steps 3 and 6. What is left of a queue, with a surplus that fits.
sizes_left : {p : ℕ} {q : List ℕ} → Sizes (p ∷ q) → Sizes q
sizes_left (one h l more) = more

pub first_in_range : {p : ℕ} {q : List ℕ} → Sizes (p ∷ q) → (1 ≤ p) × (p ≤ size_limit)
first_in_range (one h l more) = (h, l)

pub first_small : {q : List ℕ} → Sizes q → get_or q 0 0 ≤ size_limit
first_small none = omega arith
first_small (one h l more) = l

pub left_flow_rules : (w σ k : ℕ) (p : ℕ) (q : List ℕ) (σ' : ℕ) → FlowRules (record { weight = w; surplus = σ; slot = k; queue = p ∷ q })
    → σ' ≤ mark_limit → (q ≡ [] → σ' ≡ 0) → FlowRules (record { weight = w; surplus = σ'; slot = (k + 1) % queue_limit; queue = q })
left_flow_rules w σ k p q σ' R h z =
    record {
      weight_in_range = R.weight_in_range;
      surplus_in_range = h;
      slot_in_range = omega arith;
      waiting_in_range = omega (arith, R.waiting_in_range);
      sizes_in_range = sizes_left R.sizes_in_range;
      open_if_waiting = λ e. let u : p ∷ q ≡ [] = R.open_if_waiting e in let z : ◌≡◌ {A = ℕ} 0 1 = cc in absurd (omega arith);
      no_surplus_if_empty = z;
    }
