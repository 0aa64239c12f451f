-- How far apart two flows that wait can be in one state. A flow's lead is what it has on account, less its weight times what this round is still to
-- allow for each unit of weight; it may be negative. Of two flows, the lead of the one that stands behind, times the other's weight, lies at most k
-- times that weight above the other way round, and at most k + 1 times both weights and k times its own weight below; k is what marks and surpluses
-- do not exceed.
use Prim.Native.Nat.{ℕ, zero, suc, ◌+◌, ◌*◌, ◌-◌, ◌≤◌}
use mathlib.Core.Path.{◌≡◌, refl, sym, ◌∙◌}
use mathlib.Core.List.{List, [], ◌∷◌, ◌++◌, append_assoc}
use mathlib.Core.Bool.{true}
use native.Mathlib.Omega.{arith}
use native.Mathlib.Decide.{ℕ_discrete}
use native.Mathlib.Nat.{mul-le-mul_left, zero-mul, one-mul}
use lib.ListN.{take, drop}
use borrow.Author.Tests.{eq-eqb, ne_eqb}
use Rattle.model.specs.Model.{Flow, Round, Scheduler, flow_at}
use Rattle.model.specs.Rules.{count, RoundRules, Rules}
use Rattle.model.specs.declared.Serving.{Serving}
use Rattle.model.specs.declared.Serving.TheVariants.{NoTurn, Turn}
use Rattle.model.proofs.Counts.{count_append, count_parts, count_behind, count_self, count_other}
use Rattle.model.proofs.Line.{same_or_other, waiting_is_active}
use Rattle.account.proofs.Circle.{Circle, circle, circle_of, visits_of_line, flows_in_turn, this_round, on_account, to_come, Waits}
use Rattle.account.proofs.Order.{leads, order, leader_in_front}
use Rattle.account.proofs.Within.{Within}

-- What the rules of the state say of a flow that waits: it stands once; out of its turn it has at most k on account; and while it has a turn of this
-- round to complete it has at most what the round allows it.
pub record InCircle (k f : ℕ) (c : Circle) : Type 0 where
  pub stands_once : count f c.next + count f (this_round c) ≡ 1
  pub out_of_turn : count f (flows_in_turn c.turn) ≡ 0 → on_account c f ≤ k
  pub in_this_round : 1 ≤ count f (this_round c) → on_account c f ≤ (c.flow f).weight * (1 + c.mark)

-- What stands once in the line or out of it stands once in the circle.
parted : (f n : ℕ) (out line : List ℕ) → count f (out ++ line) ≡ 1 → count f (drop n line) + count f (out ++ take n line) ≡ 1
parted f n out line e = omega (arith, count_append f out line, count_append f out (take n line), count_parts f n line, e)

module _ (k : ℕ) where
  in_circle_in : (f : ℕ) (flow : ℕ → Flow) (r : Round) (turn : Serving) → Waits (flow f) → RoundRules flow r turn → ((g : ℕ) → (flow g).surplus ≤ k)
      → InCircle k f
      (circle flow (drop (visits_of_line turn r.visits) r.line) (take (visits_of_line turn r.visits) r.line) turn r.mark r.running)
  unfolding RoundRules
  in_circle_in f flow r NoTurn w L small =
      record {
        stands_once = parted f r.visits [] r.line (L.stands_once f ∙ waiting_is_active (flow f) w);
        out_of_turn = λ z. small f;
        in_this_round = λ h. omega (arith, L.owed_this_round f h);
      }
  in_circle_in f flow r (Turn g allowed sent) w (L, T, p) small =
      record {
        stands_once = parted f (r.visits - 1) (g ∷ []) r.line (L.stands_once f ∙ waiting_is_active (flow f) w);
        out_of_turn = same_or_other (λ h. count h (g ∷ []) ≡ 0 → on_account c h ≤ k) g f (λ z. absurd (omega (arith, count_self g, z))) (λ d z. rw (ne_eqb f g d) (small f));
        in_this_round =
            same_or_other (λ h. 1 ≤ count h (this_round c) → on_account c h ≤ (flow h).weight * (1 + r.mark)) g f
            (λ h. rw (eq-eqb g g refl) (omega (arith, T.more_may_be_sent, T.allowed_at_most)))
            (λ d h. rw (ne_eqb f g d) (omega (arith, L.owed_this_round f (omega (arith, count_behind f g (take (r.visits - 1) r.line) d, h)))));
      }
    where
      c : Circle
      c = circle flow (drop (r.visits - 1) r.line) (take (r.visits - 1) r.line) (Turn g allowed sent) r.mark r.running

  pub in_circle : (s : Scheduler) → Rules s → Within k (circle_of s) → (f : ℕ) → Waits (flow_at s f) → InCircle k f (circle_of s)
  in_circle s R B f w = in_circle_in f (flow_at s) s.round s.round.turn w R.round_rules B.surplus_within

-- The three ways in which two flows stand where j leads i, with what they have on account and what is to come for each: both stand for the next round;
-- only j does; or neither does, and i does not have the turn.
pub data Stand (k round wi wj : ℕ) : ℕ → ℕ → ℕ → ℕ → Type 0 where
  both_next : {hi hj : ℕ} → hi ≤ k → hj ≤ k → Stand k round wi wj hi hj 0 0
  leader_next : {hi hj : ℕ} → hi ≤ wi * round → hj ≤ k → Stand k round wi wj hi hj round 0
  both_in_this : {hi hj : ℕ} → hi ≤ k → hj ≤ wj * round → Stand k round wi wj hi hj round round

-- Two flows in the open turn are one.
only_one_has_the_turn : (turn : Serving) (i j : ℕ) → 1 ≤ count i (flows_in_turn turn) → 1 ≤ count j (flows_in_turn turn) → i ≡ j
unfolding count
only_one_has_the_turn NoTurn i j a b = absurd (omega arith)
only_one_has_the_turn (Turn g allowed sent) i j a b = is_g i a ∙ sym (is_g j b)
  where
    is_g : (f : ℕ) → 1 ≤ count f (g ∷ []) → f ≡ g
    is_g f h = same_or_other (λ e. 1 ≤ count e (g ∷ []) → e ≡ g) g f (λ v. refl) (λ d v. absurd (omega (arith, count_other f g d, v))) h

module _ {k i j : ℕ} {c : Circle} (pi : InCircle k i c) (pj : InCircle k j c) (differ : i ≡ j → ⊥) (first : leads j i (order c) ≡ true) where
  next_front : 1 ≤ count i c.next → 1 ≤ count j c.next
  next_front = leader_in_front j i c.next (this_round c) first

  turn_front : 1 ≤ count i (c.next ++ flows_in_turn c.turn) → 1 ≤ count j (c.next ++ flows_in_turn c.turn)
  turn_front = leader_in_front j i (c.next ++ flows_in_turn c.turn) c.rest (rw append_assoc first)

  -- Where j has a turn of this round to complete, the open turn is not that of i.
  not_its_turn : 1 ≤ count j (this_round c) → count i (flows_in_turn c.turn) ≡ 0
  not_its_turn h =
      elim (ℕ_discrete (count i (flows_in_turn c.turn)) 0) [
        | yes e ↦ e
        | no d ↦ absurd (differ (only_one_has_the_turn c.turn i j (omega arith)
            (omega (arith, pj.stands_once, count_append j c.next (flows_in_turn c.turn), turn_front (omega (arith, count_append i c.next (flows_in_turn c.turn)))))))
      ]

  pub stand : Stand k (1 + c.mark) (c.flow i).weight (c.flow j).weight (on_account c i) (on_account c j) (to_come c i) (to_come c j)
  stand = go (count i (this_round c)) refl (count j (this_round c)) refl
    where
      turn_of : (f : ℕ) → count f (this_round c) ≡ count f (flows_in_turn c.turn) + count f c.rest
      turn_of f = count_append f (flows_in_turn c.turn) c.rest

      go : (a : ℕ) → count i (this_round c) ≡ a → (b : ℕ) → count j (this_round c) ≡ b
          → Stand k (1 + c.mark) (c.flow i).weight (c.flow j).weight (on_account c i) (on_account c j) (a * (1 + c.mark)) (b * (1 + c.mark))
      go zero e zero f = rw zero-mul (both_next (pi.out_of_turn (omega (arith, turn_of i))) (pj.out_of_turn (omega (arith, turn_of j))))
      go zero e (suc b) f = absurd (omega (arith, pi.stands_once, pj.stands_once, next_front (omega (arith, pi.stands_once))))
      go (suc zero) e zero f = rw (zero-mul, one-mul) (leader_next (pi.in_this_round (omega arith)) (pj.out_of_turn (omega (arith, turn_of j))))
      go (suc zero) e (suc zero) f = rw one-mul (both_in_this (pi.out_of_turn (not_its_turn (omega arith))) (pj.in_this_round (omega arith)))
      go (suc zero) e (suc (suc b)) f = absurd (omega (arith, pj.stands_once))
      go (suc (suc a)) e b f = absurd (omega (arith, pi.stands_once))

-- The leads of i and j, hi - wi * ti and hj - wj * tj, each times the other's weight, without subtraction.
pub record Apart (k wi wj hi hj ti tj : ℕ) : Type 0 where
  pub above : wj * hi + wi * wj * tj ≤ wi * hj + wi * wj * ti + wj * k
  pub below : wi * hj + wi * wj * ti ≤ wj * hi + wi * wj * tj + (wi * wj * suc k + wi * k)

stand_apart : {k round wi wj hi hj ti tj : ℕ} → round ≤ suc k → Stand k round wi wj hi hj ti tj → Apart k wi wj hi hj ti tj
stand_apart {wi = wi} {wj = wj} r (both_next a b) = record { above = omega (arith, mul-le-mul_left wj a); below = omega (arith, mul-le-mul_left wi b) }
stand_apart {wi = wi} {wj = wj} r (leader_next a b) =
    record { above = omega (arith, mul-le-mul_left wj a); below = omega (arith, mul-le-mul_left wi b, mul-le-mul_left (wi * wj) r) }
stand_apart {wi = wi} {wj = wj} r (both_in_this a b) =
    record { above = omega (arith, mul-le-mul_left wj a); below = omega (arith, mul-le-mul_left wi b, mul-le-mul_left (wi * wj) r) }

abbrev pub ApartAt : ℕ → ℕ → ℕ → Circle → Type 0
ApartAt k i j c = Apart k (c.flow i).weight (c.flow j).weight (on_account c i) (on_account c j) (to_come c i) (to_come c j)

pub apart_where_led : {k i j : ℕ} {c : Circle} → c.mark ≤ k → InCircle k i c → InCircle k j c → (i ≡ j → ⊥) → leads j i (order c) ≡ true → ApartAt k i j c
apart_where_led small pi pj differ first = stand_apart (omega arith) (stand pi pj differ first)
