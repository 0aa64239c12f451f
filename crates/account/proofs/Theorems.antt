-- Demand 3. The account balances, whichever calls come; hence two flows that both have packets waiting share the link by their weights.
use Prim.Native.Nat.{ℕ, zero, suc, ◌+◌, ◌*◌, ◌-◌, ◌≤◌, ◌<◌, max}
use mathlib.Core.Path.{◌≡◌, refl, sym, ap, ◌∙◌, subst}
use mathlib.Core.List.{List}
use native.Mathlib.Omega.{arith}
use native.Mathlib.Decide.{ℕ_discrete}
use native.Mathlib.Nat.{mul-le-mul_left, le-add_right, le-mul_of_pos_right, mul-pos}
use lib.ListN.{length}
use borrow.Author.Tests.{ne_eqb}
use Rattle.model.specs.Model.{Scheduler, flow_at}
use Rattle.model.specs.Rules.{Rules}
use Rattle.model.specs.Chain.{begin, chain}
use Rattle.model.specs.OrderCalls.{Call, order_calls}
use Rattle.model.specs.declared.Serving.{Serving}
use Rattle.model.specs.declared.Serving.TheVariants.{NoTurn, Turn}
use Rattle.model.proofs.Keeps.{new_keeps, weighs}
use Rattle.model.proofs.Chains.{OrderHistory, chain_keeps}
use Rattle.account.specs.Stretch.{Stretch, begun, ended, Waiting, WaitingAfterEvery, WaitingThroughout, ConsecutiveTurns, bytes_sent, one_plus_mark, one_plus_marks, sent_in, turns_in, weight_of, surplus_before, surplus_after, largest_since_reset, largest}
use Rattle.account.proofs.Sums.{bytes, sum_of_sent, largest_sent, DifferByAtMost, DifferByLessThan}
use Rattle.account.proofs.Circle.{circle_of, on_account, on_account_in, Moves}
use Rattle.account.proofs.Sums.{largest_append, no_bytes}
use Rattle.account.proofs.Account.{moves_balance}
use Rattle.account.proofs.Order.{Both, moves_keep_both}
use Rattle.account.proofs.Within.{Within, within_more, moves_stay_within, moves_send_bytes}
use Rattle.account.proofs.Bound.{in_circle}
use Rattle.account.proofs.Pair.{pair_bounded}
use Rattle.account.proofs.Stretches.{stretch_moves, left_grows, Small, small_reached, new_is_small}

-- ---- from any state that keeps the rules, however it came about

module _ (h : OrderHistory) (calls : List Call) (R : Rules h.state) where
  -- The account at any moment, in a turn of the flow or between its turns.
  account_from : (f : ℕ) → WaitingAfterEvery order_calls f h.state calls
      → sum_of_sent f bytes (sent_in order_calls h.state calls) + on_account (circle_of h.state) f
      ≡ on_account (circle_of (chain order_calls h calls).state) f + (flow_at h.state f).weight * sum_of_sent f one_plus_mark (turns_in order_calls h.state calls)
  account_from f waits = moves_balance f (λ flow w. w.0) (stretch_moves f f h calls R waits waits)

  -- The exact bound, where marks and surpluses are at most k and packets in the stretch at most one more.
  bound_from : (k i j : ℕ) → (i ≡ j → ⊥) → Within k (circle_of h.state) → largest_sent (sent_in order_calls h.state calls) ≤ suc k
      → Waiting h.state i × WaitingAfterEvery order_calls i h.state calls → Waiting h.state j × WaitingAfterEvery order_calls j h.state calls
      → DifferByAtMost ((flow_at h.state j).weight * sum_of_sent i bytes (sent_in order_calls h.state calls)) ((flow_at h.state i).weight * sum_of_sent j bytes (sent_in order_calls h.state calls))
      (suc k * ((flow_at h.state i).weight * (flow_at h.state j).weight) + k * ((flow_at h.state i).weight + (flow_at h.state j).weight))
  bound_from k i j differ within sizes wi wj =
      pair_bounded differ made both within.mark_within within_then.mark_within
      (in_circle k h.state R within i both.0)
      (in_circle k h.state R within j both.1)
      (in_circle k (chain order_calls h calls).state rules_then within_then i both_then.0)
      (in_circle k (chain order_calls h calls).state rules_then within_then j both_then.1)
    where
      made : Moves (Both i j) (circle_of h.state) (circle_of (chain order_calls h calls).state) (sent_in order_calls h.state calls) (turns_in order_calls h.state calls)
      made = stretch_moves i j h calls R wi.1 wj.1

      both : Both i j (flow_at h.state)
      both = (wi.0, wj.0)

      both_then : Both i j (flow_at (chain order_calls h calls).state)
      both_then = moves_keep_both i j made both

      rules_then : Rules (chain order_calls h calls).state
      rules_then = chain_keeps h calls R

      within_then : Within k (circle_of (chain order_calls h calls).state)
      within_then = moves_stay_within k made sizes within

-- ---- from any state that calls give

rules_begun : (x : Stretch order_calls) → Rules (begun order_calls x).state
rules_begun x = chain_keeps (begin x.first) x.before (subst Rules (sym x.new) new_keeps)

small_begun : (x : Stretch order_calls) → Small (begun order_calls x)
unfolding largest
small_begun x =
    small_reached (begin x.first) x.before (subst Rules (sym x.new) new_keeps)
    (subst (λ (s : Scheduler). Within 0 (circle_of s)) (sym x.new) new_is_small)

-- Between its turns a flow has its surplus on account.
surplus_on_account : (turn : Serving) (mark f weight surplus : ℕ) → ((allowed sent : ℕ) → turn ≡ Turn f allowed sent → ⊥)
    → on_account_in turn mark f weight surplus ≡ surplus
surplus_on_account NoTurn mark f weight surplus between = refl
surplus_on_account (Turn g allowed sent) mark f weight surplus between = rw (ne_eqb f g (λ e. between allowed sent (rw e)))

-- THE ACCOUNT. Over consecutive completed turns of a flow that has a packet waiting after every call, bytes sent plus surplus carried into the first
-- turn equal surplus after the last plus weight times the sum of one plus the mark of each turn's round.
pub account : (x : Stretch order_calls) (f : ℕ) → ConsecutiveTurns order_calls x f
    → bytes_sent order_calls x f + surplus_before order_calls x f ≡ surplus_after order_calls x f + weight_of order_calls x f * one_plus_marks order_calls x f
account x f turns =
    omega (
      arith,
      account_from (begun order_calls x) x.calls (rules_begun x) f turns.waiting_after_every,
      surplus_on_account (begun order_calls x).state.round.turn (begun order_calls x).state.round.mark f (weight_of order_calls x f) (surplus_before order_calls x f) turns.before_the_first,
      surplus_on_account (ended order_calls x).state.round.turn (ended order_calls x).state.round.mark f (flow_at (ended order_calls x).state f).weight (surplus_after order_calls x f) turns.after_the_last,
    )

-- The largest packet since the reset is the largest before the stretch or the largest in it.
largest_in_parts : (x : Stretch order_calls) (f : ℕ) → WaitingThroughout order_calls x f
    → largest_since_reset order_calls x ≡ max (largest_sent (begun order_calls x).left) (largest_sent (sent_in order_calls (begun order_calls x).state x.calls))
largest_in_parts x f w = ap largest_sent (left_grows f (begun order_calls x) x.calls w.1) ∙ largest_append (begun order_calls x).left (sent_in order_calls (begun order_calls x).state x.calls)

exact_bound_of_two : (x : Stretch order_calls) (i j : ℕ) → (i ≡ j → ⊥) → WaitingThroughout order_calls x i → WaitingThroughout order_calls x j → (m : ℕ) → largest_since_reset order_calls x ≡ m
    → DifferByAtMost (weight_of order_calls x j * bytes_sent order_calls x i) (weight_of order_calls x i * bytes_sent order_calls x j)
    (m * (weight_of order_calls x i * weight_of order_calls x j) + (m - 1) * (weight_of order_calls x i + weight_of order_calls x j))
exact_bound_of_two x i j differ wi wj zero e =
    rw (no_bytes i (sent_in order_calls (begun order_calls x).state x.calls) none, no_bytes j (sent_in order_calls (begun order_calls x).state x.calls) none) (omega arith, omega arith)
  where
    none : largest_sent (sent_in order_calls (begun order_calls x).state x.calls) ≡ 0
    none = omega (arith, largest_in_parts x i wi)
exact_bound_of_two x i j differ wi wj (suc k) e =
    rw less_one
    (bound_from (begun order_calls x) x.calls (rules_begun x) k i j differ
    (within_more (omega (arith, largest_in_parts x i wi)) (small_begun x))
    (omega (arith, largest_in_parts x i wi))
    wi
    wj)
  where
    less_one : suc k - 1 ≡ k
    less_one = omega arith

-- THE EXACT BOUND. With m the largest packet sent by anyone since the last reset: two flows that both have packets waiting before and after every call
-- differ, each one's bytes times the other's weight, by at most m times both weights and m - 1 times their sum.
pub exact_bound : (x : Stretch order_calls) (i j : ℕ) → WaitingThroughout order_calls x i → WaitingThroughout order_calls x j
    → DifferByAtMost (weight_of order_calls x j * bytes_sent order_calls x i) (weight_of order_calls x i * bytes_sent order_calls x j)
    (largest_since_reset order_calls x * (weight_of order_calls x i * weight_of order_calls x j) + (largest_since_reset order_calls x - 1) * (weight_of order_calls x i + weight_of order_calls x j))
exact_bound x i j wi wj =
    elim (ℕ_discrete i j) [
      | yes q ↦ rw (← q) (le-add_right _ _, le-add_right _ _)
      | no d ↦ exact_bound_of_two x i j d wi wj (largest_since_reset order_calls x) refl
    ]

weight_at_least_one : (x : Stretch order_calls) (f : ℕ) → WaitingThroughout order_calls x f → 1 ≤ weight_of order_calls x f
weight_at_least_one x f w = weighs (flow_at (begun order_calls x).state f) ((rules_begun x).flow_rules f) (λ e. absurd (omega (arith, w.0, ap {B = ℕ} length e)))

-- The exact bound is less than three times m times both weights.
less_than_three : (m wi wj : ℕ) → 1 ≤ m → 1 ≤ wi → 1 ≤ wj → m * (wi * wj) + (m - 1) * (wi + wj) < 3 * m * (wi * wj)
less_than_three zero wi wj p pi pj = absurd (omega arith)
less_than_three (suc k) wi wj p pi pj =
    rw less_one (omega (arith, mul-le-mul_left k (le-mul_of_pos_right wi pj), mul-le-mul_left k (le-mul_of_pos_right wj pi), mul-pos pi pj))
  where
    less_one : suc k - 1 ≡ k
    less_one = omega arith

closer : (a b : ℕ) {d e : ℕ} → d < e → DifferByAtMost a b d → DifferByLessThan a b e
closer a b less close = (omega arith, omega arith)

-- THE PAIR BOUND. Over any stretch of calls without a reset, from any moment on, in which two flows both have packets waiting before and after every
-- call and at least one packet is sent, each one's bytes times the other's weight differ by less than three times the largest packet sent by anyone
-- since the last reset times both weights.
pub pair_bound : (x : Stretch order_calls) (i j : ℕ) → WaitingThroughout order_calls x i → WaitingThroughout order_calls x j → 1 ≤ length (sent_in order_calls (begun order_calls x).state x.calls)
    → DifferByLessThan (weight_of order_calls x j * bytes_sent order_calls x i) (weight_of order_calls x i * bytes_sent order_calls x j) (3 * largest_since_reset order_calls x * (weight_of order_calls x i * weight_of order_calls x j))
pair_bound x i j wi wj something =
    closer (weight_of order_calls x j * bytes_sent order_calls x i) (weight_of order_calls x i * bytes_sent order_calls x j)
    (less_than_three (largest_since_reset order_calls x) (weight_of order_calls x i) (weight_of order_calls x j) sent (weight_at_least_one x i wi) (weight_at_least_one x j wj))
    (exact_bound x i j wi wj)
  where
    sent : 1 ≤ largest_since_reset order_calls x
    sent = omega (arith, largest_in_parts x i wi, moves_send_bytes (stretch_moves i j (begun order_calls x) x.calls (rules_begun x) wi.1 wj.1) something)
