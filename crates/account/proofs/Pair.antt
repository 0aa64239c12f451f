-- Two flows that wait throughout some moves: the exact bound. By the account and the rounds, each one's bytes times the other's weight differ by as much as
-- the difference of their leads has moved; by the order and the bound of one state, that is no more than its range.
use Prim.Native.Nat.{ℕ, suc, ◌+◌, ◌*◌, ◌≤◌}
use mathlib.Core.Path.{◌≡◌, refl, sym, ap, ◌∙◌, subst₂}
use mathlib.Core.List.{List}
use mathlib.Core.Bool.{Bool, true, false}
use native.Mathlib.Omega.{arith}
use Rattle.model.specs.Rules.{count}
use Rattle.model.specs.declared.Sent.{Sent}
use Rattle.model.proofs.Counts.{count_append}
use Rattle.account.specs.Stretch.{one_plus_mark}
use Rattle.account.proofs.Sums.{sum_of_sent, bytes, DifferByAtMost}
use Rattle.account.proofs.Circle.{Circle, Moves, on_account, to_come, this_round}
use Rattle.account.proofs.Account.{Balanced, moves_keep_weight, moves_balance}
use Rattle.account.proofs.Order.{leads, order, one_leads, Both, order_never_changes}
use Rattle.account.proofs.Rounds.{Even, moves_are_even}
use Rattle.account.proofs.Bound.{InCircle, Apart, ApartAt, apart_where_led}

-- A flow in the circle stands.
stands_in_order : {k f : ℕ} {c : Circle} → InCircle k f c → 1 ≤ count f (order c)
stands_in_order {f = f} {c = c} p = omega (arith, p.stands_once, count_append f c.next (this_round c))

-- What moves say of two flows: their weights stay, their accounts balance, and the rounds serve both.
record Shared (i j : ℕ) (c c' : Circle) (l e : List Sent) : Type 0 where
  weight_of_i : (c'.flow i).weight ≡ (c.flow i).weight
  weight_of_j : (c'.flow j).weight ≡ (c.flow j).weight
  account_of_i : Balanced i c c' l e
  account_of_j : Balanced j c c' l e
  even : Even i j c c' e

shared : {i j : ℕ} {c c' : Circle} {l e : List Sent} → Moves (Both i j) c c' l e → Both i j c.flow → Shared i j c c' l e
shared {i} {j} r both =
    record {
      weight_of_i = moves_keep_weight i (λ flow w. w.0) r;
      weight_of_j = moves_keep_weight j (λ flow w. w.1) r;
      account_of_i = moves_balance i (λ flow w. w.0) r;
      account_of_j = moves_balance j (λ flow w. w.1) r;
      even = moves_are_even i j r both;
    }

-- The same of j and i.
exchanged : {i j : ℕ} {c c' : Circle} {l e : List Sent} → Shared i j c c' l e → Shared j i c c' l e
exchanged s =
    record { weight_of_i = s.weight_of_j; weight_of_j = s.weight_of_i; account_of_i = s.account_of_j; account_of_j = s.account_of_i; even = sym s.even }

-- The arithmetic: both accounts, each times the other's weight, the rounds times both weights, and the leads before and after.
weighed : {k wi wj hi hj hi' hj' ti tj ti' tj' : ℕ} (bi bj ri rj : ℕ) → bi + hi ≡ hi' + wi * ri → bj + hj ≡ hj' + wj * rj
    → ri + ti' + tj ≡ rj + tj' + ti → Apart k wi wj hi hj ti tj → Apart k wi wj hi' hj' ti' tj'
    → DifferByAtMost (wj * bi) (wi * bj) (suc k * (wi * wj) + k * (wi + wj))
weighed {wi = wi} {wj = wj} bi bj ri rj ai aj rounds before after =
    let times-wj = ap (λ (n : ℕ). wj * n) ai in
    let times-wi = ap (λ (n : ℕ). wi * n) aj in
    let times-both = ap (λ (n : ℕ). wi * wj * n) rounds in
    (omega (arith, before.below, after.above), omega (arith, before.above, after.below))

bytes_differ : {k i j : ℕ} {c c' : Circle} {l e : List Sent} → Shared i j c c' l e → ApartAt k i j c → ApartAt k i j c'
    → DifferByAtMost ((c.flow j).weight * sum_of_sent i bytes l) ((c.flow i).weight * sum_of_sent j bytes l)
    (suc k * ((c.flow i).weight * (c.flow j).weight) + k * ((c.flow i).weight + (c.flow j).weight))
bytes_differ {k} {i} {j} {c} {c'} {l} {e} s before after =
    weighed (sum_of_sent i bytes l) (sum_of_sent j bytes l) (sum_of_sent i one_plus_mark e) (sum_of_sent j one_plus_mark e) s.account_of_i s.account_of_j s.even before
    (subst₂ (λ (v w : ℕ). Apart k v w (on_account c' i) (on_account c' j) (to_come c' i) (to_come c' j)) s.weight_of_i s.weight_of_j after)

module _ {k i j : ℕ} {c c' : Circle} {l e : List Sent} (differ : i ≡ j → ⊥) (r : Moves (Both i j) c c' l e) (both : Both i j c.flow)
    (small : c.mark ≤ k) (small' : c'.mark ≤ k) (pi : InCircle k i c) (pj : InCircle k j c) (pi' : InCircle k i c') (pj' : InCircle k j c') where
  abbrev BytesDiffer : Type 0
  BytesDiffer =
      DifferByAtMost ((c.flow j).weight * sum_of_sent i bytes l) ((c.flow i).weight * sum_of_sent j bytes l)
      (suc k * ((c.flow i).weight * (c.flow j).weight) + k * ((c.flow i).weight + (c.flow j).weight))

  -- Whichever of the two leads, it leads before and after.
  pub pair_bounded : BytesDiffer
  pair_bounded = go (leads j i (order c)) refl
    where
      go : (b : Bool) → leads j i (order c) ≡ b → BytesDiffer
      go true first =
          bytes_differ (shared r both) (apart_where_led small pi pj differ first) (apart_where_led small' pi' pj' differ (order_never_changes i j r both ∙ first))
      go false second =
          let swapped =
          bytes_differ (exchanged (shared r both))
          (apart_where_led small pj pi (λ e. differ (sym e)) (one_leads j i (order c) second (stands_in_order pi)))
          (apart_where_led small' pj' pi' (λ e. differ (sym e)) (one_leads j i (order c') (order_never_changes i j r both ∙ second) (stands_in_order pi')))
          in
          (omega (arith, swapped.1), omega (arith, swapped.0))
