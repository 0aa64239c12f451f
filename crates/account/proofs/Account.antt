-- The account of one flow, move by move: what it sends, with what it had on account, is what it then has on account and its weight times what its
-- completed turns allowed for each unit of weight.
use Prim.Native.Nat.{ℕ, ◌+◌, ◌*◌}
use mathlib.Core.Path.{◌≡◌, refl, ap, ◌∙◌}
use mathlib.Core.List.{List}
use native.Mathlib.Omega.{arith}
use borrow.Author.Tests.{eq-eqb, ne_eqb}
use Rattle.model.specs.Model.{Flow}
use Rattle.model.specs.declared.Sent.{Sent}
use Rattle.model.proofs.Line.{same_or_other}
use Rattle.account.specs.Stretch.{one_plus_mark, sum_of}
use Rattle.account.proofs.Sums.{sum_of_sent, bytes}
use Rattle.account.proofs.Circle.{Circle, Move, round_starts, turn_opens, turn_stays_open, turn_is_over, flow_runs_empty, flow_joins, packet_joins, flow_opens, Moves, stands, moves, follows, Waits, on_account, weights_same, surpluses_same}
use Rattle.account.proofs.Sums.{sum_append}

-- The weight of a flow that waits never changes: only a flow that is not open can be opened.
weight_stays : (f : ℕ) {c c' : Circle} {l e : List Sent} → Move c c' l e → Waits (c'.flow f) → (c'.flow f).weight ≡ (c.flow f).weight
weight_stays f (round_starts once) w = refl
weight_stays f (turn_opens new low) w = weights_same new f
weight_stays f (turn_stays_open new p) w = weights_same new f
weight_stays f (turn_is_over new p low up most full) w = weights_same new f
weight_stays f (flow_runs_empty new p low up out) w = weights_same new f
weight_stays f (flow_joins new out) w = weights_same new f
weight_stays f (packet_joins new) w = weights_same new f
weight_stays f {c} {c'} (flow_opens {g = g} only z out) w =
    same_or_other (λ h. Waits (c'.flow h) → (c'.flow h).weight ≡ (c.flow h).weight) g f (λ v. absurd (out v)) (λ q v. ap (λ (x : Flow). x.weight) (only f q)) w

abbrev pub Balanced : ℕ → Circle → Circle → List Sent → List Sent → Type 0
Balanced f c c' l e = sum_of_sent f bytes l + on_account c f ≡ on_account c' f + (c.flow f).weight * sum_of_sent f one_plus_mark e

-- Each move balances the account of a flow that waits after it.
move_balances : (f : ℕ) {c c' : Circle} {l e : List Sent} → Move c c' l e → Waits (c'.flow f) → Balanced f c c' l e
unfolding sum_of
move_balances f (round_starts once) w = omega arith
move_balances f {c} {c'} {l} {e} (turn_opens {g = g} new low) w =
    same_or_other (λ h. Balanced h c c' l e) g f
    (rw (eq-eqb g g refl, new.weight_same) (omega arith))
    (λ q. rw (ne_eqb f g q, new.others_same f q) (omega arith))
move_balances f {c} {c'} {l} {e} (turn_stays_open {g = g} new p) w =
    same_or_other (λ h. Balanced h c c' l e) g f
    (rw (eq-eqb g g refl, new.weight_same) (omega arith))
    (λ q. rw (ne_eqb f g q, new.others_same f q) (omega arith))
move_balances f {c} {c'} {l} {e} (turn_is_over {g = g} new p low up most full) w =
    same_or_other (λ h. Balanced h c c' l e) g f
    (rw (eq-eqb g g refl) (omega (arith, new.surplus_now)))
    (λ q. rw (ne_eqb f g q, new.others_same f q) (omega arith))
move_balances f {c} {c'} {l} {e} (flow_runs_empty {g = g} new p low up out) w =
    same_or_other (λ h. Waits (c'.flow h) → Balanced h c c' l e) g f
    (λ v. absurd (out v))
    (λ q v. rw (ne_eqb f g q, new.others_same f q) (omega arith))
    w
move_balances f (flow_joins new out) w = rw (weights_same new f, surpluses_same new refl f) (omega arith)
move_balances f (packet_joins new) w = rw (weights_same new f, surpluses_same new refl f) (omega arith)
move_balances f {c} {c'} {l} {e} (flow_opens {g = g} only z out) w =
    same_or_other (λ h. Waits (c'.flow h) → Balanced h c c' l e) g f
    (λ v. absurd (out v))
    (λ q v. rw (only f q) (omega arith))
    w

-- So do moves one after the other, and its weight stays.
module _ (f : ℕ) {Wanted : (ℕ → Flow) → Type 0} (waits : (flow : ℕ → Flow) → Wanted flow → Waits (flow f)) where
  pub moves_keep_weight : {c c' : Circle} {l e : List Sent} → Moves Wanted c c' l e → (c'.flow f).weight ≡ (c.flow f).weight
  moves_keep_weight stands = refl
  moves_keep_weight {c} {c'} (moves m w) = weight_stays f m (waits c'.flow w)
  moves_keep_weight (follows r t) = moves_keep_weight t ∙ moves_keep_weight r

  pub moves_balance : {c c' : Circle} {l e : List Sent} → Moves Wanted c c' l e → Balanced f c c' l e
  unfolding sum_of
  moves_balance stands = omega arith
  moves_balance {c} {c'} (moves m w) = move_balances f m (waits c'.flow w)
  moves_balance (follows {l = l} {l' = l'} {e = e} {e' = e'} r t) =
      rw (sum_append f bytes l l', sum_append f one_plus_mark e e')
      (omega (arith, moves_balance r, moves_balance t, ap (λ (weight : ℕ). weight * sum_of_sent f one_plus_mark e') (moves_keep_weight r)))
