-- Which of two flows stands before the other in the circle never changes while both stand.
use Prim.Native.Nat.{ℕ, ◌+◌, ◌≤◌}
use mathlib.Core.Path.{◌≡◌, refl, sym, ap, ◌∙◌, subst}
use mathlib.Core.List.{List, [], ◌∷◌, ◌++◌, append-nil, append_assoc}
use mathlib.Core.Bool.{Bool, true, false, cond}
use native.Mathlib.Omega.{arith}
use lib.Dec.{eqb}
use borrow.Author.Tests.{ne_eqb}
use Rattle.model.specs.Model.{Flow}
use Rattle.model.specs.Rules.{count}
use Rattle.model.specs.declared.Sent.{Sent}
use Rattle.account.proofs.Circle.{Circle, Move, round_starts, turn_opens, turn_stays_open, turn_is_over, flow_runs_empty, flow_joins, packet_joins, flow_opens, Moves, stands, moves, follows, Waits, this_round}

-- Whether j stands before i.
unfoldable pub leads : ℕ → ℕ → List ℕ → Bool
leads j i [] = false
leads j i (g ∷ l) = cond (eqb j g) true (cond (eqb i g) false (leads j i l))

abbrev pub order : Circle → List ℕ
order c = c.next ++ this_round c

-- Another flow may come or go.
leads_apart : (j i g : ℕ) → (j ≡ g → ⊥) → (i ≡ g → ⊥) → (a b : List ℕ) → leads j i (a ++ (g ∷ b)) ≡ leads j i (a ++ b)
unfolding leads
leads_apart j i g dj di [] b = rw (ne_eqb j g dj, ne_eqb i g di)
leads_apart j i g dj di (h ∷ a) b = rw (leads_apart j i g dj di a b)

-- If the one who comes second stands in a front part, the one who leads does.
pub leader_in_front : (j i : ℕ) (a b : List ℕ) → leads j i (a ++ b) ≡ true → 1 ≤ count i a → 1 ≤ count j a
unfolding leads count
leader_in_front j i [] b e h = absurd (omega arith)
leader_in_front j i (g ∷ a) b e h = go (eqb j g) (eqb i g) (leader_in_front j i a b) e h
  where
    go : (u v : Bool) → (leads j i (a ++ b) ≡ true → 1 ≤ count i a → 1 ≤ count j a)
        → cond u true (cond v false (leads j i (a ++ b))) ≡ true → 1 ≤ cond v 1 0 + count i a → 1 ≤ cond u 1 0 + count j a
    go true v again e h = omega arith
    go false true again e h = let z : ◌≡◌ {A = ℕ} 0 1 = cc in absurd (omega arith)
    go false false again e h = omega (arith, again e (omega arith))

-- Of two that stand, one leads.
pub one_leads : (j i : ℕ) (l : List ℕ) → leads j i l ≡ false → 1 ≤ count i l → leads i j l ≡ true
unfolding leads count
one_leads j i [] e h = absurd (omega arith)
one_leads j i (g ∷ l) e h = go (eqb j g) (eqb i g) (one_leads j i l) e h
  where
    go : (u v : Bool) → (leads j i l ≡ false → 1 ≤ count i l → leads i j l ≡ true)
        → cond u true (cond v false (leads j i l)) ≡ false → 1 ≤ cond v 1 0 + count i l → cond v true (cond u false (leads i j l)) ≡ true
    go true v again e h = let z : ◌≡◌ {A = ℕ} 0 1 = cc in absurd (omega arith)
    go false true again e h = refl
    go false false again e h = again e (omega arith)

module _ (i j : ℕ) where
  abbrev pub Both : (ℕ → Flow) → Type 0
  Both flow = Waits (flow i) × Waits (flow j)

  -- A flow that does not wait is not one that does.
  apart : (flow : ℕ → Flow) (f g : ℕ) → Waits (flow f) → (Waits (flow g) → ⊥) → f ≡ g → ⊥
  apart flow f g w out e = out (subst (λ (h : ℕ). Waits (flow h)) e w)

  move_keeps_order : {c c' : Circle} {l e : List Sent} → Move c c' l e → Both c.flow → Both c'.flow → leads j i (order c') ≡ leads j i (order c)
  move_keeps_order (round_starts {next = next} once) v w = ap (leads j i) (sym (append-nil next))
  move_keeps_order (turn_opens new low) v w = refl
  move_keeps_order (turn_stays_open new p) v w = refl
  move_keeps_order (turn_is_over {next = next} {rest = rest} {g = g} new p low up most full) v w = ap (leads j i) (append_assoc next (g ∷ []) rest)
  move_keeps_order {c} {c'} (flow_runs_empty {next = next} {rest = rest} {g = g} new p low up out) v w =
      sym (leads_apart j i g (apart c'.flow j g w.1 out) (apart c'.flow i g w.0 out) next rest)
  move_keeps_order {c} {c'} (flow_joins {next = next} {g = g} new out) v w =
      ap (leads j i) (append_assoc next (g ∷ []) (this_round c)) ∙ leads_apart j i g (apart c.flow j g v.1 out) (apart c.flow i g v.0 out) next (this_round c)
  move_keeps_order (packet_joins new) v w = refl
  move_keeps_order (flow_opens only z out) v w = refl

  pub moves_keep_both : {c c' : Circle} {l e : List Sent} → Moves Both c c' l e → Both c.flow → Both c'.flow
  moves_keep_both stands v = v
  moves_keep_both (moves m w) v = w
  moves_keep_both (follows r t) v = moves_keep_both t (moves_keep_both r v)

  pub order_never_changes : {c c' : Circle} {l e : List Sent} → Moves Both c c' l e → Both c.flow → leads j i (order c') ≡ leads j i (order c)
  order_never_changes stands v = refl
  order_never_changes (moves m w) v = move_keeps_order m v w
  order_never_changes (follows r t) v = order_never_changes t (moves_keep_both r v) ∙ order_never_changes r v
