-- In each round every flow that stands has one turn. So what completed turns allow two flows that wait, for each unit of their weights, differs only by
-- what the round in which the moves begin, and the one in which they end, have still to allow the one and not the other.
use Prim.Native.Nat.{ℕ, ◌+◌, ◌*◌}
use mathlib.Core.Path.{◌≡◌, ap, ◌∙◌}
use mathlib.Core.List.{List}
use mathlib.Core.Bool.{Bool, true, false, cond}
use native.Mathlib.Omega.{arith}
use lib.Dec.{eqb}
use Rattle.model.specs.Rules.{count}
use Rattle.model.specs.declared.Sent.{Sent}
use Rattle.model.proofs.Line.{waiting_is_active}
use Rattle.account.specs.Stretch.{one_plus_mark, sum_of}
use Rattle.account.proofs.Sums.{sum_of_sent}
use Rattle.account.proofs.Circle.{Circle, Move, round_starts, turn_opens, turn_stays_open, turn_is_over, flow_runs_empty, flow_joins, packet_joins, flow_opens, Moves, stands, moves, follows, to_come}
use Rattle.account.proofs.Sums.{sum_append}
use Rattle.account.proofs.Order.{Both, moves_keep_both}

-- What a completed turn allowed is no longer to come.
turn_has_come : (f g mark : ℕ) (rest : List ℕ)
    → cond (eqb f g) (1 + mark) 0 + 0 + count f rest * (1 + mark) ≡ (cond (eqb f g) 1 0 + count f rest) * (1 + mark)
turn_has_come f g mark rest = go (eqb f g)
  where
    go : (b : Bool) → cond b (1 + mark) 0 + 0 + count f rest * (1 + mark) ≡ (cond b 1 0 + count f rest) * (1 + mark)
    go true = omega arith
    go false = omega arith

module _ (i j : ℕ) where
  abbrev pub Even : Circle → Circle → List Sent → Type 0
  Even c c' e = sum_of_sent i one_plus_mark e + to_come c' i + to_come c j ≡ sum_of_sent j one_plus_mark e + to_come c' j + to_come c i

  move_is_even : {c c' : Circle} {l e : List Sent} → Move c c' l e → Both i j c.flow → Even c c' e
  unfolding sum_of count
  move_is_even (round_starts {flow} {mark = mark} {running = running} once) w =
      omega (
        arith,
        ap (λ (n : ℕ). n * (1 + running)) (once i ∙ waiting_is_active (flow i) w.0),
        ap (λ (n : ℕ). n * (1 + running)) (once j ∙ waiting_is_active (flow j) w.1),
      )
  move_is_even (turn_opens new low) w = omega arith
  move_is_even (turn_stays_open new p) w = omega arith
  move_is_even (turn_is_over {rest = rest} {g = g} {mark = mark} new p low up most full) w = omega (arith, turn_has_come i g mark rest, turn_has_come j g mark rest)
  move_is_even (flow_runs_empty {rest = rest} {g = g} {mark = mark} new p low up out) w = omega (arith, turn_has_come i g mark rest, turn_has_come j g mark rest)
  move_is_even (flow_joins new out) w = omega arith
  move_is_even (packet_joins new) w = omega arith
  move_is_even (flow_opens only z out) w = omega arith

  pub moves_are_even : {c c' : Circle} {l e : List Sent} → Moves (Both i j) c c' l e → Both i j c.flow → Even c c' e
  unfolding sum_of
  moves_are_even stands w = omega arith
  moves_are_even (moves m v) w = move_is_even m w
  moves_are_even (follows {e = e} {e' = e'} r t) w =
      omega (arith, moves_are_even r w, moves_are_even t (moves_keep_both i j r w), sum_append i one_plus_mark e e', sum_append j one_plus_mark e e')
