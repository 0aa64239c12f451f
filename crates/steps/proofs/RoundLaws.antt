-- From what a function on the round stores to what the model's step says.
use Prim.Native.Nat.{ℕ, ◌+◌, ◌*◌, ◌-◌, ◌≤◌, ◌<◌, max}
use mathlib.Core.Path.{◌≡◌, refl, sym, ap, ◌∙◌}
use mathlib.Core.List.{List, [], ◌∷◌, ◌++◌}
use mathlib.Core.Bool.{Bool, cond}
use native.Mathlib.Omega.{arith}
use native.Mathlib.Nat.{div-zero}
use lib.ListN.{length, set, drop, length-append, length-drop}
use borrow.Author.Tests.{le-leb, lt-leb}
use Rattle.model.specs.Limits.{flow_limit}
use Rattle.model.specs.Steps.{flow_lined, round_started, turn_opened, turn_kept, turn_closed, raised, rounded_up}
use Rattle.model.proofs.Rounding.{rounded_up_within, rounded_up_beyond}
use Rattle.model.specs.declared.Serving.{Serving}
use Rattle.model.specs.declared.Serving.TheVariants.{NoTurn, Turn}
use Rattle.model.proofs.Choosing.{zero_chosen, positive_chosen, empty_by_count, waiting_by_count}
use Rattle.steps.specs.Cells.{line_room, cells, view_flow}
use Rattle.steps.specs.Premises.{RoundInPlace, encode_round, view_round, FlowReady, RoundReady}
use Rattle.steps.specs.declared.FlowCell.{FlowCell}
use Rattle.steps.proofs.Encoded.{cells_as_long, cells_joined, cells_left, waiting_is, line_is, length_is}

-- Two rounds' cells with equal parts are equal.
same_round : {l l' : List ℕ} {n n' v v' m m' k k' : ℕ} {t t' : Serving} → l ≡ l' → n ≡ n' → v ≡ v' → m ≡ m' → k ≡ k' → t ≡ t'
    → ◌≡◌ {A = RoundInPlace} (record { line = l; length = n; visits = v; mark = m; running = k; turn = t })
    (record { line = l'; length = n'; visits = v'; mark = m'; running = k'; turn = t' })
same_round a b c d e f = λ i. record { line = a i; length = b i; visits = c i; mark = d i; running = e i; turn = f i }

-- Storing a flow number behind the last; taking the first out.
flow_stored : (l c : List ℕ) (n f : ℕ) → c ≡ cells line_room l → n ≡ length l → n < flow_limit → set c n f ≡ cells line_room (l ++ (f ∷ []))
flow_stored l c n f e k h = rw (e, k) (cells_joined line_room l f (omega arith))

head_taken : (l c : List ℕ) → c ≡ cells line_room l → 0 < length l → length l ≤ flow_limit → drop 1 c ++ drop (length c - 1) c ≡ cells line_room (drop 1 l)
head_taken [] c e h b = absurd (omega arith)
head_taken (f ∷ l) c e h b =
    rw e (ap (λ (n : ℕ). drop 1 (cells line_room (f ∷ l)) ++ drop (n - 1) (cells line_room (f ∷ l))) (cells_as_long line_room (f ∷ l) (omega arith))
    ∙ cells_left line_room f l (omega arith))

module _ (r : RoundInPlace) (h : RoundReady r) where
  -- The round as it is seen, with other numbers.
  renumbered : (v m k : ℕ) (t : Serving)
      → record { line = r.line; length = r.length; visits = v; mark = m; running = k; turn = t }
      ≡ encode_round (record { line = (view_round r).line; visits = v; mark = m; running = k; turn = t })
  unfolding encode_round
  renumbered v m k t = same_round (line_is r h.form) (length_is r h.form) refl refl refl refl

  -- The same with a flow at the end of the line.
  lengthened : (f v m k : ℕ) (t : Serving) → r.length < flow_limit
      → record { line = set r.line r.length f; length = r.length + 1; visits = v; mark = m; running = k; turn = t }
      ≡ encode_round (record { line = (view_round r).line ++ (f ∷ []); visits = v; mark = m; running = k; turn = t })
  unfolding encode_round
  lengthened f v m k t b =
      same_round
      (flow_stored (view_round r).line r.line r.length f (line_is r h.form) (length_is r h.form) b)
      (omega (arith, length_is r h.form, length-append (view_round r).line (f ∷ [])))
      refl refl refl refl

  pub started_law : r.visits ≡ 0
      → record { line = r.line; length = r.length; visits = r.length; mark = r.running; running = 0; turn = r.turn }
      ≡ encode_round (round_started (view_round r))
  unfolding round_started encode_round view_round
  started_law e =
      same_round (line_is r h.form) (length_is r h.form)
      (length_is r h.form ∙ sym (zero_chosen r.visits (length (view_round r).line) r.visits e))
      (sym (zero_chosen r.visits r.running r.mark e))
      (sym (zero_chosen r.visits 0 r.running e))
      refl

  pub going_on_law : (r.visits ≡ 0 → ⊥) → r ≡ encode_round (round_started (view_round r))
  unfolding round_started encode_round view_round
  going_on_law d =
      same_round (line_is r h.form) (length_is r h.form)
      (sym (positive_chosen r.visits (length (view_round r).line) r.visits d))
      (sym (positive_chosen r.visits r.running r.mark d))
      (sym (positive_chosen r.visits 0 r.running d))
      refl

  pub turn_opened_law : (f allowed : ℕ) (line : List ℕ) → 0 < r.length → line ≡ drop 1 r.line ++ drop (length r.line - 1) r.line
      → record { line = line; length = r.length - 1; visits = r.visits; mark = r.mark; running = r.running; turn = Turn f allowed 0 }
      ≡ encode_round (turn_opened (view_round r) f allowed)
  unfolding turn_opened encode_round view_round
  turn_opened_law f allowed line b e =
      same_round
      (e ∙ head_taken (view_round r).line r.line (line_is r h.form) (omega (arith, length_is r h.form)) (omega (arith, length_is r h.form, h.line_fits)))
      (ap (λ (n : ℕ). n - 1) (length_is r h.form) ∙ sym (length-drop 1 (view_round r).line))
      refl refl refl refl

  pub kept_law : (f allowed sent : ℕ)
      → record { line = r.line; length = r.length; visits = r.visits; mark = r.mark; running = r.running; turn = Turn f allowed sent }
      ≡ encode_round (turn_kept (view_round r) f allowed sent)
  unfolding turn_kept view_round
  kept_law f allowed sent = renumbered r.visits r.mark r.running (Turn f allowed sent)

  module _ (x : FlowCell) (ready : FlowReady x) where
    pub lined_law : (f : ℕ) → x.waiting ≡ 0 → r.length < flow_limit
        → record { line = set r.line r.length f; length = r.length + 1; visits = r.visits; mark = r.mark; running = r.running; turn = r.turn }
        ≡ encode_round (flow_lined (view_round r) f (view_flow x))
    unfolding flow_lined view_round
    lined_law f e b =
        rw (empty_by_count (view_flow x).queue ((view_round r).line ++ (f ∷ [])) (view_round r).line (sym (waiting_is x ready.form) ∙ e))
        (lengthened f r.visits r.mark r.running r.turn b)

    pub in_place_law : (f : ℕ) → (x.waiting ≡ 0 → ⊥) → r ≡ encode_round (flow_lined (view_round r) f (view_flow x))
    unfolding flow_lined view_round
    in_place_law f d =
        rw (waiting_by_count (view_flow x).queue ((view_round r).line ++ (f ∷ [])) (view_round r).line (λ e. d (waiting_is x ready.form ∙ e)))
        (renumbered r.visits r.mark r.running r.turn)

    pub emptied_law : (f allowed sent running : ℕ) → running ≡ raised r.running x.weight allowed sent → x.waiting ≡ 0
        → record { line = r.line; length = r.length; visits = r.visits - 1; mark = r.mark; running = running; turn = NoTurn }
        ≡ encode_round (turn_closed (view_round r) (view_flow x) f allowed sent)
    unfolding turn_closed view_round view_flow
    emptied_law f allowed sent running m e =
        rw (m, empty_by_count (view_flow x).queue (view_round r).line ((view_round r).line ++ (f ∷ [])) (sym (waiting_is x ready.form) ∙ e))
        (renumbered (r.visits - 1) r.mark (raised r.running x.weight allowed sent) NoTurn)

    pub rejoined_law : (f allowed sent running : ℕ) → running ≡ raised r.running x.weight allowed sent → (x.waiting ≡ 0 → ⊥) → r.length < flow_limit
        → record { line = set r.line r.length f; length = r.length + 1; visits = r.visits - 1; mark = r.mark; running = running; turn = NoTurn }
        ≡ encode_round (turn_closed (view_round r) (view_flow x) f allowed sent)
    unfolding turn_closed view_round view_flow
    rejoined_law f allowed sent running m d b =
        rw (m, waiting_by_count (view_flow x).queue (view_round r).line ((view_round r).line ++ (f ∷ [])) (λ e. d (waiting_is x ready.form ∙ e)))
        (lengthened f (r.visits - 1) r.mark (raised r.running x.weight allowed sent) NoTurn b)

-- The running mark, by whether the excess is 0 or more.
pub raised_by : (running weight allowed sent m : ℕ) → allowed ≤ sent → m ≡ max running (rounded_up (sent - allowed) weight)
    → m ≡ raised running weight allowed sent
unfolding raised
raised_by running weight allowed sent m h e =
    e ∙ ap (λ (b : Bool). cond b (max running (rounded_up (sent - allowed) weight)) running) (sym (le-leb allowed sent h))

pub not_raised : (running weight allowed sent : ℕ) → (allowed ≤ sent → ⊥) → running ≡ raised running weight allowed sent
unfolding raised
not_raised running weight allowed sent h =
    ap (λ (b : Bool). cond b (max running (rounded_up (sent - allowed) weight)) running) (sym (lt-leb allowed sent (omega arith)))

pub by_zero : (excess weight : ℕ) → weight ≡ 0 → 0 ≡ rounded_up excess weight
by_zero excess weight none = sym (ap (rounded_up excess) none ∙ div-zero (excess + (0 - 1)))

-- A running mark whose product with the weight covers the excess is no less than the excess by weight, rounded up.
module _ (running weight excess : ℕ) (some : 1 ≤ weight) where
  pub high_enough : excess ≤ running * weight → running ≡ max running (rounded_up excess weight)
  high_enough h = omega (arith, rounded_up_within excess running weight some h)

  pub too_low : running * weight < excess → rounded_up excess weight ≡ max running (rounded_up excess weight)
  too_low h = omega (arith, rounded_up_beyond excess running weight some h)
