-- Lists in cells: one more, one less, and back. A flow that is encoded is seen again as it was.
use Prim.Native.Nat.{ℕ, zero, suc, ◌+◌, ◌-◌, ◌≤◌, ◌<◌}
use mathlib.Core.Path.{◌≡◌, refl, sym, ap, ◌∙◌, subst}
use mathlib.Core.List.{List, [], ◌∷◌, ◌++◌, append_assoc}
use native.Mathlib.Omega.{arith}
use lib.ListN.{length, set, take, drop, replicate, length-append, length-replicate, replicate-append-replicate}
use lib.Seq.{take-append_seam, set-append_seam, drop-append-add}
use Rattle.model.specs.Limits.{flow_limit, mark_limit}
use Rattle.model.specs.Model.{Flow, Round}
use Rattle.model.specs.Rules.{Sizes, FlowRules}
use Rattle.steps.specs.Cells.{line_room, cells, packed, encode_flow, view_flow}
use Rattle.steps.specs.Premises.{RoundInPlace, encode_round, view_round, FlowReady, RoundReady}
use Rattle.steps.specs.declared.FlowCell.{FlowCell}
use Rattle.steps.proofs.Packed.{packed_seen}

cells_seen : (n : ℕ) (l : List ℕ) → take (length l) (cells n l) ≡ l
unfolding cells
cells_seen n l = take-append_seam l (replicate (n - length l) 0)

pub cells_as_long : (n : ℕ) (l : List ℕ) → length l ≤ n → length (cells n l) ≡ n
unfolding cells
cells_as_long n l h = omega (arith, length-append l (replicate (n - length l) 0), length-replicate {A = ℕ} (n - length l) 0)

-- One more at the end is a store behind the last.
pub cells_joined : (n : ℕ) (l : List ℕ) (v : ℕ) → length l < n → set (cells n l) (length l) v ≡ cells n (l ++ (v ∷ []))
unfolding cells
cells_joined n l v h =
    go (n - length l) (n - length (l ++ (v ∷ []))) (omega (arith, length-append l (v ∷ [])))
  where
    go : (m k : ℕ) → m ≡ suc k → set (l ++ replicate m 0) (length l) v ≡ l ++ (v ∷ []) ++ replicate k 0
    go zero k e = absurd (omega arith)
    go (suc m) k e =
        let same : m ≡ k = omega arith in
        set-append_seam l 0 (replicate m 0) v ∙ rw (same, append_assoc)

end_of_zeros : (k : ℕ) → drop {A = ℕ} k (replicate (suc k) 0) ≡ 0 ∷ []
end_of_zeros zero = refl
end_of_zeros (suc k) = end_of_zeros k

-- One less at the front is a shift, where a cell is to spare.
pub cells_left : (n p : ℕ) (l : List ℕ) → suc (length l) < n → drop 1 (cells n (p ∷ l)) ++ drop (n - 1) (cells n (p ∷ l)) ≡ cells n l
unfolding cells
cells_left n p l h = go (n - suc (length (p ∷ l))) (omega arith)
  where
    go : (k : ℕ) → n ≡ suc (length (p ∷ l)) + k
        → drop 1 ((p ∷ l) ++ replicate (n - length (p ∷ l)) 0) ++ drop (n - 1) ((p ∷ l) ++ replicate (n - length (p ∷ l)) 0)
        ≡ l ++ replicate (n - length l) 0
    go k e =
        let here : n - length (p ∷ l) ≡ suc k = omega arith in
        let longer : n - length l ≡ suc k + 1 = omega arith in
        let last : n - 1 ≡ length (p ∷ l) + k = omega arith in
        rw (here, last, longer, drop-append-add (p ∷ l) (replicate (suc k) 0) k, end_of_zeros k)
        (append_assoc l (replicate (suc k) 0) (0 ∷ [])
        ∙ ap (λ (t : List ℕ). l ++ t) (replicate-append-replicate (suc k) 1 0))

pub flow_seen : (x : Flow) → Sizes x.queue → view_flow (encode_flow x) ≡ x
unfolding view_flow encode_flow
flow_seen x h =
    ap (λ (q : List ℕ). record { weight = x.weight; surplus = x.surplus; slot = x.slot; queue = q }) (packed_seen h)

pub flow_ready : (x : Flow) → FlowRules x → FlowReady (encode_flow x)
flow_ready x R =
    record {
      form = ap encode_flow (sym (flow_seen x R.sizes_in_range));
      rules = subst FlowRules (sym (flow_seen x R.sizes_in_range)) R;
    }

-- What a flow's cell has, by what it stands for.
module _ (x : FlowCell) (form : x ≡ encode_flow (view_flow x)) where
  pub waiting_is : x.waiting ≡ length (view_flow x).queue
  unfolding encode_flow
  waiting_is = ap (λ (c : FlowCell). c.waiting) form

  pub sizes_are : x.sizes ≡ packed (view_flow x).queue
  unfolding encode_flow
  sizes_are = ap (λ (c : FlowCell). c.sizes) form

-- What a round's cell has, by what it stands for.
module _ (r : RoundInPlace) (form : r ≡ encode_round (view_round r)) where
  pub line_is : r.line ≡ cells line_room (view_round r).line
  unfolding encode_round
  line_is = ap (λ (c : RoundInPlace). c.line) form

  pub length_is : r.length ≡ length (view_round r).line
  unfolding encode_round
  length_is = ap (λ (c : RoundInPlace). c.length) form

pub round_seen : (r : Round) → view_round (encode_round r) ≡ r
unfolding view_round encode_round
round_seen r =
    ap (λ (l : List ℕ). record { line = l; visits = r.visits; mark = r.mark; running = r.running; turn = r.turn })
    (cells_seen line_room r.line)

pub round_ready : (r : Round) → length r.line ≤ flow_limit → r.mark ≤ mark_limit → r.running ≤ mark_limit → RoundReady (encode_round r)
unfolding encode_round
round_ready r l m n = record { form = ap encode_round (sym (round_seen r)); line_fits = l; mark_in_range = m; running_in_range = n }

-- The line of a round that is ready has all its cells.
pub line_length : {r : RoundInPlace} → RoundReady r → length r.line ≡ line_room
line_length {r} R = ap length (line_is r R.form) ∙ cells_as_long line_room (view_round r).line (omega (arith, length_is r R.form, R.line_fits))
