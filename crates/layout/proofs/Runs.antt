-- Parts of one width, one behind the other: where the part of a flow lies, and that a store over it lays another flow's there.
use Prim.Native.Nat.{ℕ, zero, suc, ◌+◌, ◌*◌, ◌≤◌, ◌<◌}
use mathlib.Core.Path.{◌≡◌, refl, sym, ap, ◌∙◌}
use mathlib.Core.List.{List, [], ◌∷◌, ◌++◌, append-nil}
use native.Mathlib.Omega.{arith}
use native.Mathlib.Nat.{zero-add, suc-add, add-suc, mul-suc, mul-zero, le_of_suc-le-suc}
use lib.ListN.{length, get_or, set, drop, length-append, length-set}
use lib.Seq.{sets, sets-eq, set-append_left, drop-length, drop-append-add}
use Rattle.steps.specs.declared.FlowCell.{FlowCell}
use Rattle.layout.specs.Layout.{joined}

-- Stores behind the first part of a list leave that part.
set_behind : (a r : List ℕ) (i v : ℕ) → set (a ++ r) (length a + i) v ≡ a ++ set r i v
set_behind [] r i v = ap (λ (n : ℕ). set r n v) (zero-add i)
set_behind (b ∷ a) r i v = ap (λ (n : ℕ). set (b ∷ a ++ r) n v) (suc-add (length a) i) ∙ ap (λ (l : List ℕ). b ∷ l) (set_behind a r i v)

sets_behind : (a r : List ℕ) (i : ℕ) (vs : List ℕ) → sets (a ++ r) (length a + i) vs ≡ a ++ sets r i vs
sets_behind a r i [] = refl
sets_behind a r i (v ∷ vs) =
    ap (λ (l : List ℕ). sets l (suc (length a + i)) vs) (set_behind a r i v)
    ∙ ap (λ (n : ℕ). sets (a ++ set r i v) n vs) (sym (add-suc (length a) i))
    ∙ sets_behind a (set r i v) (suc i) vs

-- Stores in the first part leave what is behind.
sets_before : (a r : List ℕ) (i : ℕ) (vs : List ℕ) → i + length vs ≤ length a → sets (a ++ r) i vs ≡ sets a i vs ++ r
sets_before a r i [] h = refl
sets_before a r i (v ∷ vs) h =
    ap (λ (l : List ℕ). sets l (suc i) vs) (set-append_left a r i v (omega arith))
    ∙ sets_before (set a i v) r (suc i) vs (omega (arith, length-set a i v))

-- Stores in the first or the second of three parts leave the others.
pub stores_in_first : (a b c : List ℕ) (i : ℕ) (vs : List ℕ) → i + length vs ≤ length a → sets (a ++ b ++ c) i vs ≡ sets a i vs ++ b ++ c
stores_in_first a b c i vs h =
    sets_before (a ++ b) c i vs (omega (arith, length-append a b)) ∙ ap (λ (l : List ℕ). l ++ c) (sets_before a b i vs h)

pub stores_in_second : (a b c : List ℕ) (n i : ℕ) (vs : List ℕ) → length a ≡ n → i + length vs ≤ length b
    → sets (a ++ b ++ c) (n + i) vs ≡ a ++ sets b i vs ++ c
stores_in_second a b c n i vs e h =
    sets_before (a ++ b) c (n + i) vs (omega (arith, length-append a b))
    ∙ ap (λ (k : ℕ). sets (a ++ b) (k + i) vs ++ c) (sym e)
    ∙ ap (λ (l : List ℕ). l ++ c) (sets_behind a b i vs)

-- As many stores as the list is long leave what was stored.
sets_over : (a vs : List ℕ) → length a ≡ length vs → sets a 0 vs ≡ vs
sets_over a vs e =
    sets-eq vs a 0 (omega arith)
    ∙ ap (λ (n : ℕ). vs ++ drop n a) (zero-add (length vs) ∙ sym e)
    ∙ ap (λ (l : List ℕ). vs ++ l) (drop-length a)
    ∙ append-nil vs

module _ (part : FlowCell → List ℕ) (w : ℕ) (wide : (x : FlowCell) → length (part x) ≡ w) where
  pub joined_length : (flows : List FlowCell) → length (joined part flows) ≡ w * length flows
  unfolding joined
  joined_length [] = sym (mul-zero w)
  joined_length (x ∷ flows) =
      length-append (part x) (joined part flows) ∙ omega (arith, wide x, joined_length flows, mul-suc w (length flows))

  -- From where a flow's part begins, it lies there, and then those of the flows behind.
  pub joined_from : (flows : List FlowCell) (f : ℕ) (d : FlowCell) → f < length flows
      → drop (w * f) (joined part flows) ≡ part (get_or flows f d) ++ joined part (drop (suc f) flows)
  unfolding joined
  joined_from [] f d h = absurd (omega arith)
  joined_from (x ∷ flows) zero d h = ap (λ (n : ℕ). drop n (part x ++ joined part flows)) (mul-zero w)
  joined_from (x ∷ flows) (suc f) d h =
      let at : w * suc f ≡ length (part x) + w * f = omega (arith, wide x, mul-suc w f) in
      ap (λ (n : ℕ). drop n (part x ++ joined part flows)) at
      ∙ drop-append-add (part x) (joined part flows) (w * f)
      ∙ joined_from flows f d (le_of_suc-le-suc h)

  pub joined_stored : (flows : List FlowCell) (f : ℕ) (x : FlowCell) → f < length flows
      → sets (joined part flows) (w * f) (part x) ≡ joined part (set flows f x)
  unfolding joined
  joined_stored [] f x h = absurd (omega arith)
  joined_stored (y ∷ flows) zero x h =
      ap (λ (n : ℕ). sets (part y ++ joined part flows) n (part x)) (mul-zero w)
      ∙ sets_before (part y) (joined part flows) 0 (part x) (omega (arith, wide x, wide y))
      ∙ ap (λ (l : List ℕ). l ++ joined part flows) (sets_over (part y) (part x) (wide y ∙ sym (wide x)))
  joined_stored (y ∷ flows) (suc f) x h =
      let at : w * suc f ≡ length (part y) + w * f = omega (arith, wide y, mul-suc w f) in
      ap (λ (n : ℕ). sets (part y ++ joined part flows) n (part x)) at
      ∙ sets_behind (part y) (joined part flows) (w * f) (part x)
      ∙ ap (λ (l : List ℕ). part y ++ l) (joined_stored flows f x (le_of_suc-le-suc h))
