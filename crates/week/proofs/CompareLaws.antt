-- Two texts, compared byte by byte.
--     same_to_itself, same_are_equal      `same` finds out whether two texts are equal
--     feeds_counted, few_feeds            the line feeds up to where they differ
--     cut_same, cut_difference            a text that is cut off behind the other's end compares as the whole does
use Prim.Native.Nat.{ℕ, zero, suc, ◌+◌, ◌<◌, ◌≤◌}
use native.Mathlib.Numerals.{one-add}
use native.Mathlib.Omega.{arith}
use mathlib.Core.Bool.{Bool, true, false, cond, true≢false}
use mathlib.Core.List.{List, [], ◌∷◌}
use mathlib.Core.Path.{◌≡◌, refl, sym, ap, ap₂, ◌∙◌}
use lib.ListN.{length, take}
use lib.Dec.{eqb}
use Rattle.std.specs.Prelude.{◌==◌, filter, take_while, count_by}
use Rattle.std.specs.List.{zip, prefix_len}
use Rattle.std.proofs.lemmas.List.Sums.{length-filter}
use borrow.Author.Tests.{eq-eqb, eqb-true}
use Rattle.week.specs.Site.{same, common, line_feeds, first_difference}

-- ---- equal texts

pub same_to_itself : (a : List ℕ) → same a a ≡ true
unfolding same
same_to_itself [] = refl
same_to_itself (x ∷ a) = ap (λ (t : Bool). cond t (same a a) false) (eq-eqb x x refl) ∙ same_to_itself a

pub same_are_equal : (a b : List ℕ) → same a b ≡ true → a ≡ b
unfolding same
same_are_equal [] [] e = refl
same_are_equal [] (y ∷ b) e = absurd (true≢false (sym e))
same_are_equal (x ∷ a) [] e = absurd (true≢false (sym e))
same_are_equal (x ∷ a) (y ∷ b) e = by_test (eqb x y) refl (same_are_equal a b) e
  where
    by_test : (t : Bool) → eqb x y ≡ t → (same a b ≡ true → a ≡ b) → cond t (same a b) false ≡ true → x ∷ a ≡ y ∷ b
    by_test true h rest f = ap₂ ◌∷◌ (eqb-true x y h) (rest f)
    by_test false h rest f = absurd (true≢false (sym f))

-- ---- the first difference

-- two bytes side by side: alike, and a line feed
abbrev alike : ℕ × ℕ → Bool
alike p = p.0 == p.1

abbrev feed : ℕ × ℕ → Bool
feed p = p.0 == 10

-- The line feeds among the pairs that both texts begin with are those of the longest common beginning.
feeds_filtered : (a b : List ℕ) → length (filter feed (take_while alike (zip a b))) ≡ line_feeds (common a b)
unfolding line_feeds common
feeds_filtered [] b = refl
feeds_filtered (x ∷ a) [] = refl
feeds_filtered (x ∷ a) (y ∷ b) = by_test (eqb x y) (feeds_filtered a b)
  where
    alike_on : List (ℕ × ℕ)
    alike_on = take_while alike (zip a b)

    by_feed : (f : Bool) → length (filter feed alike_on) ≡ line_feeds (common a b)
        → length (cond f ((x, y) ∷ filter feed alike_on) (filter feed alike_on)) ≡ cond f 1 0 + line_feeds (common a b)
    by_feed true e = omega (arith, e)
    by_feed false e = omega (arith, e)

    by_test : (t : Bool) → length (filter feed alike_on) ≡ line_feeds (common a b)
        → length (filter feed (take (cond t (1 + prefix_len alike (zip a b)) 0) ((x, y) ∷ zip a b))) ≡ line_feeds (cond t (x ∷ common a b) [])
    by_test true e = rw one-add (by_feed (eqb x 10) e)
    by_test false e = refl

pub feeds_counted : (a b : List ℕ) → count_by feed (take_while alike (zip a b)) ≡ line_feeds (common a b)
feeds_counted a b = sym (length-filter feed (take_while alike (zip a b))) ∙ feeds_filtered a b

pub few_feeds : (a b : List ℕ) → line_feeds (common a b) ≤ length b
unfolding line_feeds common
few_feeds [] b = omega arith
few_feeds (x ∷ a) [] = omega arith
few_feeds (x ∷ a) (y ∷ b) = by_test (eqb x y) (few_feeds a b)
  where
    one_at_most : (t : Bool) → cond t 1 0 ≤ 1
    one_at_most true = omega arith
    one_at_most false = omega arith

    by_test : (t : Bool) → line_feeds (common a b) ≤ length b → line_feeds (cond t (x ∷ common a b) []) ≤ suc (length b)
    by_test true h = omega (arith, one_at_most (eqb x 10), h)
    by_test false h = omega arith

-- ---- a text that is cut off

pub cut_same : (room : ℕ) (a b : List ℕ) → length b < room → same (take room a) b ≡ same a b
unfolding same
cut_same zero a b h = absurd (omega arith)
cut_same (suc room) [] b h = refl
cut_same (suc room) (x ∷ a) [] h = refl
cut_same (suc room) (x ∷ a) (y ∷ b) h = ap (λ (t : Bool). cond (eqb x y) t false) (cut_same room a b (omega arith))

cut_common : (room : ℕ) (a b : List ℕ) → length b < room → common (take room a) b ≡ common a b
unfolding common
cut_common zero a b h = absurd (omega arith)
cut_common (suc room) [] b h = refl
cut_common (suc room) (x ∷ a) [] h = refl
cut_common (suc room) (x ∷ a) (y ∷ b) h = ap (λ (l : List ℕ). cond (eqb x y) (x ∷ l) []) (cut_common room a b (omega arith))

pub cut_difference : (room : ℕ) (a b : List ℕ) → length b < room → first_difference (take room a) b ≡ first_difference a b
unfolding first_difference
cut_difference room a b h = ap (λ (l : List ℕ). 1 + line_feeds l) (cut_common room a b h)
