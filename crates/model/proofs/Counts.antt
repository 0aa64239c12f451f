-- How often numbers stand in a list, and how long a list can be in which each number below a limit stands at most once.
use Prim.Native.Nat.{ℕ, zero, suc, ◌+◌, ◌≤◌, ◌<◌}
use mathlib.Core.Path.{◌≡◌, refl, sym, ap, ◌∙◌}
use mathlib.Core.List.{List, [], ◌∷◌, ◌++◌}
use mathlib.Core.Bool.{Bool, cond}
use native.Mathlib.Omega.{arith}
use native.Mathlib.Decide.{ℕ_discrete, dec_lt}
use lib.ListN.{length, take, drop, take-append-drop}
use lib.Dec.{eqb}
use borrow.Author.Tests.{eq-eqb, ne_eqb}
use Rattle.model.specs.Rules.{count}

pub count_append : (f : ℕ) (a b : List ℕ) → count f (a ++ b) ≡ count f a + count f b
unfolding count
count_append f [] b = omega arith
count_append f (g ∷ a) b = omega (arith, count_append f a b)

pub count_self : (f : ℕ) → count f (f ∷ []) ≡ 1
unfolding count
count_self f = rw (eq-eqb f f refl)

pub count_other : (f g : ℕ) → (f ≡ g → ⊥) → count f (g ∷ []) ≡ 0
unfolding count
count_other f g d = rw (ne_eqb f g d)

pub count_head : (f : ℕ) (l : List ℕ) → count f (f ∷ l) ≡ suc (count f l)
unfolding count
count_head f l = rw (eq-eqb f f refl) (omega arith)

pub count_behind : (f g : ℕ) (l : List ℕ) → (f ≡ g → ⊥) → count f (g ∷ l) ≡ count f l
unfolding count
count_behind f g l d = rw (ne_eqb f g d) (omega arith)

-- What stands in a part stands in the whole.
pub count_parts : (f n : ℕ) (l : List ℕ) → count f (take n l) + count f (drop n l) ≡ count f l
count_parts f n l = sym (count_append f (take n l) (drop n l)) ∙ ap (count f) (take-append-drop n l)

-- The sum of g over the numbers below n.
sum_below : ℕ → (ℕ → ℕ) → ℕ
sum_below zero g = 0
sum_below (suc n) g = g n + sum_below n g

sum_nothing : (n : ℕ) (g : ℕ → ℕ) → ((k : ℕ) → k < n → g k ≡ 0) → sum_below n g ≡ 0
unfolding sum_below
sum_nothing zero g h = refl
sum_nothing (suc n) g h = omega (arith, h n (omega arith), sum_nothing n g (λ k b. h k (omega arith)))

sum_adds : (n : ℕ) (g h : ℕ → ℕ) → sum_below n (λ k. g k + h k) ≡ sum_below n g + sum_below n h
unfolding sum_below
sum_adds zero g h = refl
sum_adds (suc n) g h = omega (arith, sum_adds n g h)

sum_of_one : (n f : ℕ) → f < n → sum_below n (λ k. cond (eqb k f) 1 0) ≡ 1
unfolding sum_below
sum_of_one zero f b = absurd (omega arith)
sum_of_one (suc n) f b =
    elim (ℕ_discrete n f) [
      | yes q ↦ omega (arith, ap (λ (t : Bool). cond {A = ℕ} t 1 0) (eq-eqb n f q), sum_nothing n (λ k. cond (eqb k f) 1 0) (λ k c. ap (λ (t : Bool). cond {A = ℕ} t 1 0) (ne_eqb k f (λ e. omega arith))))
      | no q ↦ omega (arith, ap (λ (t : Bool). cond {A = ℕ} t 1 0) (ne_eqb n f q), sum_of_one n f (omega arith))
    ]

sum_of_few : (n : ℕ) (g : ℕ → ℕ) → ((k : ℕ) → g k ≤ 1) → sum_below n g ≤ n
unfolding sum_below
sum_of_few zero g h = omega arith
sum_of_few (suc n) g h = omega (arith, h n, sum_of_few n g h)

sum_of_fewer : (n : ℕ) (g : ℕ → ℕ) (f : ℕ) → ((k : ℕ) → g k ≤ 1) → f < n → g f ≡ 0 → sum_below n g < n
unfolding sum_below
sum_of_fewer zero g f h b z = absurd (omega arith)
sum_of_fewer (suc n) g f h b z =
    elim (ℕ_discrete n f) [
      | yes q ↦ omega (arith, ap g q, sum_of_few n g h)
      | no q ↦ omega (arith, h n, sum_of_fewer n g f h (omega arith) z)
    ]

-- A list of numbers below n is as long as its numbers stand often.
length_is_sum : (n : ℕ) (l : List ℕ) → ((k : ℕ) → n ≤ k → count k l ≡ 0) → length l ≡ sum_below n (λ k. count k l)
unfolding count
length_is_sum n [] h = sym (sum_nothing n (λ k. 0) (λ k b. refl))
length_is_sum n (f ∷ l) h =
    elim (dec_lt f n) [
      | yes b ↦ omega (arith, length_is_sum n l (λ k c. omega (arith, h k c)), sum_adds n (λ k. cond (eqb k f) 1 0) (λ k. count k l), sum_of_one n f b)
      | no b ↦ absurd (omega (arith, h f (omega arith), count_head f l))
    ]

-- Where each number stands at most once, and only numbers below n, at most n stand; and fewer, if one of them does not.
pub few_stand : (n : ℕ) (l : List ℕ) → ((k : ℕ) → n ≤ k → count k l ≡ 0) → ((k : ℕ) → count k l ≤ 1) → length l ≤ n
few_stand n l h once = omega (arith, length_is_sum n l h, sum_of_few n (λ k. count k l) once)

pub fewer_stand : (n f : ℕ) (l : List ℕ) → ((k : ℕ) → n ≤ k → count k l ≡ 0) → ((k : ℕ) → count k l ≤ 1) → f < n → count f l ≡ 0 → length l < n
fewer_stand n f l h once b z = omega (arith, length_is_sum n l h, sum_of_fewer n (λ k. count k l) f once b z)
