-- Choices by a number, an answer, a test or a list: which side is chosen, and what is chosen has what both sides have.
use Prim.Native.Nat.{ℕ, zero, suc}
use mathlib.Core.Path.{◌≡◌, refl, ap}
use mathlib.Core.List.{List, [], ◌∷◌}
use mathlib.Core.Bool.{Bool, true, false, cond}
use native.Mathlib.Omega.{arith}
use lib.ListN.{length}
use Rattle.std.specs.Prelude.{Ok, Err}
use Rattle.model.specs.Choose.{if_empty, if_zero, if_ok}
use Rattle.model.specs.Replies.{Answer}

module _ {A : Type 0} where
  pub zero_chosen : (n : ℕ) (a b : A) → n ≡ 0 → if_zero n a b ≡ a
  zero_chosen n a b e = ap (λ (k : ℕ). if_zero k a b) e

  pub positive_chosen : (n : ℕ) (a b : A) → (n ≡ 0 → ⊥) → if_zero n a b ≡ b
  positive_chosen zero a b d = absurd (d refl)
  positive_chosen (suc n) a b d = refl

  pub ok_chosen : (r : Answer) (a b : A) → r ≡ Ok tt → if_ok r a b ≡ a
  ok_chosen r a b e = ap (λ (q : Answer). if_ok q a b) e

  pub chosen_twice : (r : Answer) (a b : A) → if_ok r (if_ok r a b) b ≡ if_ok r a b
  chosen_twice (Ok done) a b = refl
  chosen_twice (Err e) a b = refl

  pub chosen_has : (P : A → Type 0) (n : ℕ) (a b : A) → (n ≡ 0 → P a) → P b → P (if_zero n a b)
  chosen_has P zero a b h k = h refl
  chosen_has P (suc n) a b h k = k

  pub ok_has : (P : A → Type 0) (r : Answer) (a b : A) → (r ≡ Ok tt → P a) → P b → P (if_ok r a b)
  ok_has P (Ok tt) a b h k = h refl
  ok_has P (Err e) a b h k = k

  pub tested_has : (P : A → Type 0) (b : Bool) (x y : A) → P x → (b ≡ false → P y) → P (cond b x y)
  tested_has P true x y h k = h
  tested_has P false x y h k = k refl

  -- Whether a list is empty shows in its length.
  pub empty_by_count : (q : List ℕ) (a b : A) → length q ≡ 0 → if_empty q a b ≡ a
  empty_by_count [] a b e = refl
  empty_by_count (p ∷ q) a b e = absurd (omega arith)

  pub waiting_by_count : (q : List ℕ) (a b : A) → (length q ≡ 0 → ⊥) → if_empty q a b ≡ b
  waiting_by_count [] a b d = absurd (d refl)
  waiting_by_count (p ∷ q) a b d = refl
