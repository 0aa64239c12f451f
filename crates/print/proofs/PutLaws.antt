-- A number put digit by digit.
use Prim.Native.Nat.{ℕ, ◌/◌, ◌%◌, ◌<◌, ◌≤◌}
use native.Mathlib.Nat.{div-add-mod'}
use native.Mathlib.Omega.{arith}
use mathlib.Core.List.{List, [], ◌∷◌, ◌++◌}
use mathlib.Core.Path.{◌≡◌, sym, ap, ◌∙◌, subst}
use Rattle.lines.specs.Written.{digit_byte, decimal}
use Rattle.lines.proofs.Decimal.{decimal_of_digit, decimal_and_digit}
use Rattle.print.specs.Puts.{Puts}
use Rattle.print.specs.declared.Page.{Page as Held}
use Rattle.print.proofs.PutsLaws.{puts_behind}

module _ {p q r : Held ℕ} (n : ℕ) (last : Puts (digit_byte (n % 10) ∷ []) q r) where
  pub one_digit : n < 10 → q ≡ p → Puts (decimal n) p r
  one_digit h e =
      subst (λ (text : List ℕ). Puts text p r) digit (subst (λ (k : Held ℕ). Puts (digit_byte (n % 10) ∷ []) k r) e last)
    where
      digit : digit_byte (n % 10) ∷ [] ≡ decimal n
      digit = ap (λ (d : ℕ). digit_byte d ∷ []) (omega arith) ∙ sym (decimal_of_digit n h)

  pub more_digits : {q' : Held ℕ} → 10 ≤ n → q ≡ q' → Puts (decimal (n / 10)) p q' → Puts (decimal n) p r
  more_digits h e before = subst (λ (text : List ℕ). Puts text p r) (sym whole) (puts_behind (subst (λ (k : Held ℕ). Puts (decimal (n / 10)) p k) (sym e) before) last)
    where
      whole : decimal n ≡ decimal (n / 10) ++ (digit_byte (n % 10) ∷ [])
      whole = ap decimal (sym (div-add-mod' n 10)) ∙ decimal_and_digit (n / 10) (n % 10) (omega arith) (omega arith)
