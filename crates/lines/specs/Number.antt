-- A number at a place of the input: 0 to 65,535, one to five digits, no leading zero except 0 itself.
use Rattle.std.specs.Prelude.{ℕ, zero, suc, ◌+◌, ◌-◌, ◌*◌, Bool, cond, ◌&&◌, List, length, get_or, ltb, leb, eqb, Option, Some, None}
use Prim.Native.Char.{code}
use Rattle.lines.specs.Written.{largest}
use Rattle.lines.specs.declared.Digits.{Digits}

abbrev pub most_digits : ℕ
most_digits = 5

-- whether this byte stands at this place
unfoldable pub stands : List ℕ → ℕ → ℕ → Bool
stands s at byte = ltb at (length s) && eqb (get_or s at 0) byte

-- the digit at a place, as the number that it says, and the place just past it
unfoldable pub digit_at : List ℕ → ℕ → Option (ℕ × ℕ)
digit_at s at =
    cond (ltb at (length s) && leb (code "0") (get_or s at 0) && leb (get_or s at 0) (code "9"))
    (Some (get_or s at 0 - code "0", at + 1))
    None

-- the digits from a place on: those before this place say `value`, and at most so many more are read
unfoldable pub digits_from : ℕ → ℕ → List ℕ → ℕ → Digits
digits_from zero value s at = record { value = value; past = at }
digits_from (suc left) value s at =
    elim (digit_at s at) [
      | Some (digit, past) ↦ digits_from left (value * 10 + digit) s past
      | None ↦ record { value = value; past = at }
    ]

-- the number that the digits from this place say: there is one digit at least, and it is not too large
abbrev pub bounded : Digits → ℕ → Option (ℕ × ℕ)
bounded digits at = cond (eqb digits.past at) None (cond (ltb largest digits.value) None (Some (digits.value, digits.past)))

-- A number that begins with 0 is 0 itself: what comes behind it is no part of it.
unfoldable pub number_at : List ℕ → ℕ → Option (ℕ × ℕ)
number_at s at = cond (stands s at (code "0")) (Some (0, at + 1)) (bounded (digits_from most_digits 0 s at) at)
