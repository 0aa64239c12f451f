-- A number among the arguments.
use Rattle.std.specs.Prelude.{ℕ, ◌≡◌, ◌≤◌, List, length, take}
use Rattle.std.specs.Str.Parse.{IsNumeral, digits_value}

-- A buffer begins with a word of decimal digits, and they spell the number.
pub record Begins (buffer : List ℕ) (number : ℕ) : Type 0 where
  pub digits : ℕ
  pub within : digits ≤ length buffer
  pub numeral : IsNumeral 10 (take digits buffer)
  pub spelled : number ≡ digits_value 10 (take digits buffer)
