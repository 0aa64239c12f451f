-- A checksum that takes in one number after the other.
use Rattle.std.specs.Prelude.{ℕ, ◌+◌, ◌*◌, ◌%◌, List}
use Rattle.std.specs.List.{fold}

-- What a checksum is, once it has taken in a number.
abbrev pub folded : (factor modulus value number : ℕ) → ℕ
folded factor modulus value number = (factor * value + number) % modulus

-- What it is, once it has taken in numbers, the first of them first.
abbrev pub folded_all : (factor modulus value : ℕ) → List ℕ → ℕ
folded_all factor modulus value numbers = fold (folded factor modulus) value numbers
