-- Laws of `decimal`: it is a digit, or the decimal of a number above 0 with a digit behind it. What else is to be said of it goes by `by_digits`.
use Prim.Native.Nat.{ℕ, zero, suc, ◌+◌, ◌*◌, ◌/◌, ◌%◌, ◌^◌, ◌<◌, ◌≤◌}
use native.Mathlib.Decide.{dec_lt}
use native.Mathlib.Nat.{div-add-mod'}
use native.Mathlib.Omega.{arith}
use mathlib.Core.List.{List, [], ◌∷◌, ◌++◌}
use mathlib.Core.Path.{◌≡◌, sym, ap, subst, ◌∙◌}
use lib.Arith.{digits_div, digits_mod}
use lib.ListN.{length, length-append}
use borrow.Author.Tests.{lt-ltb, le-ltb}
use Rattle.lines.specs.Written.{digit_byte, last_digits, decimal}

-- the digits of a number, where as many are allowed as it has
last_of_small : (most n : ℕ) → n < 10 → last_digits (suc most) n ≡ digit_byte n ∷ []
unfolding last_digits
last_of_small most n h = rw (last_digits, lt-ltb n 10 h)

last_of_large : (most n : ℕ) → 10 ≤ n → last_digits (suc most) n ≡ last_digits most (n / 10) ++ (digit_byte (n % 10) ∷ [])
unfolding last_digits
last_of_large most n h = rw (last_digits, le-ltb n 10 h)

more_allowed : (k l n : ℕ) → n < k → n < l → last_digits k n ≡ last_digits l n
more_allowed zero l n h j = absurd (omega arith)
more_allowed (suc k) zero n h j = absurd (omega arith)
more_allowed (suc k) (suc l) n h j = by_size (dec_lt n 10) (λ large. more_allowed k l (n / 10) (omega arith) (omega arith))
  where
    by_size : Dec (n < 10) → (10 ≤ n → last_digits k (n / 10) ≡ last_digits l (n / 10)) → last_digits (suc k) n ≡ last_digits (suc l) n
    by_size (yes small) again = last_of_small k n small ∙ sym (last_of_small l n small)
    by_size (no large) again = last_of_large k n (omega arith) ∙ ap (λ (ds : List ℕ). ds ++ (digit_byte (n % 10) ∷ [])) (again (omega arith)) ∙ sym (last_of_large l n (omega arith))

pub decimal_of_digit : (d : ℕ) → d < 10 → decimal d ≡ digit_byte d ∷ []
unfolding decimal
decimal_of_digit d h = last_of_small d d h

pub decimal_and_digit : (n d : ℕ) → 0 < n → d < 10 → decimal (n * 10 + d) ≡ decimal n ++ (digit_byte d ∷ [])
unfolding decimal
decimal_and_digit n d p h =
    last_of_large (n * 10 + d) (n * 10 + d) (omega arith) ∙ rw (digits_div n h, digits_mod n h, more_allowed (n * 10 + d) (suc n) n (omega arith) (omega arith))

-- what holds of a digit, and of n with a digit behind it where it holds of n, holds of every number
pub by_digits : (P : ℕ → Type 0) → ((d : ℕ) → d < 10 → P d) → ((n d : ℕ) → 0 < n → d < 10 → P n → P (n * 10 + d)) → (n : ℕ) → P n
by_digits P digit further n = upto (suc n) n (omega arith)
  where
    split : (m : ℕ) → Dec (m < 10) → (10 ≤ m → P (m / 10)) → P m
    split m (yes small) again = digit m small
    split m (no large) again = subst P (div-add-mod' m 10) (further (m / 10) (m % 10) (omega arith) (omega arith) (again (omega arith)))

    upto : (k m : ℕ) → m < k → P m
    upto zero m h = absurd (omega arith)
    upto (suc k) m h = split m (dec_lt m 10) (λ large. upto k (m / 10) (omega arith))

pub decimal_length : (n k : ℕ) → n < 10 ^ suc k → length (decimal n) ≤ suc k
decimal_length = by_digits (λ n. (k : ℕ) → n < 10 ^ suc k → length (decimal n) ≤ suc k) (λ d h k _. rw (decimal_of_digit d h) (omega arith)) longer
  where
    longer : (n d : ℕ) → 0 < n → d < 10 → ((k : ℕ) → n < 10 ^ suc k → length (decimal n) ≤ suc k) → (k : ℕ) → n * 10 + d < 10 ^ suc k → length (decimal (n * 10 + d)) ≤ suc k
    longer n d p h so_far zero l = absurd (omega arith)
    longer n d p h so_far (suc k) l = rw (decimal_and_digit n d p h, length-append) (omega (arith, so_far k (omega arith)))

-- a word and a number of so many digits
pub field_length : (word : List ℕ) (n k : ℕ) → n < 10 ^ suc k → length (word ++ decimal n) ≤ length word + suc k
field_length word n k h = omega (arith, length-append word (decimal n), decimal_length n k h)

-- a decimal begins with a byte, which is that of 0 only where the number is 0
abbrev pub Begins : ℕ → Type 0
Begins n = (byte : ℕ) × (rest : List ℕ) × (decimal n ≡ byte ∷ rest) × (0 < n → byte ≡ digit_byte 0 → ⊥)

pub decimal_begins : (n : ℕ) → Begins n
decimal_begins = by_digits Begins (λ d h. (digit_byte d, [], decimal_of_digit d h, λ p e. omega arith)) longer
  where
    longer : (n d : ℕ) → 0 < n → d < 10 → Begins n → Begins (n * 10 + d)
    longer n d p h b = (b.0, b.1 ++ (digit_byte d ∷ []), decimal_and_digit n d p h ∙ ap (λ (l : List ℕ). l ++ (digit_byte d ∷ [])) b.2, λ _ e. b.3 p e)
