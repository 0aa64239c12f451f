-- Sizes as the digits of one number: one more, one less, the first, and back.
use Prim.Native.Nat.{ℕ, zero, suc, pred, ◌+◌, ◌*◌, ◌/◌, ◌%◌, ◌^◌, ◌≤◌, ◌<◌}
use mathlib.Core.Path.{◌≡◌, refl, sym, ap, ap₂, ◌∙◌}
use mathlib.Core.List.{List, [], ◌∷◌, ◌++◌}
use native.Mathlib.Omega.{arith}
use native.Mathlib.Nat.{pow-succ', pow-suc, pow-le-pow_right, mul-suc, mul_assoc, one-mul}
use lib.Pow.{pow-add, shl_exact}
use lib.ListN.{length, get_or, drop}
use Rattle.model.specs.Limits.{size_limit, queue_limit}
use Rattle.model.specs.Rules.{Sizes, none, one}
use Rattle.steps.specs.Cells.{packed, unpacked}

-- What a digit is worth, place by place: a shift by eight bits for each.
eight_bits_each : (n : ℕ) → 2 ^ (8 * n) ≡ size_limit ^ n
eight_bits_each zero = refl
eight_bits_each (suc n) =
    ap (λ (k : ℕ). 2 ^ k) (mul-suc 8 n)
    ∙ pow-add 2 (8 * n) 8
    ∙ ap (λ (m : ℕ). m * size_limit) (eight_bits_each n)
    ∙ sym (pow-suc size_limit n)

pub worth_is : (n : ℕ) → n < queue_limit → 1 * 2 ^ (8 * n) % 2 ^ 64 ≡ size_limit ^ n
worth_is n h = shl_exact 1 (8 * n) 64 (omega arith) (omega arith) ∙ one-mul (2 ^ (8 * n)) ∙ eight_bits_each n

-- A digit counts size_limit times as much one place up.
one_place_up : (n d : ℕ) → size_limit ^ suc n * d ≡ size_limit * (size_limit ^ n * d)
one_place_up n d = ap (λ (m : ℕ). m * d) (pow-succ' size_limit n) ∙ mul_assoc size_limit (size_limit ^ n) d

-- One more at the end is a digit at the next place.
pub packed_joined : (q : List ℕ) (p : ℕ) → packed (q ++ (p ∷ [])) ≡ packed q + size_limit ^ length q * pred p
unfolding packed
packed_joined [] p = omega arith
packed_joined (h ∷ q) p = omega (arith, packed_joined q p, one_place_up (length q) (pred p))

-- As many digits as there are sizes.
packed_small : {q : List ℕ} → Sizes q → packed q < size_limit ^ length q
unfolding packed
packed_small none = omega arith
packed_small (one {p} {q} a b more) = omega (arith, packed_small more, pow-succ' size_limit (length q))

-- Those of a flow fit 64 bits.
pub packed_fits : {q : List ℕ} → Sizes q → length q ≤ queue_limit → packed q < 2 ^ 64
packed_fits {q} s h = omega (arith, packed_small s, pow-le-pow_right {n = size_limit} (omega arith) {i = length q} {j = queue_limit} h)

-- The lowest digit is the first size less one, and the others are the rest.
lowest_is_first : (p n : ℕ) → 1 ≤ p → p ≤ size_limit → suc ((pred p + size_limit * n) % size_limit) ≡ p
lowest_is_first p n a b = omega arith

others_are_rest : (p n : ℕ) → p ≤ size_limit → (pred p + size_limit * n) / size_limit ≡ n
others_are_rest p n b = omega arith

-- As many sizes as there were are read back.
pub packed_seen : {q : List ℕ} → Sizes q → unpacked (length q) (packed q) ≡ q
unfolding packed unpacked
packed_seen none = refl
packed_seen (one {p} {q} a b more) =
    ap₂ (λ (d : ℕ) (l : List ℕ). d ∷ l) (lowest_is_first p (packed q) a b) (ap (unpacked (length q)) (others_are_rest p (packed q) b) ∙ packed_seen more)

pub packed_first : {q : List ℕ} → Sizes q → 0 < length q → packed q % size_limit + 1 ≡ get_or q 0 0
unfolding packed
packed_first none h = absurd (omega arith)
packed_first (one {p} {q} a b more) h = omega (arith, lowest_is_first p (packed q) a b)

pub packed_left : {q : List ℕ} → Sizes q → 0 < length q → packed q / size_limit ≡ packed (drop 1 q)
unfolding packed
packed_left none h = absurd (omega arith)
packed_left (one {p} {q} a b more) h = others_are_rest p (packed q) b
