-- A number is what its digits give back, where there are enough of them, and it is the sum of the bytes that are read. Stores one by one lay a list; and the
-- library's conversions of eight bytes are this number and these digits.
use Prim.Native.Nat.{ℕ, zero, suc, ◌+◌, ◌*◌, ◌/◌, ◌%◌, ◌^◌, ◌≤◌, ◌<◌}
use mathlib.Core.Path.{◌≡◌, refl, sym, ap, ap₂, ◌∙◌}
use mathlib.Core.List.{List, [], ◌∷◌, ◌++◌, append_assoc}
use native.Mathlib.Omega.{arith}
use native.Mathlib.Nat.{add-zero, add-suc, mul_assoc, pow-succ', pow-suc, div-div-eq-div-mul}
use borrow.Rule.Slice.PartMut.{put_mid}
use mir.Syntax.{w64}
use lib.ListN.{length, get_or, set, take, drop, length-drop}
use lib.Seq.{sets, sets-eq, drop-cons, get_or-drop, length-take-le, take-suc, take_all, drop-drop}
use Rattle.std.specs.Int.{from_le_bytes, to_le_bytes, bytes_low_first}
use Rattle.layout.specs.Bytes.{byte_limit, digits, number, sizes_room, with_sizes}

pub digits_length : (k n : ℕ) → length (digits k n) ≡ k
unfolding digits
digits_length zero n = refl
digits_length (suc k) n = ap suc (digits_length k (n / byte_limit))

pub number_of_digits : (k n : ℕ) → n < byte_limit ^ k → number (digits k n) ≡ n
unfolding digits number
number_of_digits zero n h = omega arith
number_of_digits (suc k) n h =
    let more = pow-succ' byte_limit k in
    omega (arith, number_of_digits k (n / byte_limit) (omega arith))

-- A digit at the end counts by its place.
one_place_up : (k b : ℕ) → byte_limit ^ suc k * b ≡ byte_limit * (byte_limit ^ k * b)
one_place_up k b = ap (λ (n : ℕ). n * b) (pow-succ' byte_limit k) ∙ mul_assoc byte_limit (byte_limit ^ k) b

number_joined : (q : List ℕ) (b : ℕ) → number (q ++ (b ∷ [])) ≡ number q + byte_limit ^ length q * b
unfolding number
number_joined [] b = omega arith
number_joined (a ∷ q) b = omega (arith, number_joined q b, one_place_up (length q) b)

-- The bytes from a place on, up to the k-th behind it, as one sum.
abbrev pub summed : List ℕ → ℕ → ℕ → ℕ
summed l at zero = get_or l at 0
summed l at (suc k) = summed l at k + byte_limit ^ suc k * get_or l (at + suc k) 0

module _ (l : List ℕ) (at : ℕ) where
  pub sum_is_number : (k : ℕ) → at + suc k ≤ length l → summed l at k ≡ number (take (suc k) (drop at l))
  unfolding number
  sum_is_number zero h = sym (add-zero (get_or l at 0)) ∙ sym (ap (λ (q : List ℕ). number (take 1 q)) (drop-cons l at 0 (omega arith)))
  sum_is_number (suc k) h =
      let rest = drop at l in
      let long = length-drop at l in
      let next = get_or rest (suc k) 0 in
      ap (λ (n : ℕ). n + byte_limit ^ suc k * get_or l (at + suc k) 0) (sum_is_number k (omega arith))
      ∙ ap (λ (b : ℕ). number (take (suc k) rest) + byte_limit ^ suc k * b) (sym (get_or-drop at l (suc k) 0))
      ∙ ap (λ (n : ℕ). number (take (suc k) rest) + byte_limit ^ n * next) (sym (length-take-le (suc k) rest (omega arith)))
      ∙ sym (number_joined (take (suc k) rest) next)
      ∙ ap number (sym (take-suc rest (suc k) 0 (omega arith)))

-- Stores from the i-th place behind a place on.
abbrev pub stored : List ℕ → ℕ → ℕ → List ℕ → List ℕ
stored l at i [] = l
stored l at i (v ∷ vs) = stored (set l (at + i) v) at (suc i) vs

pub stored_is_sets : (l : List ℕ) (at i : ℕ) (vs : List ℕ) → stored l at i vs ≡ sets l (at + i) vs
stored_is_sets l at i [] = refl
stored_is_sets l at i (v ∷ vs) = stored_is_sets (set l (at + i) v) at (suc i) vs ∙ ap (λ (n : ℕ). sets (set l (at + i) v) n vs) (add-suc at i)

-- The library's conversions of eight bytes are the same number and the same digits.
pub number_converted : (bytes : List ℕ) → length bytes ≡ sizes_room → from_le_bytes w64 bytes ≡ number bytes
number_converted bytes long =
    omega (arith, sum_is_number bytes 0 7 (omega arith), ap number (take_all sizes_room bytes (omega arith)))

digits_above : (i k n : ℕ) → bytes_low_first (suc i) k n ≡ digits k (n / byte_limit ^ suc i)
unfolding digits
digits_above i zero n = refl
digits_above i (suc k) n =
    let here = byte_limit ^ suc i in
    let next : n / byte_limit ^ suc (suc i) ≡ n / here / byte_limit =
    ap (λ (p : ℕ). n / p) (pow-suc byte_limit (suc i)) ∙ sym (div-div-eq-div-mul n here byte_limit) in
    ap (λ (l : List ℕ). n / here % byte_limit ∷ l) (digits_above (suc i) k n ∙ ap (digits k) next)

pub digits_converted : (n : ℕ) → to_le_bytes w64 n ≡ digits sizes_room n
unfolding digits
digits_converted n = ap (λ (l : List ℕ). n % byte_limit ∷ l) (digits_above 0 7 n)

-- Digits that are copied over a part of the bytes are stored there.
pub digits_copied : (l : List ℕ) (at n : ℕ) {k : ℕ} {bytes : List ℕ} → k ≡ sizes_room → bytes ≡ digits sizes_room n → at + sizes_room ≤ length l
    → put_mid at k l bytes ≡ with_sizes l at n
unfolding with_sizes
digits_copied l at n same e h =
    let bytes = digits sizes_room n in
    let long = digits_length sizes_room n in
    ap₂ (λ (w : ℕ) (q : List ℕ). take at l ++ (q ++ drop w (drop at l))) (same ∙ sym long) e
    ∙ ap (λ (behind : List ℕ). take at l ++ (bytes ++ behind)) (drop-drop (length bytes) at l)
    ∙ sym (append_assoc (take at l) bytes (drop (at + length bytes) l))
    ∙ sym (sets-eq bytes l at (omega arith))
