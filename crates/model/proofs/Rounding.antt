-- Rounding up covers what it rounds, and no more than is needed for that.
use Prim.Native.Nat.{ℕ, suc, ◌+◌, ◌*◌, ◌-◌, ◌≤◌, ◌<◌, max}
use mathlib.Core.Path.{◌≡◌, refl}
use mathlib.Core.Bool.{Bool, true, false, cond}
use native.Mathlib.Omega.{arith}
use native.Mathlib.Decide.{dec_lt}
use native.Mathlib.Nat.{div-add-mod', mod-lt, div-lt_iff_lt-mul, le-mul_of_pos_right, le-max_left, le-max_right, max-le, mul-le-mul_left}
use lib.Dec.{leb}
use borrow.Author.Tests.{le-leb}
use Rattle.model.specs.Steps.{rounded_up, raised}

pub rounded_up_covers : (x w : ℕ) → 1 ≤ w → x ≤ w * rounded_up x w
rounded_up_covers x w p = omega (arith, div-add-mod' (x + (w - 1)) w, mod-lt (x + (w - 1)) {m = w} p)

pub rounded_up_at_most : (x w : ℕ) → 1 ≤ w → rounded_up x w ≤ x
rounded_up_at_most x w p =
    let small : x + (w - 1) < suc x * w = omega (arith, le-mul_of_pos_right x p) in
    let below : rounded_up x w < suc x = (div-lt_iff_lt-mul p).1 small in
    omega arith

-- It exceeds a number just where that number times the weight falls short.
pub rounded_up_within : (x r w : ℕ) → 1 ≤ w → x ≤ r * w → rounded_up x w ≤ r
rounded_up_within x r w p h =
    let small : x + (w - 1) < suc r * w = omega arith in
    let below : rounded_up x w < suc r = (div-lt_iff_lt-mul p).1 small in
    omega arith

pub rounded_up_beyond : (x r w : ℕ) → 1 ≤ w → r * w < x → r < rounded_up x w
rounded_up_beyond x r w p h =
    elim (dec_lt r (rounded_up x w)) [
      | yes b ↦ b
      | no b ↦
          let small : rounded_up x w < suc r = omega arith in
          let below : x + (w - 1) < suc r * w = (div-lt_iff_lt-mul p).0 small in
          absurd (omega arith)
    ]

pub raised_keeps : (running w a n : ℕ) → running ≤ raised running w a n
unfolding raised
raised_keeps running w a n = go (leb a n)
  where
    go : (b : Bool) → running ≤ cond b (max running (rounded_up (n - a) w)) running
    go true = le-max_left running (rounded_up (n - a) w)
    go false = omega arith

pub raised_covers : (running w a n : ℕ) → 1 ≤ w → a ≤ n → n - a ≤ w * raised running w a n
unfolding raised
raised_covers running w a n p h =
    rw (le-leb a n h)
    (omega (arith, rounded_up_covers (n - a) w p, mul-le-mul_left w (le-max_right running (rounded_up (n - a) w))))

pub raised_at_most : (running w a n limit : ℕ) → 1 ≤ w → running ≤ limit → n ≤ a + limit → raised running w a n ≤ limit
unfolding raised
raised_at_most running w a n limit p h k = go (leb a n) refl
  where
    go : (b : Bool) → leb a n ≡ b → cond b (max running (rounded_up (n - a) w)) running ≤ limit
    go true e = max-le h (omega (arith, rounded_up_at_most (n - a) w p))
    go false e = h
