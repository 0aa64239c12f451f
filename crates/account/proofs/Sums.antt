-- Sums and largest packets of departures.
use Prim.Native.Nat.{ℕ, ◌+◌, ◌≤◌, ◌<◌, max}
use mathlib.Core.Path.{◌≡◌, refl}
use mathlib.Core.List.{List, [], ◌∷◌, ◌++◌}
use mathlib.Core.Bool.{Bool, true, false, cond}
use native.Mathlib.Omega.{arith}
use lib.Dec.{eqb}
use Rattle.model.specs.declared.Sent.{Sent}
use Rattle.account.specs.Stretch.{turn_flow, sum_of, largest}

-- Of the order layer's departures: sums over those of a flow, sizes, and the largest.
abbrev pub sum_of_sent : ℕ → (Sent → ℕ) → List Sent → ℕ
sum_of_sent f value l = sum_of turn_flow f value l

abbrev pub bytes : Sent → ℕ
bytes d = d.size

abbrev pub largest_sent : List Sent → ℕ
largest_sent l = largest bytes l

abbrev pub DifferByAtMost : ℕ → ℕ → ℕ → Type 0
DifferByAtMost a b d = (a ≤ b + d) × (b ≤ a + d)

abbrev pub DifferByLessThan : ℕ → ℕ → ℕ → Type 0
DifferByLessThan a b d = (a < b + d) × (b < a + d)

pub sum_append : (f : ℕ) (value : Sent → ℕ) (a b : List Sent) → sum_of_sent f value (a ++ b) ≡ sum_of_sent f value a + sum_of_sent f value b
unfolding sum_of
sum_append f value [] b = omega arith
sum_append f value (d ∷ a) b = omega (arith, sum_append f value a b)

pub largest_append : (a b : List Sent) → largest_sent (a ++ b) ≡ max (largest_sent a) (largest_sent b)
unfolding largest
largest_append [] b = omega arith
largest_append (d ∷ a) b = omega (arith, largest_append a b)

-- Where no packet has a byte, no bytes are sent.
pub no_bytes : (f : ℕ) (l : List Sent) → largest_sent l ≡ 0 → sum_of_sent f bytes l ≡ 0
unfolding largest sum_of
no_bytes f [] e = refl
no_bytes f (d ∷ l) e = go (eqb f d.flow) (no_bytes f l (omega arith))
  where
    go : (b : Bool) → sum_of_sent f bytes l ≡ 0 → cond b d.size 0 + sum_of_sent f bytes l ≡ 0
    go true none = omega arith
    go false none = omega arith
