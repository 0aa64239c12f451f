-- What the contract of `whole` cites.
use Rattle.std.specs.Prelude.{ℕ, ◌≤◌, ◌≡◌, List, length, take, Result, IfOk}

-- so many bytes lie at the start of a buffer, and that is how many its part up to there has
abbrev pub LieAtStart : ℕ → List ℕ → Type 0
LieAtStart n buffer = (n ≤ length buffer) × (n ≡ length (take n buffer))

-- where bytes were read, they lie at the start of the buffer
abbrev pub Within : {E : Type 0} → Result ℕ E → List ℕ → Type 0
Within r buffer = IfOk r (λ n. LieAtStart n buffer)
