-- A number as so many bytes, the lowest first, and back.
use Rattle.std.specs.Prelude.{ℕ, zero, suc, ◌+◌, ◌*◌, ◌/◌, ◌%◌, List, [], ◌∷◌}
use Rattle.std.proofs.lemmas.List.Edits.{sets}
use Rattle.model.specs.Limits.{queue_limit}

-- a byte is less than this
abbrev pub byte_limit : ℕ
byte_limit = 256

unfoldable pub digits : ℕ → ℕ → List ℕ
digits zero n = []
digits (suc k) n = n % byte_limit ∷ digits k (n / byte_limit)

unfoldable pub number : List ℕ → ℕ
number [] = 0
number (b ∷ l) = b + byte_limit * number l

-- The sizes of a flow's packets take so many bytes.
abbrev pub sizes_room : ℕ
sizes_room = queue_limit

-- Bytes with a number's digits stored from a place on.
unfoldable pub with_sizes : List ℕ → ℕ → ℕ → List ℕ
with_sizes l at n = sets l at (digits sizes_room n)
