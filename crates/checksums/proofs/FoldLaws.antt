-- What a checksum is after one byte more.
use Rattle.std.proofs.Common.{◌≡◌, ℕ, ◌+◌, ◌<◌, List, length, slice_index_or}
use lib.ListN.{take}
use Rattle.std.proofs.lemmas.List.Sums.{fold_more}
use Rattle.checksums.specs.Checksum.{folded, folded_all}

pub one_more : (factor modulus before : ℕ) (bytes : List ℕ) (i : ℕ) {value number after : ℕ} → i < length bytes → value ≡ folded_all factor modulus before (take i bytes)
    → number ≡ slice_index_or bytes i 0 → after ≡ folded factor modulus value number → after ≡ folded_all factor modulus before (take (i + 1) bytes)
one_more factor modulus before bytes i inside so_far read taken =
    rw (taken, so_far, read, fold_more (folded factor modulus) before bytes i 0 inside) search
