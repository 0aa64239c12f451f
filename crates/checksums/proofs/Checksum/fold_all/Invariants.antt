-- The bytes so far are taken in.
use lib.ListN.{take}
use Rattle.std.proofs.Common.{◌≡◌}
use Rattle.checksums.specs.Checksum.{folded_all}
use Rattle.checksums.proofs.Checksum.fold_all.Given as goal

abbrev pub invariant-loop-byte : goal.invariant-loop-byte
invariant-loop-byte g l = l.self.value ≡ folded_all g.row.FACTOR g.row.MODULUS l.initial.self.value (take l.byte-index l.bytes)
