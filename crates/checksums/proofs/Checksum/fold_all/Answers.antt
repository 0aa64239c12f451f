-- Byte by byte, and then they are all taken in.
use Rattle.checksums.proofs.FoldLaws.{one_more}
use Rattle.checksums.proofs.Checksum.fold_all.Goals as goal

pub loop-byte-preserved : goal.loop-byte-preserved
loop-byte-preserved g c =
    let taken = c.fold.ensures in
    one_more g.row.FACTOR g.row.MODULUS c.args.self.now.value c.args.bytes.now c.loop-byte.byte-index c.loop-byte-test.true c.loop-byte.invariant taken.1 taken.2
