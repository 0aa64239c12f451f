-- The bytes of the state are lent, and the round stays as it was.
use Rattle.houghbreeze.proofs.SizesLaws.{open_passes}
use Rattle.houghbreeze.proofs.sizes.open.Goals as goal

pub returns : goal.returns
returns c =
    open_passes c.args.bytes.now c.requires c.round_at-round.result c.round_at-round.ensures c.args.f c.args.weight c.open.new.cells
    c.open.result c.open.ensures
