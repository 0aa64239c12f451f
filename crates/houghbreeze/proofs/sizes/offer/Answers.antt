-- The bytes of the state are lent, and the length of the line is stored.
use Rattle.houghbreeze.proofs.SizesLaws.{offer_passes}
use Rattle.houghbreeze.proofs.sizes.offer.Goals as goal

pub returns : goal.returns
returns c =
    offer_passes c.args.bytes.now c.requires c.round_at-round.result c.round_at-round.ensures c.args.f c.args.size c.offer-reply.new.cells
    c.offer-reply.new.r c.offer-reply.result c.offer-reply.ensures
