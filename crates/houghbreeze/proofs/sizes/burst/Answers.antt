-- The bytes of the state are lent, and the round is put back.
use Rattle.image.proofs.ImageLaws.{turn_fits}
use Rattle.houghbreeze.proofs.SizesLaws.{burst_passes}
use Rattle.houghbreeze.proofs.sizes.burst.Goals as goal

pub put_round-requires-clause-turn_fits : goal.put_round-requires-clause-turn_fits
put_round-requires-clause-turn_fits c = turn_fits _ c.burst-reply.ensures.sound

pub returns : goal.returns
returns c =
    burst_passes c.args.bytes.now c.requires c.round_at-round.result c.round_at-round.ensures c.args.n c.args.list.now c.burst-reply.new.list
    c.burst-reply.new.cells c.burst-reply.new.r c.burst-reply.result c.burst-reply.ensures c.put_round.ensures
