-- The bytes of the state are lent, and the round is put back.
use Rattle.image.proofs.ImageLaws.{turn_fits}
use Rattle.houghbreeze.proofs.SizesLaws.{depart_passes}
use Rattle.houghbreeze.proofs.sizes.depart.Goals as goal

pub put_round-requires-clause-turn_fits : goal.put_round-requires-clause-turn_fits
put_round-requires-clause-turn_fits c = turn_fits _ c.depart-reply.ensures.sound

pub returns : goal.returns
returns c =
    depart_passes c.args.bytes.now c.requires c.round_at-round.result c.round_at-round.ensures c.depart-reply.new.cells c.depart-reply.new.r
    c.depart-reply.result c.depart-reply.ensures c.put_round.ensures
