-- A count fits its field.
use Rattle.houghbreeze.proofs.SizesLaws.{burst_count}
use Rattle.houghbreeze.proofs.hb_burst.Goals as goal

pub of_count-requires : goal.of_count-requires
of_count-requires c = burst_count c.args.s.now c.requires c.burst.ensures.promise
