-- The place is the one that the departure tells.
use Rattle.bench_loops.proofs.depart.Goals as goal

pub returns : goal.returns
returns c = (c.depart-left.result.reply.from, c.depart-left.ensures)
