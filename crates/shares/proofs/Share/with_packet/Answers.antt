-- `shares::Share::with_packet` meets its contract: it takes the larger of two sizes.
use Rattle.std.proofs.Common.{rules}
use Rattle.shares.specs.Reading.{with_packet}
use Rattle.shares.proofs.Share.with_packet.Goals as goal

pub returns : goal.returns
unfolding with_packet
returns c = search rules
