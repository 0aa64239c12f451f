-- `shares::Shares::new` meets its contract: without departures every share is nothing.
use Rattle.shares.proofs.ReadLaws.{nothing_sent}
use Rattle.shares.proofs.Shares.new.Goals as goal

pub returns : goal.returns
returns c = nothing_sent c.default-none.result c.default-none.ensures
