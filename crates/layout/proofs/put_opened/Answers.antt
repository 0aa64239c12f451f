-- The weight, and then the rest by the call that stores it.
use Rattle.layout.specs.Layout.{with_opened}
use Rattle.layout.proofs.put_opened.Goals as goal

pub returns : goal.returns
unfolding with_opened
returns c = c.put_flow.ensures
