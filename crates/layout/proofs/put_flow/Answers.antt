-- The sizes by one call, and a store for each number behind the weight.
use Rattle.layout.proofs.Laws.{flow_kept}
use Rattle.layout.proofs.put_flow.Goals as goal

pub returns : goal.returns
returns c =
    flow_kept c.args.cells.now c.args.f c.args.x c.put_number.ensures
