-- By whether a packet waits.
use Rattle.steps.proofs.FlowLaws.{no_first_place, some_first_place}
use Rattle.steps.proofs.FlowCell.first_place.Goals as goal
use Rattle.steps.proofs.FlowCell.first_place.Goals.{then-self-eq0, else-self-eq0}

pub returns : goal.returns
returns c =
    λ ready. elim c.if-self-eq0.branch [
      | then-self-eq0 w ↦ rw w.size-is (no_first_place c.args.self ready c.args.f w.if-self-eq0.true)
      | else-self-eq0 w ↦ rw w.size-is (some_first_place c.args.self ready c.args.f w.if-self-eq0.false w.first_size.result w.first_size.ensures)
    ]
