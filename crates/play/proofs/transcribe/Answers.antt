-- `play::transcribe` meets its contract: every transcript fits the room that it asks for.
use Rattle.play.proofs.Lengths.{nothing_left_off}
use Rattle.play.proofs.transcribe.Goals as goal

pub returns : goal.returns
returns c = nothing_left_off _ c.requires c.play.ensures
