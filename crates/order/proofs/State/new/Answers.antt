-- Every cell is that of a flow that is not open.
use Rattle.order.proofs.StateLaws.{new_gives}
use Rattle.model.specs.Model.{new_scheduler}
use Rattle.steps.specs.Cells.{cells, packed, encode_flow}
use Rattle.layout.specs.Bytes.{digits}
use Rattle.layout.specs.Layout.{bytes_of, joined}
use Rattle.order.specs.Encoding.{encode}
use Rattle.order.proofs.State.new.Goals as goal

pub returns : goal.returns
unfolding new_scheduler cells packed encode_flow encode bytes_of joined digits
returns c = new_gives

pub invariant_of-result : goal.invariant_of-result
unfolding new_scheduler cells packed encode_flow encode bytes_of joined digits
invariant_of-result c = new_gives.sound
