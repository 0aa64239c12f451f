-- `sheet_text::flow_lines` meets its contract.
use Rattle.std.proofs.Common.{rules}
use Rattle.sheet_text.proofs.SumLaws.{no_lines, flows_go_on}
use Rattle.sheet_text.proofs.flow_lines.Goals as goal

pub loop-flow-init : goal.loop-flow-init
loop-flow-init c = no_lines _

pub loop-flow-preserved : goal.loop-flow-preserved
loop-flow-preserved c = flows_go_on c.args.flows _ _ (search rules) c.loop-flow.invariant c.field.ensures c.share.ensures
