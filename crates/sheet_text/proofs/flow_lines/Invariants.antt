-- The lines of the flows so far are put.
use lib.ListN.{take}
use Rattle.print.specs.Puts.{Puts}
use Rattle.sheet_text.specs.Sheet.{flow_lines}
use Rattle.sheet_text.proofs.flow_lines.Given as goal

abbrev pub invariant-loop-flow : goal.invariant-loop-flow
invariant-loop-flow l = Puts (flow_lines 0 (take l.flow l.sent-items)) l.initial.page l.page
