-- Each way out has the first check that applies.
use Rattle.steps.specs.Cells.{view_flow}
use borrow.Author.Tests.{lt-leb, le-ltb, eq-eqb, ne_eqb}
use Rattle.steps.proofs.ask.open_answer.Goals as goal

pub returns : goal.returns
unfolding view_flow
returns c =
    let if1 = c.if-f-ge-FLOW_LIMIT in
    let if2 = c.if-weight-eq0 in
    let if3 = c.if-weight-gt-WEIGHT_LIMIT in
    simp (lt-leb _ _ if1.false, ne_eqb _ _ if2.false, le-ltb _ _ if3.false, eq-eqb _ _ c.if-x-ne0.false)

pub returns-then-x-ne0 : goal.returns-then-x-ne0
unfolding view_flow
returns-then-x-ne0 c =
    let if1 = c.if-f-ge-FLOW_LIMIT in
    let if2 = c.if-weight-eq0 in
    let if3 = c.if-weight-gt-WEIGHT_LIMIT in
    simp (lt-leb _ _ if1.false, ne_eqb _ _ if2.false, le-ltb _ _ if3.false, ne_eqb _ _ c.if-x-ne0.true)
