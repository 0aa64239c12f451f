-- Each way out has the first check that applies.
use Rattle.steps.specs.Cells.{view_flow}
use borrow.Author.Tests.{le-leb, lt-leb, lt-ltb, le-ltb, eq-eqb, ne_eqb}
use Rattle.steps.proofs.Encoded.{waiting_is}
use Rattle.steps.proofs.ask.offer_answer.Goals as goal
use Rattle.steps.proofs.ask.offer_answer.Goals.{then-size-eq0-via-then-size-eq0, then-size-eq0-via-else-size-eq0+then-size-gt-SIZE_LIMIT}

pub returns-then-x-eq0 : goal.returns-then-x-eq0
unfolding view_flow
returns-then-x-eq0 c = simp (lt-leb _ _ c.if-f-ge-FLOW_LIMIT.false, eq-eqb _ _ c.if-x-eq0.true)

pub returns-then-size-eq0 : goal.returns-then-size-eq0
unfolding view_flow
returns-then-size-eq0 c =
    elim c.then-size-eq0.branch [
      | then-size-eq0-via-then-size-eq0 w ↦
          simp (lt-leb _ _ c.if-f-ge-FLOW_LIMIT.false, ne_eqb _ _ c.if-x-eq0.false, eq-eqb _ _ w.if-size-eq0.true)
      | then-size-eq0-via-else-size-eq0+then-size-gt-SIZE_LIMIT w ↦
          simp (lt-leb _ _ c.if-f-ge-FLOW_LIMIT.false, ne_eqb _ _ c.if-x-eq0.false, ne_eqb _ _ w.if-size-eq0.false, lt-ltb _ _ w.if-size-gt-SIZE_LIMIT.true)
    ]

pub returns-then-x-ge-QUEUE_LIMIT : goal.returns-then-x-ge-QUEUE_LIMIT
unfolding view_flow
returns-then-x-ge-QUEUE_LIMIT c =
    let if1 = c.if-f-ge-FLOW_LIMIT in
    let if2 = c.if-x-eq0 in
    let if3 = c.if-size-eq0 in
    let if4 = c.if-size-gt-SIZE_LIMIT in
    simp
    (lt-leb _ _ if1.false, ne_eqb _ _ if2.false, ne_eqb _ _ if3.false, le-ltb _ _ if4.false, ← waiting_is c.args.x c.requires.form, le-leb _ _ c.if-x-ge-QUEUE_LIMIT.true)

pub returns : goal.returns
unfolding view_flow
returns c =
    let if1 = c.if-f-ge-FLOW_LIMIT in
    let if2 = c.if-x-eq0 in
    let if3 = c.if-size-eq0 in
    let if4 = c.if-size-gt-SIZE_LIMIT in
    simp
    (lt-leb _ _ if1.false, ne_eqb _ _ if2.false, ne_eqb _ _ if3.false, le-ltb _ _ if4.false, ← waiting_is c.args.x c.requires.form, lt-leb _ _ c.if-x-ge-QUEUE_LIMIT.false)
