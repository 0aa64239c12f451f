-- One law for each case of the turn.
use native.Mathlib.Omega.{arith}
use Rattle.turns.proofs.BeginLaws.{open_begun_law, nobody_begun_law, somebody_begun_law}
use Rattle.steps.specs.Premises.{in_place}
use Rattle.turns.proofs.begin.Goals as goal

pub returns-in-Turn : goal.returns-in-Turn
returns-in-Turn c =
    open_begun_law (in_place c.args.line.now c.args.r.now) c.args.x c.requires c.in-Turn.field-0 c.in-Turn.field-1 c.in-Turn.field-2 c.in-Turn.is

pub returns-then-r-ne0 : goal.returns-then-r-ne0
returns-then-r-ne0 c =
    somebody_begun_law (in_place c.args.line.now c.args.r.now) c.args.x c.requires c.in-NoTurn.is c.begin_head.ensures

pub returns-else-r-ne0 : goal.returns-else-r-ne0
returns-else-r-ne0 c =
    nobody_begun_law (in_place c.args.line.now c.args.r.now) c.args.x c.requires c.in-NoTurn.is (omega (arith, c.if-r-ne0.false))
