-- The flow of the turn, or the first cell of the line.
use mathlib.Core.Path.{◌∙◌}
use Rattle.turns.proofs.BeginLaws.{whose_turn_is, whose_head}
use Rattle.steps.specs.Premises.{in_place}
use Rattle.turns.proofs.whose.Goals as goal

pub returns-in-Turn : goal.returns-in-Turn
returns-in-Turn c =
    λ line ready head. whose_turn_is (in_place line c.args.r) c.in-Turn.f c.in-Turn.field-1 c.in-Turn.field-2 c.in-Turn.is

pub returns-in-NoTurn : goal.returns-in-NoTurn
returns-in-NoTurn c = λ line ready head. head ∙ whose_head (in_place line c.args.r) ready.form c.in-NoTurn.is
