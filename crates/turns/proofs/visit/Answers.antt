-- The turn that is then open is served; where none is, the call is idle.
use mathlib.Core.Path.{refl}
use Rattle.turns.proofs.BeginLaws.{begun_serves, begun_served, begun_idle}
use Rattle.steps.specs.Premises.{in_place}
use Rattle.turns.proofs.visit.Goals as goal

pub serve-requires : goal.serve-requires
serve-requires c =
    (begun_serves (in_place c.args.line.now c.args.r.now) c.args.x.now c.requires c.clear.new.self c.clear.ensures
    (in_place c.begin.new.line c.begin.new.r) c.begin.ensures c.in-Turn.f c.in-Turn.allowed c.in-Turn.sent c.in-Turn.is
    ).may

pub returns-in-Turn : goal.returns-in-Turn
returns-in-Turn c =
    begun_served (in_place c.args.line.now c.args.r.now) c.args.x.now c.requires c.clear.new.self c.clear.ensures
    (in_place c.begin.new.line c.begin.new.r) c.begin.ensures c.in-Turn.f c.in-Turn.allowed c.in-Turn.sent c.in-Turn.is
    c.serve.ensures

pub returns-in-NoTurn : goal.returns-in-NoTurn
returns-in-NoTurn c =
    begun_idle (in_place c.args.line.now c.args.r.now) c.args.x.now c.requires _ refl
    (in_place c.begin.new.line c.begin.new.r) c.begin.ensures c.in-NoTurn.is
