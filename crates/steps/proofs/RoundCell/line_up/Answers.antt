-- A flow with no packet waiting goes behind the last of the line.
use Rattle.steps.proofs.Encoded.{line_length}
use Rattle.steps.proofs.RoundLaws.{lined_law, in_place_law}
use Rattle.steps.specs.Premises.{in_place}
use native.Mathlib.Omega.{arith}
use Rattle.steps.proofs.RoundCell.line_up.Goals as goal

pub bounds-line-self : goal.bounds-line-self
bounds-line-self c = omega (arith, c.requires.round_ready.line_fits, line_length c.requires.round_ready)

pub returns-then-was-eq0 : goal.returns-then-was-eq0
returns-then-was-eq0 c =
    let none = c.if-was-eq0.true in
    lined_law (in_place c.args.line.now c.args.self.now) c.requires.round_ready c.args.was c.requires.flow_ready c.args.f none
    (c.requires.line_has_room none)

pub returns-else-was-eq0 : goal.returns-else-was-eq0
returns-else-was-eq0 c =
    in_place_law (in_place c.args.line.now c.args.self.now) c.requires.round_ready c.args.was c.requires.flow_ready c.args.f
    c.if-was-eq0.false
