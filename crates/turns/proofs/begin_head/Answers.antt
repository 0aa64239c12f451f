-- The round is started where due, and the head leaves the line.
use mathlib.Core.Path.{refl}
use lib.ListN.{get_or}
use native.Mathlib.Omega.{arith}
use Rattle.turns.proofs.BeginLaws.{may_open_turn, may_allow, head_begun_law}
use Rattle.steps.proofs.Encoded.{line_length}
use Rattle.steps.specs.Premises.{in_place}
use Rattle.turns.proofs.begin_head.Goals as goal

pub bounds-line-0 : goal.bounds-line-0
bounds-line-0 c = omega (arith, line_length c.requires.round_ready)

pub allowance-allowed-requires : goal.allowance-allowed-requires
allowance-allowed-requires c =
    may_allow (in_place c.args.line.now c.args.r.now) c.args.x c.requires (in_place c.args.line.now c.start.new.self)
    (c.start.ensures c.args.line.now c.requires.round_ready)

pub open_turn-requires-clause-round_ready : goal.open_turn-requires-clause-round_ready
open_turn-requires-clause-round_ready c =
    (may_open_turn (in_place c.args.line.now c.args.r.now) c.args.x c.requires (in_place c.args.line.now c.start.new.self)
    (c.start.ensures c.args.line.now c.requires.round_ready)).0

pub open_turn-requires-clause-some_in_line : goal.open_turn-requires-clause-some_in_line
open_turn-requires-clause-some_in_line c =
    (may_open_turn (in_place c.args.line.now c.args.r.now) c.args.x c.requires (in_place c.args.line.now c.start.new.self)
    (c.start.ensures c.args.line.now c.requires.round_ready)).1

pub returns : goal.returns
returns c =
    head_begun_law (in_place c.args.line.now c.args.r.now) c.args.x c.requires (in_place c.args.line.now c.start.new.self)
    (c.start.ensures c.args.line.now c.requires.round_ready) c.allowance-allowed.result c.allowance-allowed.ensures
    (in_place c.open_turn.new.line c.open_turn.new.self) (get_or c.args.line.now 0 0) c.open_turn.ensures refl
