-- What is left of the flow and what is sent decide how the turn goes on; each way is one law.
use native.Mathlib.Omega.{arith}
use Rattle.turns.proofs.TurnLaws.{left_ready, left_weighs, emptied_visit, closed_visit, open_visit}
use Rattle.steps.specs.Premises.{in_place}
use Rattle.turns.proofs.serve.Goals as goal

pub end_emptied_turn-requires-clause-flow_ready : goal.end_emptied_turn-requires-clause-flow_ready
end_emptied_turn-requires-clause-flow_ready c = left_ready (in_place c.args.line.now c.args.r.now) c.args.x.now c.args.allowed c.args.sent c.requires c.let_first_leave.new.self c.let_first_leave.ensures

pub end_emptied_turn-requires-clause-weighs : goal.end_emptied_turn-requires-clause-weighs
end_emptied_turn-requires-clause-weighs c = left_weighs (in_place c.args.line.now c.args.r.now) c.args.x.now c.args.allowed c.args.sent c.requires c.let_first_leave.new.self c.let_first_leave.ensures

pub clear-requires : goal.clear-requires
clear-requires c = left_ready (in_place c.args.line.now c.args.r.now) c.args.x.now c.args.allowed c.args.sent c.requires c.let_first_leave.new.self c.let_first_leave.ensures

pub close_turn-requires-clause-flow_ready : goal.close_turn-requires-clause-flow_ready
close_turn-requires-clause-flow_ready c = left_ready (in_place c.args.line.now c.args.r.now) c.args.x.now c.args.allowed c.args.sent c.requires c.let_first_leave.new.self c.let_first_leave.ensures

pub close_turn-requires-clause-weighs : goal.close_turn-requires-clause-weighs
close_turn-requires-clause-weighs c = left_weighs (in_place c.args.line.now c.args.r.now) c.args.x.now c.args.allowed c.args.sent c.requires c.let_first_leave.new.self c.let_first_leave.ensures

pub keep_excess-requires-clause-flow_ready : goal.keep_excess-requires-clause-flow_ready
keep_excess-requires-clause-flow_ready c = left_ready (in_place c.args.line.now c.args.r.now) c.args.x.now c.args.allowed c.args.sent c.requires c.let_first_leave.new.self c.let_first_leave.ensures

pub returns-then-x-eq0 : goal.returns-then-x-eq0
returns-then-x-eq0 c =
    emptied_visit (in_place c.args.line.now c.args.r.now) c.args.x.now c.args.allowed c.args.sent c.requires c.let_first_leave.new.self c.let_first_leave.ensures
    c.args.f c.first_size-size.result (c.first_size-size.ensures c.requires.has_first) (in_place c.args.line.now c.end_emptied_turn.new.self) c.clear.new.self c.if-x-eq0.true
    (c.end_emptied_turn.ensures c.args.f c.args.line.now c.requires.round_ready) c.clear.ensures

pub returns-then-allowed-total : goal.returns-then-allowed-total
returns-then-allowed-total c =
    closed_visit (in_place c.args.line.now c.args.r.now) c.args.x.now c.args.allowed c.args.sent c.requires c.let_first_leave.new.self c.let_first_leave.ensures
    c.args.f c.first_size-size.result (c.first_size-size.ensures c.requires.has_first) (in_place c.close_turn.new.line c.close_turn.new.self) c.keep_excess.new.self c.if-x-eq0.false
    (omega (arith, c.if-allowed-total.true)) c.close_turn.ensures c.keep_excess.ensures

pub returns-else-allowed-total : goal.returns-else-allowed-total
returns-else-allowed-total c =
    open_visit (in_place c.args.line.now c.args.r.now) c.args.x.now c.args.allowed c.args.sent c.requires c.let_first_leave.new.self c.let_first_leave.ensures
    c.args.f c.first_size-size.result (c.first_size-size.ensures c.requires.has_first) (in_place c.args.line.now c.keep_turn.new.self) c.if-x-eq0.false (λ e. omega (arith, c.if-allowed-total.false))
    (c.keep_turn.ensures c.args.line.now c.requires.round_ready)
