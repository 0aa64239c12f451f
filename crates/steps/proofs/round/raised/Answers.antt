-- By whether the excess is 0 or more.
use native.Mathlib.Omega.{arith}
use Rattle.steps.proofs.RoundLaws.{raised_by, not_raised}
use Rattle.steps.proofs.round.raised.Goals as goal

pub returns-then-allowed-sent : goal.returns-then-allowed-sent
returns-then-allowed-sent c =
    let if1 = c.if-allowed-sent in
    raised_by c.args.running c.args.weight c.args.allowed c.args.sent c.raised_to.result if1.true
    c.raised_to.ensures

pub returns-else-allowed-sent : goal.returns-else-allowed-sent
returns-else-allowed-sent c =
    not_raised c.args.running c.args.weight c.args.allowed c.args.sent (λ e. omega (arith, c.if-allowed-sent.false))
