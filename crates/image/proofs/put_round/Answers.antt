-- Each number is stored where it lies, and then the turn.
use Rattle.std.proofs.Common.{rules}
use Rattle.image.proofs.RoundBytes.{turn_bytes_are, no_turn_bytes_are, round_stored}
use Rattle.image.proofs.put_round.Goals as goal

pub returns-in-Turn : goal.returns-in-Turn
returns-in-Turn c =
    round_stored c.args.image.now c.args.r (search rules) c.put_pair.ensures
    c.put_pair-2.ensures
    c.put_turn.ensures
    (turn_bytes_are c.in-Turn.f c.in-Turn.allowed c.in-Turn.sent c.in-Turn.is)

pub returns-in-NoTurn : goal.returns-in-NoTurn
returns-in-NoTurn c =
    round_stored c.args.image.now c.args.r (search rules) c.put_pair.ensures
    c.put_pair-2.ensures
    c.put_turn-in-NoTurn.ensures
    (no_turn_bytes_are c.in-NoTurn.is)
