-- The flows behind the head move down.
use Rattle.steps.proofs.Encoded.{line_length}
use Rattle.steps.proofs.RoundLaws.{turn_opened_law}
use Rattle.steps.specs.Premises.{in_place}
use Rattle.steps.proofs.RoundCell.open_turn.Goals as goal

pub shift-requires : goal.shift-requires
shift-requires c = line_length c.requires.round_ready

pub returns : goal.returns
returns c =
    turn_opened_law (in_place c.args.line.now c.args.self.now) c.requires.round_ready c.args.f c.args.allowed c.shift.new.cells
    c.requires.some_in_line c.shift.ensures
