-- What a state holds, as contracts see it: the bytes of its flows and its line, and its round.
use Rattle.std.specs.Prelude.{ℕ, List}
use Rattle.steps.specs.declared.RoundCell.{RoundCell}

pub record State : Type 0 where
  pub cells : List ℕ
  pub round : RoundCell
