-- The events of an input, line by line.
use Rattle.std.specs.Prelude.{ℕ, zero, suc, true, false, List, length, ltb, Some, None}
use Rattle.lines.specs.Line.{line_at}
use Rattle.lines.specs.declared.Event.{Event}

infixr 60 ◌then◌
-- The events in order, up to the end of the input or to a line that is none of the three.
pub data Script : Type 0 where
  ended : Script
  spoiled : Script
  ◌then◌ : Event → Script → Script

-- the script from a place of the input on, where at most so many lines are read
unfoldable pub script_from : ℕ → List ℕ → ℕ → Script
script_from zero input at = ended
script_from (suc most) input at =
    elim (ltb at (length input)) [
      | true ↦ elim (line_at input at) [ Some (event, next) ↦ event then script_from most input next | None ↦ spoiled ]
      | false ↦ ended
    ]

-- A line has a byte at least, so that no input has more lines than bytes.
unfoldable pub script_of : List ℕ → Script
script_of input = script_from (length input) input 0
