-- Document 01's worked example: an input, and what the replay prints for it.
use Prim.Native.Nat.{ℕ}
use mathlib.Core.List.{List, ◌++◌}
use Rattle.lines.specs.Text.{bytes}

unfoldable pub worked_input : List ℕ
worked_input =
    bytes "flow=0 weight=1\n"
    ++ bytes "flow=1 weight=2\n"
    ++ bytes "arrive=0 size=100\n"
    ++ bytes "arrive=0 size=50\n"
    ++ bytes "arrive=1 size=30\n"
    ++ bytes "arrive=1 size=200\n"
    ++ bytes "arrive=1 size=10\n"
    ++ bytes "send=6\n"

unfoldable pub worked_lines : List ℕ
worked_lines =
    bytes "sent=1 flow=0 size=100 mark=0 allow=1\n"
    ++ bytes "sent=2 flow=1 size=30 mark=0 allow=2\n"
    ++ bytes "sent=3 flow=0 size=50 mark=99 allow=1\n"
    ++ bytes "sent=4 flow=1 size=200 mark=99 allow=172\n"
    ++ bytes "sent=5 flow=1 size=10 mark=49 allow=72\n"
    ++ bytes "idle=5\n"
