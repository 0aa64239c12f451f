-- The bytes so far are put as they are shown.
use mathlib.Core.List.{map}
use lib.ListN.{take}
use Rattle.print.specs.Puts.{Puts}
use Rattle.sheet_text.specs.Sheet.{shown}
use Rattle.sheet_text.proofs.shown_name.Given as goal

abbrev pub invariant-loop-byte : goal.invariant-loop-byte
invariant-loop-byte l = Puts (map shown (take l.byte-index l.name)) l.initial.page l.page
