-- The bytes so far are put.
use lib.ListN.{take}
use Rattle.print.specs.Puts.{Puts}
use Rattle.print.proofs.Page+u8.word.Given as goal

abbrev pub invariant-loop-byte : goal.invariant-loop-byte
invariant-loop-byte l = Puts (take l.byte-index l.text) l.initial.self l.self
