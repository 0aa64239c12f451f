-- `lines::past_word` meets its contract. The loop's invariant: the whole word from `at` is what is left of the word from `past`.
use mathlib.Core.Path.{◌≡◌}
use lib.ListN.{drop}
use Rattle.lines.specs.Line.{past_word}
use Rattle.lines.proofs.past_word.Given as goal

abbrev pub invariant-loop-byte : goal.invariant-loop-byte
invariant-loop-byte l = past_word l.input l.at l.word ≡ past_word l.input l.past (drop l.byte-index l.word)
