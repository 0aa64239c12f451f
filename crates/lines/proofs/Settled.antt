-- The contract of `line_at` settles its answer: no second one meets it.
use Prim.Native.Nat.{ℕ}
use Rattle.std.specs.Prelude.{Option}
use mathlib.Core.List.{List}
use mathlib.Core.Path.{◌≡◌, sym, ◌∙◌}
use Rattle.lines.specs.Line.{line_at}
use Rattle.lines.specs.declared.Event.{Event}

pub line_at_settled : (input : List ℕ) (at : ℕ) {a b : Option (Event × ℕ)} → a ≡ line_at input at → b ≡ line_at input at → a ≡ b
line_at_settled input at p q = p ∙ sym q
