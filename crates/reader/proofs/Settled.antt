-- Each function's contract settles its answer: no second one meets it.
use Rattle.std.specs.Prelude.{Option}
use Prim.Native.Nat.{ℕ}
use mathlib.Core.Bool.{Bool}
use mathlib.Core.List.{List}
use mathlib.Core.Path.{◌≡◌, sym, ap, ◌∙◌}
use denote.Ref.{Bor}
use lib.Dec.{leb}
use lib.ListN.{length}
use Rattle.lines.specs.Line.{line_at}
use Rattle.lines.specs.declared.Event.{Event}
use Rattle.lines.proofs.Settled.{line_at_settled}
use Rattle.reader.specs.Reader.{next_of}
use Rattle.reader.specs.declared.Reader.{Reader}

pub new_settled : {input : Bor (List ℕ)} {a b : Reader} → a ≡ record { input = input; at = 0 } → b ≡ record { input = input; at = 0 } → a ≡ b
new_settled p q = p ∙ sym q

pub moved_settled : (reader : Reader) {at : ℕ} {a b : Reader} → a ≡ record { input = reader.input; at = at } → b ≡ record { input = reader.input; at = at } → a ≡ b
moved_settled reader p q = p ∙ sym q

pub is_at_end_settled : (reader : Reader) {a b : Bool} → a ≡ leb (length reader.input.now) reader.at → b ≡ leb (length reader.input.now) reader.at → a ≡ b
is_at_end_settled reader p q = p ∙ sym q

pub read_settled : (reader : Reader) {a b : Option (Event × ℕ)} → a ≡ line_at reader.input.now reader.at → b ≡ line_at reader.input.now reader.at → a ≡ b
read_settled reader = line_at_settled reader.input.now reader.at

pub next_settled : (reader : Reader) {a b : Option Event} {after after' : Reader} → (a, after) ≡ next_of reader → (b, after') ≡ next_of reader → (a ≡ b) × (after ≡ after')
next_settled reader {a} {b} {after} {after'} p q =
    let same : ◌≡◌ {A = Option Event × Reader} (a, after) (b, after') = p ∙ sym q in
    (ap (λ (r : Option Event × Reader). r.0) same, ap (λ (r : Option Event × Reader). r.1) same)
