-- What a reader's `next` says of the line at its place.
--     event_taken     an event is that line's, and the reader has moved past it
--     nothing_taken   without one the line is bad
use Rattle.std.specs.Prelude.{Option, Some, None}
use Prim.Native.Nat.{ℕ}
use mathlib.Core.Path.{◌≡◌, refl, sym, ap, ap₂, ◌∙◌}
use Rattle.lines.specs.Line.{line_at}
use Rattle.lines.specs.declared.Event.{Event}
use Rattle.reader.specs.Reader.{next_of}
use Rattle.reader.specs.declared.Reader.{Reader}

module _ (reader : Reader) {result : Option Event} {after : Reader} (e : ◌≡◌ {A = Option Event × Reader} (result, after) (next_of reader)) where
  -- what `next_of` gives, by what the line is
  abbrev given : Option (Event × ℕ) → Option Event × Reader
  given line = elim line [ Some (event, next) ↦ (Some event, record reader { at = next }) | None ↦ (None, reader) ]

  pub event_taken : {event : Event} → result ≡ Some event → (line_at reader.input.now reader.at ≡ Some (event, after.at)) × (after.input ≡ reader.input)
  event_taken {event} i = by_line (line_at reader.input.now reader.at) refl (ap (λ (r : Option Event × Reader). r.0) e) (ap (λ (r : Option Event × Reader). r.1) e)
    where
      by_line : (k : Option (Event × ℕ)) → line_at reader.input.now reader.at ≡ k → result ≡ (given k).0 → after ≡ (given k).1
          → (line_at reader.input.now reader.at ≡ Some (event, after.at)) × (after.input ≡ reader.input)
      by_line (Some (read, next)) l p q =
          let same : read ≡ event = cc in
          (l ∙ ap₂ (λ (e : Event) (n : ℕ). Some (e, n)) same (sym (ap (λ (r : Reader). r.at) q)), ap (λ (r : Reader). r.input) q)
      by_line None l p q = cc

  pub nothing_taken : result ≡ None → line_at reader.input.now reader.at ≡ None
  nothing_taken i = by_line (line_at reader.input.now reader.at) refl (ap (λ (r : Option Event × Reader). r.0) e)
    where
      by_line : (k : Option (Event × ℕ)) → line_at reader.input.now reader.at ≡ k → result ≡ (given k).0 → line_at reader.input.now reader.at ≡ None
      by_line (Some (read, next)) l p = cc
      by_line None l p = l
