-- The line at a place of the input: `flow=F weight=W`, `arrive=F size=S` or `send=N`, and a line feed.
use Rattle.std.specs.Prelude.{ℕ, ◌+◌, cond, List, [], ◌∷◌, Option, Some, None}
use Rattle.lines.specs.Text.{bytes}
use Rattle.lines.specs.Number.{stands, number_at}
use Rattle.lines.specs.declared.Event.{Event}
use Rattle.lines.specs.declared.Event.TheVariants.{Flow, Arrive, Send}

-- the place just past a word
unfoldable pub past_word : List ℕ → ℕ → List ℕ → Option ℕ
past_word s at [] = Some at
past_word s at (byte ∷ word) = cond (stands s at byte) (past_word s (at + 1) word) None

-- a word and the number right behind it
unfoldable pub field_at : List ℕ → ℕ → List ℕ → Option (ℕ × ℕ)
field_at s at word = elim (past_word s at word) [ Some past ↦ number_at s past | None ↦ None ]

-- two fields, one after the other
unfoldable pub pair_at : List ℕ → ℕ → List ℕ → List ℕ → Option (ℕ × ℕ × ℕ)
pair_at s at first second =
    elim (field_at s at first) [
      | Some (a, between) ↦ elim (field_at s between second) [ Some (b, past) ↦ Some (a, b, past) | None ↦ None ]
      | None ↦ None
    ]

-- one of the three events
unfoldable pub event_at : List ℕ → ℕ → Option (Event × ℕ)
event_at s at =
    elim (pair_at s at (bytes "flow=") (bytes " weight=")) [
      | Some (flow, weight, past) ↦ Some (Flow flow weight, past)
      | None ↦ elim (pair_at s at (bytes "arrive=") (bytes " size=")) [
        | Some (flow, size, past) ↦ Some (Arrive flow size, past)
        | None ↦ elim (field_at s at (bytes "send=")) [ Some (count, past) ↦ Some (Send count, past) | None ↦ None ]
      ]
    ]

-- an event and a line feed
unfoldable pub line_at : List ℕ → ℕ → Option (Event × ℕ)
line_at s at =
    elim (event_at s at) [
      | Some (event, past) ↦ elim (past_word s past (bytes "\n")) [ Some next ↦ Some (event, next) | None ↦ None ]
      | None ↦ None
    ]
