-- The text of an event: what a line of the replay looks like, with no word of how it is read.
use Rattle.std.specs.Prelude.{ℕ, zero, suc, ◌+◌, ◌/◌, ◌%◌, ◌≤◌, true, false, List, [], ◌∷◌, ◌++◌, ◌≡◌, ltb, length, drop, Option, Some, None}
use Prim.Native.Char.{code}
use Prim.Native.String.{String}
use Rattle.lines.specs.Text.{bytes}
use Rattle.lines.specs.declared.Event.{Event}
use Rattle.lines.specs.declared.Event.TheVariants.{Flow, Arrive, Send}

-- the byte of a digit
abbrev pub digit_byte : ℕ → ℕ
digit_byte digit = code "0" + digit

-- the last digits of a number, at most so many, and no leading zero
unfoldable pub last_digits : ℕ → ℕ → List ℕ
last_digits zero n = []
last_digits (suc most) n = elim (ltb n 10) [ true ↦ digit_byte n ∷ [] | false ↦ last_digits most (n / 10) ++ (digit_byte (n % 10) ∷ []) ]

-- a number in decimal: n has at most n + 1 digits
unfoldable pub decimal : ℕ → List ℕ
decimal n = last_digits (suc n) n

-- a word and a number
abbrev pub field : String → ℕ → List ℕ
field word n = bytes word ++ decimal n

unfoldable pub event_text : Event → List ℕ
event_text (Flow flow weight) = field "flow=" flow ++ field " weight=" weight
event_text (Arrive flow size) = field "arrive=" flow ++ field " size=" size
event_text (Send count) = field "send=" count

-- an event's line
unfoldable pub written : Event → List ℕ
written event = event_text event ++ bytes "\n"

-- Numbers are 0 to 65,535.
abbrev pub largest : ℕ
largest = 65_535

-- an event that a line can say
abbrev pub Sayable : Event → Type 0
Sayable (Flow flow weight) = (flow ≤ largest) × (weight ≤ largest)
Sayable (Arrive flow size) = (flow ≤ largest) × (size ≤ largest)
Sayable (Send count) = count ≤ largest

-- a text stands in the input from a place up to another
pub record Spans (s : List ℕ) (at : ℕ) (text : List ℕ) (past : ℕ) : Type 0 where
  pub ends : past ≡ at + length text
  pub found : drop at s ≡ text ++ drop past s

-- What the line at a place is: an event whose line stands there, up to the next place; bad, which is `None`, where no event's does.
abbrev pub LineIs : List ℕ → ℕ → Option (Event × ℕ) → Type 0
LineIs s at (Some (event, next)) = Sayable event × Spans s at (written event) next
LineIs s at None = (event : Event) (next : ℕ) → Sayable event → Spans s at (written event) next → ⊥
