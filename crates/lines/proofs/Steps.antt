-- What each definition of specs/ answers, by what its parts answer.
use Rattle.std.specs.Prelude.{Some, None}
use Prim.Native.Nat.{ℕ, zero, suc, ◌+◌, ◌*◌, ◌^◌, ◌<◌, ◌≤◌}
use Prim.Native.Char.{code}
use native.Mathlib.Nat.{pow-le-pow_right, lt_of_lt_of_le}
use native.Mathlib.Omega.{arith}
use mathlib.Core.Bool.{true, false}
use mathlib.Core.List.{List}
use mathlib.Core.Path.{◌≡◌, refl, sym, ◌∙◌}
use lib.Dec.{lit<}
use Rattle.lines.specs.Text.{bytes}
use Rattle.lines.specs.Number.{most_digits, stands, digit_at, digits_from, bounded, number_at}
use Rattle.lines.specs.Line.{past_word, field_at, pair_at, event_at, line_at}
use Rattle.lines.specs.declared.Event.{Event}
use Rattle.lines.specs.declared.Event.TheVariants.{Flow, Arrive, Send}
use Rattle.lines.specs.declared.Digits.{Digits}

-- of a call's answer, what its contract says and what a match found
pub alike : {A : Type 0} {answer a b : A} → answer ≡ a → answer ≡ b → a ≡ b
alike p q = sym p ∙ q

-- ---- digits, and a number

module _ (s : List ℕ) (at : ℕ) where
  pub digits_go_on : {more : ℕ} (left value : ℕ) {digit next : ℕ} → more ≡ suc left → digit_at s at ≡ Some (digit, next)
      → digits_from more value s at ≡ digits_from left (value * 10 + digit) s next
  unfolding digits_from
  digits_go_on left value m e = rw (m, digits_from, e)

  pub digits_end : (left value : ℕ) → digit_at s at ≡ None → digits_from left value s at ≡ record { value = value; past = at }
  unfolding digits_from
  digits_end zero value e = refl
  digits_end (suc left) value e = rw (digits_from, e)

  pub no_digit_left : (left value : ℕ) → left ≤ 0 → digits_from left value s at ≡ record { value = value; past = at }
  unfolding digits_from
  no_digit_left zero value h = refl
  no_digit_left (suc left) value h = absurd (omega arith)

-- what was read has as many digits as were read, so that it stays small
pub value_small : (read : ℕ) {value : ℕ} → read ≤ most_digits → value < 10 ^ read → value < 10 ^ most_digits
value_small read h v = lt_of_lt_of_le v (pow-le-pow_right (lit< tt) h)

module _ (s : List ℕ) (at : ℕ) where
  pub number_zero : stands s at (code "0") ≡ true → number_at s at ≡ Some (0, at + 1)
  unfolding number_at
  number_zero e = rw (number_at, e)

  pub number_of_digits : {digits : Digits} → stands s at (code "0") ≡ false → digits ≡ digits_from most_digits 0 s at → number_at s at ≡ bounded digits at
  unfolding number_at
  number_of_digits e r = rw (number_at, e, r)

-- ---- fields, events, lines

module _ (s : List ℕ) (at : ℕ) where
  pub field_read : (word : List ℕ) {past : ℕ} → past_word s at word ≡ Some past → field_at s at word ≡ number_at s past
  unfolding field_at
  field_read word e = rw (field_at, e)

  pub field_without_word : (word : List ℕ) → past_word s at word ≡ None → field_at s at word ≡ None
  unfolding field_at
  field_without_word word e = rw (field_at, e)

  pub pair_read : (first second : List ℕ) {a between b past : ℕ} → field_at s at first ≡ Some (a, between) → field_at s between second ≡ Some (b, past)
      → pair_at s at first second ≡ Some (a, b, past)
  unfolding pair_at
  pair_read first second e f = rw (pair_at, e, f)

  pub pair_without_first : (first second : List ℕ) → field_at s at first ≡ None → pair_at s at first second ≡ None
  unfolding pair_at
  pair_without_first first second e = rw (pair_at, e)

  pub pair_without_second : (first second : List ℕ) {a between : ℕ} → field_at s at first ≡ Some (a, between) → field_at s between second ≡ None
      → pair_at s at first second ≡ None
  unfolding pair_at
  pair_without_second first second e f = rw (pair_at, e, f)

  pub event_flow : {flow weight past : ℕ} → pair_at s at (bytes "flow=") (bytes " weight=") ≡ Some (flow, weight, past) → event_at s at ≡ Some (Flow flow weight, past)
  unfolding event_at
  event_flow e = rw (event_at, e)

  module _ (no_flow : pair_at s at (bytes "flow=") (bytes " weight=") ≡ None) where
    pub event_arrive : {flow size past : ℕ} → pair_at s at (bytes "arrive=") (bytes " size=") ≡ Some (flow, size, past) → event_at s at ≡ Some (Arrive flow size, past)
    unfolding event_at
    event_arrive e = rw (event_at, no_flow, e)

    module _ (no-arrival : pair_at s at (bytes "arrive=") (bytes " size=") ≡ None) where
      pub event_send : {count past : ℕ} → field_at s at (bytes "send=") ≡ Some (count, past) → event_at s at ≡ Some (Send count, past)
      unfolding event_at
      event_send e = rw (event_at, no_flow, no-arrival, e)

      pub no_event : field_at s at (bytes "send=") ≡ None → event_at s at ≡ None
      unfolding event_at
      no_event e = rw (event_at, no_flow, no-arrival, e)

  pub line_read : {event : Event} {past next : ℕ} → event_at s at ≡ Some (event, past) → past_word s past (bytes "\n") ≡ Some next → line_at s at ≡ Some (event, next)
  unfolding line_at
  line_read e f = rw (line_at, e, f)

  pub line_without_event : event_at s at ≡ None → line_at s at ≡ None
  unfolding line_at
  line_without_event e = rw (line_at, e)

  pub line_without_feed : {event : Event} {past : ℕ} → event_at s at ≡ Some (event, past) → past_word s past (bytes "\n") ≡ None → line_at s at ≡ None
  unfolding line_at
  line_without_feed e f = rw (line_at, e, f)
