-- The theorems on lines: what `line_at` reads is what `written` writes, and nothing else. They stand at the end:
--     reads_what_is_written     where the input goes on with an event's line, that event is read, up to the line's end
--     text_is_line              the same, where the line is said to stand up to a place
--     nothing_else_is_read      where an event is read, its line stands, up to the place that is given
--     moves_on                  the place that is given is further on, and not past the end
--     line_is, no_other_line    what `line_at` gives is what `LineIs` says of lines as they are written, and nothing else is
use Rattle.std.specs.Prelude.{Option, Some, None}
use Prim.Native.Nat.{ℕ, ◌+◌, ◌<◌, ◌≤◌}
use Prim.Native.Char.{code}
use native.Mathlib.Omega.{arith}
use mathlib.Core.List.{List, [], ◌∷◌, ◌++◌}
use mathlib.Core.Path.{◌≡◌, refl, sym, ap, subst, ◌∙◌}
use lib.Dec.{lit<}
use lib.ListN.{length, drop, length-append, length-drop}
use borrow.Author.Tests.{eqb-false}
use Rattle.lines.specs.Text.{bytes}
use Rattle.lines.specs.Number.{digit_at}
use Rattle.lines.specs.Line.{past_word, field_at, pair_at, event_at, line_at}
use Rattle.lines.specs.Written.{field, event_text, written, Sayable, Spans, LineIs}
use Rattle.lines.specs.declared.Event.{Event}
use Rattle.lines.specs.declared.Event.TheVariants.{Flow, Arrive, Send}
use Rattle.lines.proofs.Steps.{field_without_word, pair_without_first, event_flow, event_arrive, event_send, no_event, line_read, line_without_event, line_without_feed}
use Rattle.lines.proofs.Span.{spans_of_drop, spans_join, spans_first, spans_rest}
use Rattle.lines.proofs.Numbers.{Claims}
use Rattle.lines.proofs.Fields.{text_is_word, WordTo, word_claims, other_text, no_digit_first, text_is_field, field_claims, text_is_pair, PairClaims, pair_claims}

module _ (s : List ℕ) (at : ℕ) where
  -- ---- what stands there is read

  no_pair : (byte other : ℕ) (text word second : List ℕ) {past : ℕ} → Spans s at (byte ∷ text) past → (byte ≡ other → ⊥) → pair_at s at (other ∷ word) second ≡ None
  no_pair byte other text word second p differ =
      pair_without_first s at (other ∷ word) second (field_without_word s at (other ∷ word) (other_text s at byte other text word p differ))

  text_is_event : (event : Event) {past : ℕ} → Sayable event → Spans s at (event_text event) past → digit_at s past ≡ None → event_at s at ≡ Some (event, past)
  unfolding event_text
  text_is_event (Flow flow weight) h p ended =
      event_flow s at (text_is_pair s at (bytes "flow=") (bytes " weight=") flow (code " ") weight (bytes "weight=") refl (lit< tt) h.0 h.1 p ended)
  text_is_event (Arrive flow size) h p ended =
      event_arrive s at (no_pair (code "a") (code "f") _ _ _ p (eqb-false (code "a") (code "f") refl))
      (text_is_pair s at (bytes "arrive=") (bytes " size=") flow (code " ") size (bytes "size=") refl (lit< tt) h.0 h.1 p ended)
  text_is_event (Send count) h p ended =
      event_send s at (no_pair (code "s") (code "f") _ _ _ p (eqb-false (code "s") (code "f") refl)) (no_pair (code "s") (code "a") _ _ _ p (eqb-false (code "s") (code "a") refl))
      (text_is_field s at (bytes "send=") count h p ended)

  pub text_is_line : (event : Event) {next : ℕ} → Sayable event → Spans s at (written event) next → line_at s at ≡ Some (event, next)
  unfolding written
  text_is_line event h p =
      let feed = spans_rest s at (event_text event) (bytes "\n") p in
      line_read s at (text_is_event event h (spans_first s at (event_text event) (bytes "\n") p) (no_digit_first s _ (code "\n") [] (lit< tt) feed)) (text_is_word s _ (bytes "\n") feed)

  -- ---- what is read stands there

  -- what an answer claims: an event that a line can say, whose text stands up to the place that it gives
  abbrev LineClaims : (Event → List ℕ) → Option (Event × ℕ) → Type 0
  LineClaims text (Some (event, past)) = Sayable event × Spans s at (text event) past
  LineClaims text None = Unit {0}

  event_claims : LineClaims event_text (event_at s at)
  unfolding event_text
  event_claims = at_flow (pair_at s at (bytes "flow=") (bytes " weight=")) refl (pair_claims s at (bytes "flow=") (bytes " weight="))
    where
      Claimed : Type 0
      Claimed = LineClaims event_text (event_at s at)

      at_send : pair_at s at (bytes "flow=") (bytes " weight=") ≡ None → pair_at s at (bytes "arrive=") (bytes " size=") ≡ None
          → (k : Option (ℕ × ℕ)) → field_at s at (bytes "send=") ≡ k → Claims s at (field "send=") k → Claimed
      at_send no_flow no-arrival (Some (count, past)) e c = rw (event_send s at no_flow no-arrival e) c
      at_send no_flow no-arrival None e c = rw (no_event s at no_flow no-arrival e) tt

      at_arrive : pair_at s at (bytes "flow=") (bytes " weight=") ≡ None
          → (k : Option (ℕ × ℕ × ℕ)) → pair_at s at (bytes "arrive=") (bytes " size=") ≡ k → PairClaims s at (bytes "arrive=") (bytes " size=") k → Claimed
      at_arrive no_flow (Some (flow, size, past)) e c = rw (event_arrive s at no_flow e) ((c.0, c.1), c.2)
      at_arrive no_flow None e c = at_send no_flow e (field_at s at (bytes "send=")) refl (field_claims s at (bytes "send="))

      at_flow : (k : Option (ℕ × ℕ × ℕ)) → pair_at s at (bytes "flow=") (bytes " weight=") ≡ k → PairClaims s at (bytes "flow=") (bytes " weight=") k → Claimed
      at_flow (Some (flow, weight, past)) e c = rw (event_flow s at e) ((c.0, c.1), c.2)
      at_flow None e c = at_arrive e (pair_at s at (bytes "arrive=") (bytes " size=")) refl (pair_claims s at (bytes "arrive=") (bytes " size="))

  line_claims : LineClaims written (line_at s at)
  unfolding written
  line_claims = by_event (event_at s at) refl event_claims
    where
      by_feed : (event : Event) (past : ℕ) → event_at s at ≡ Some (event, past) → LineClaims event_text (Some (event, past))
          → (k : Option ℕ) → past_word s past (bytes "\n") ≡ k → WordTo s past (bytes "\n") k → LineClaims written (line_at s at)
      by_feed event past e c (Some next) f w = rw (line_read s at e f) (c.0, spans_join s at (event_text event) (bytes "\n") c.1 w)
      by_feed event past e c None f w = rw (line_without_feed s at e f) tt

      by_event : (k : Option (Event × ℕ)) → event_at s at ≡ k → LineClaims event_text k → LineClaims written (line_at s at)
      by_event (Some (event, past)) e c = by_feed event past e c (past_word s past (bytes "\n")) refl (word_claims s past (bytes "\n"))
      by_event None e c = rw (line_without_event s at e) tt

  -- ---- the theorems

  pub reads_what_is_written : (event : Event) (rest : List ℕ) → Sayable event → drop at s ≡ written event ++ rest → line_at s at ≡ Some (event, at + length (written event))
  reads_what_is_written event rest h e = text_is_line event h (spans_of_drop s at (written event) rest e)

  pub nothing_else_is_read : {event : Event} {next : ℕ} → line_at s at ≡ Some (event, next) → Sayable event × Spans s at (written event) next
  nothing_else_is_read e = subst (LineClaims written) e line_claims

  pub moves_on : {event : Event} {next : ℕ} → line_at s at ≡ Some (event, next) → (at < next) × (next ≤ length s)
  unfolding written
  moves_on {event} {next} e =
      let line = nothing_else_is_read e in
      let counted = ap length line.1.found ∙ length-append (written event) (drop next s) in
      omega (arith, line.1.ends, length-append (event_text event) (bytes "\n"), length-drop at s, length-drop next s, counted)

  pub line_is : LineIs s at (line_at s at)
  line_is = by_answer (line_at s at) refl
    where
      by_answer : (k : Option (Event × ℕ)) → line_at s at ≡ k → LineIs s at k
      by_answer (Some (event, next)) e = nothing_else_is_read e
      by_answer None e = λ event next h p. let read = text_is_line event h p in cc

  pub no_other_line : (line : Option (Event × ℕ)) → LineIs s at line → line ≡ line_at s at
  no_other_line (Some (event, next)) p = sym (text_is_line event p.0 p.1)
  no_other_line None none = by_answer (line_at s at) line_is
    where
      by_answer : (k : Option (Event × ℕ)) → LineIs s at k → None ≡ k
      by_answer (Some (event, next)) p = absurd (none event next p.0 p.1)
      by_answer None p = refl
