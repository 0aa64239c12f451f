-- A number is read where its decimal stands with no digit behind it, and nothing else is read as a number.
use Rattle.std.specs.Prelude.{Option, Some, None}
use Prim.Native.Nat.{ℕ, zero, suc, ◌+◌, ◌-◌, ◌*◌, ◌<◌, ◌≤◌}
use Prim.Native.Char.{code}
use native.Mathlib.Nat.{zero-add}
use native.Mathlib.Numerals.{one-add}
use native.Mathlib.Omega.{arith}
use mathlib.Core.Bool.{Bool, true, false, cond, ◌&&◌, and-eq-true_iff, true≢false}
use mathlib.Core.List.{List, [], ◌∷◌, ◌++◌, append_assoc, append-nil}
use mathlib.Core.Path.{◌≡◌, refl, sym, ap, subst, ◌∙◌}
use lib.ListN.{length, get_or, length-append}
use lib.Dec.{ltb, leb, eqb}
use borrow.Author.Tests.{lt-ltb, le-leb, ltb-true, leb-true, ne_eqb, le-ltb, ltb-false, eqb-false}
use Rattle.lines.specs.Number.{most_digits, stands, digit_at, digits_from, number_at}
use Rattle.lines.specs.Written.{largest, digit_byte, decimal, Spans}
use Rattle.lines.specs.declared.Digits.{Digits}
use Rattle.std.proofs.lemmas.Option.{some_pair_parts}
use Rattle.lines.proofs.Steps.{digits_go_on, digits_end, no_digit_left, number_zero, number_of_digits}
use Rattle.lines.proofs.Span.{spans_nothing, spans_join, spans_first, spans_rest, spans_byte, first_within, first_byte, first_stands, other_byte_not, stands_spans}
use Rattle.lines.proofs.Decimal.{decimal_of_digit, decimal_and_digit, by_digits, decimal_length, decimal_begins}

-- how many digits a number has behind its first, at most
abbrev digits_behind : ℕ
digits_behind = most_digits - 1

-- ---- what stands there is read

digit_read : (s : List ℕ) (at d : ℕ) {past : ℕ} → d < 10 → Spans s at (digit_byte d ∷ []) past → digit_at s at ≡ Some (d, past)
unfolding digit_at
digit_read s at d {past} h p =
    let e : get_or s at 0 ≡ digit_byte d = first_byte s at (digit_byte d) [] p in
    let same : digit_byte d - code "0" ≡ d = omega arith in
    rw (lt-ltb _ _ (first_within s at (digit_byte d) [] p), e, le-leb (code "0") (digit_byte d) (omega arith), le-leb (digit_byte d) (code "9") (omega arith), same, ← p.ends)

first_digit : (s : List ℕ) (at left : ℕ) {d next : ℕ} → digit_at s at ≡ Some (d, next) → digits_from (suc left) 0 s at ≡ digits_from left d s next
first_digit s at left {d} {next} e = digits_go_on s at left 0 refl e ∙ ap (λ (v : ℕ). digits_from left v s next) (zero-add d)

-- reading a decimal says its number, and goes on with the digits that are left
decimal_read : (s : List ℕ) (at n left : ℕ) {past : ℕ} → Spans s at (decimal n) past → digits_from (length (decimal n) + left) 0 s at ≡ digits_from left n s past
decimal_read s at n left {past} = by_digits Reads digit further n left past
  where
    Reads : ℕ → Type 0
    Reads n = (left past : ℕ) → Spans s at (decimal n) past → digits_from (length (decimal n) + left) 0 s at ≡ digits_from left n s past

    digit : (d : ℕ) → d < 10 → Reads d
    digit d h left past p =
        let q : Spans s at (digit_byte d ∷ []) past = rw (decimal_of_digit d h) at p in
        rw (decimal_of_digit d h, one-add left) (first_digit s at left (digit_read s at d h q))

    further : (n d : ℕ) → 0 < n → d < 10 → Reads n → Reads (n * 10 + d)
    further n d z h so_far left past p =
        let q : Spans s at (decimal n ++ (digit_byte d ∷ [])) past = rw (decimal_and_digit n d z h) at p in
        let between : ℕ = at + length (decimal n) in
        let counted : length (decimal n ++ (digit_byte d ∷ [])) + left ≡ length (decimal n) + suc left = omega (arith, length-append (decimal n) (digit_byte d ∷ [])) in
        rw (decimal_and_digit n d z h, counted) (so_far (suc left) between (spans_first s at (decimal n) _ q) ∙ digits_go_on s between left n refl (digit_read s between d h (spans_rest s at (decimal n) _ q)))

pub number_read : (s : List ℕ) (at n : ℕ) {past : ℕ} → n ≤ largest → Spans s at (decimal n) past → digit_at s past ≡ None → number_at s at ≡ Some (n, past)
number_read s at zero {past} h p e =
    let q : Spans s at (digit_byte 0 ∷ []) past = rw (decimal_of_digit 0 (omega arith)) at p in
    rw q.ends (number_zero s at (first_stands s at (digit_byte 0) [] q))
number_read s at (suc m) {past} h p e =
    let n : ℕ = suc m in
    let b = decimal_begins n in
    let q : Spans s at (b.0 ∷ b.1) past = rw b.2 at p in
    let left : ℕ = most_digits - length (decimal n) in
    let counted : most_digits ≡ length (decimal n) + left = omega (arith, decimal_length n digits_behind (omega arith)) in
    let digits : digits_from most_digits 0 s at ≡ record { value = n; past = past } = rw counted (decimal_read s at n left p ∙ digits_end s past left n e) in
    let moved : (past ≡ at) → ⊥ = omega (arith, q.ends) in
    number_of_digits s at (other_byte_not s at b.0 b.1 q (code "0") (b.3 (omega arith))) (sym digits) ∙ simp (ne_eqb past at moved, le-ltb largest n h)

-- ---- what is read stands there

pub digit_is_byte : (s : List ℕ) (at : ℕ) {d past : ℕ} → digit_at s at ≡ Some (d, past) → (d < 10) × Spans s at (digit_byte d ∷ []) past
unfolding digit_at
digit_is_byte s at {d} {past} e = by_tests (within && low && high) refl e
  where
    byte : ℕ
    byte = get_or s at 0

    within : Bool
    within = ltb at (length s)

    low : Bool
    low = leb (code "0") byte

    high : Bool
    high = leb byte (code "9")

    by_tests : (t : Bool) → (within && low && high) ≡ t → cond {A = Option (ℕ × ℕ)} t (Some (byte - code "0", at + 1)) None ≡ Some (d, past) → (d < 10) × Spans s at (digit_byte d ∷ []) past
    by_tests false t e = absurd (let z : ◌≡◌ {A = ℕ} 0 1 = cc in omega arith)
    by_tests true t e =
        let last = (and-eq-true_iff (within && low) high).0 t in
        let first = (and-eq-true_iff within low).0 last.0 in
        let least : code "0" ≤ byte = leb-true (code "0") byte first.1 in
        let most : byte ≤ code "9" = leb-true byte (code "9") last.1 in
        let parts = some_pair_parts (byte - code "0") d (at + 1) past e in
        let digit = parts.0 in
        let next = parts.1 in
        (omega arith, subst (Spans s at (digit_byte d ∷ [])) next (spans_byte s at (ltb-true at (length s) first.0) (omega arith)))

-- digits behind those of `value` say a number whose decimal is that of `value` with their text behind it
abbrev Continues : List ℕ → ℕ → ℕ → Digits → Type 0
Continues s value at digits = (text : List ℕ) × (decimal digits.value ≡ decimal value ++ text) × Spans s at text digits.past

digits_continue : (s : List ℕ) (left value at : ℕ) → 0 < value → Continues s value at (digits_from left value s at)
digits_continue s zero value at h = subst (Continues s value at) (sym (no_digit_left s at zero value (omega arith))) ([], sym (append-nil (decimal value)), spans_nothing s at)
digits_continue s (suc left) value at h = by_answer (digit_at s at) refl (digits_continue s left)
  where
    by_answer : (k : Option (ℕ × ℕ)) → digit_at s at ≡ k → ((v a : ℕ) → 0 < v → Continues s v a (digits_from left v s a)) → Continues s value at (digits_from (suc left) value s at)
    by_answer None e again = subst (Continues s value at) (sym (digits_end s at (suc left) value e)) ([], sym (append-nil (decimal value)), spans_nothing s at)
    by_answer (Some (d, next)) e again =
        let read = digit_is_byte s at e in
        let w = again (value * 10 + d) next (omega arith) in
        subst (Continues s value at) (sym (digits_go_on s at left value refl e))
        (digit_byte d ∷ w.0, w.1 ∙ ap (λ (l : List ℕ). l ++ w.0) (decimal_and_digit value d h read.0) ∙ append_assoc (decimal value) (digit_byte d ∷ []) w.0, spans_join s at (digit_byte d ∷ []) w.0 read.1 w.2)

not_zero_digit : (s : List ℕ) (at d : ℕ) {next : ℕ} → stands s at (code "0") ≡ false → Spans s at (digit_byte d ∷ []) next → 0 < d
not_zero_digit s at zero z p = absurd (true≢false (sym (first_stands s at (digit_byte 0) [] p) ∙ z))
not_zero_digit s at (suc d) z p = omega arith

digits_are_decimal : (s : List ℕ) (at left : ℕ) → stands s at (code "0") ≡ false → (((digits_from (suc left) 0 s at).past ≡ at) → ⊥)
    → Spans s at (decimal (digits_from (suc left) 0 s at).value) (digits_from (suc left) 0 s at).past
digits_are_decimal s at left no_zero moved = by_answer (digit_at s at) refl
  where
    by_answer : (k : Option (ℕ × ℕ)) → digit_at s at ≡ k → Spans s at (decimal (digits_from (suc left) 0 s at).value) (digits_from (suc left) 0 s at).past
    by_answer None e = absurd (moved (ap (λ (r : Digits). r.past) (digits_end s at (suc left) 0 e)))
    by_answer (Some (d, next)) e =
        let read = digit_is_byte s at e in
        let w = digits_continue s left d next (not_zero_digit s at d no_zero read.1) in
        subst (λ (r : Digits). Spans s at (decimal r.value) r.past) (sym (first_digit s at left e))
        (rw (w.1, decimal_of_digit d read.0) (spans_join s at (digit_byte d ∷ []) w.0 read.1 w.2))

-- what an answer claims: a number that is not too large, whose text stands up to the place that it gives
abbrev pub Claims : List ℕ → ℕ → (ℕ → List ℕ) → Option (ℕ × ℕ) → Type 0
Claims s at text (Some (n, past)) = (n ≤ largest) × Spans s at (text n) past
Claims s at text None = Unit {0}

pub number_claims : (s : List ℕ) (at : ℕ) → Claims s at decimal (number_at s at)
number_claims s at = begins (stands s at (code "0")) refl
  where
    digits : Digits
    digits = digits_from most_digits 0 s at

    within : stands s at (code "0") ≡ false → (none large : Bool) → eqb digits.past at ≡ none → ltb largest digits.value ≡ large
        → Claims s at decimal (cond {A = Option (ℕ × ℕ)} none None (cond large None (Some (digits.value, digits.past))))
    within z true large t u = tt
    within z false true t u = tt
    within z false false t u = (ltb-false largest digits.value u, digits_are_decimal s at digits_behind z (eqb-false digits.past at t))

    begins : (zero-first : Bool) → stands s at (code "0") ≡ zero-first → Claims s at decimal (number_at s at)
    begins true z = subst (Claims s at decimal) (sym (number_zero s at z)) (omega arith, rw (decimal_of_digit 0 (omega arith)) (stands_spans s at (code "0") z))
    begins false z = subst (Claims s at decimal) (sym (number_of_digits s at z refl)) (within z (eqb digits.past at) (ltb largest digits.value) refl refl)
