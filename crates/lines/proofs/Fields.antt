-- Words and fields are read where their text stands, and nothing else is read as one.
use Rattle.std.specs.Prelude.{Option, Some, None}
use Prim.Native.Nat.{ℕ, ◌+◌, ◌<◌, ◌≤◌}
use Prim.Native.Char.{code}
use native.Mathlib.Nat.{add-zero}
use mathlib.Core.Bool.{Bool, true, false, cond}
use mathlib.Core.List.{List, [], ◌∷◌, ◌++◌}
use mathlib.Core.Path.{◌≡◌, refl, sym, ap, ◌∙◌}
use lib.ListN.{length}
use borrow.Author.Tests.{lt-ltb, lt-leb}
use Rattle.lines.specs.Number.{stands, digit_at, number_at}
use Rattle.lines.specs.Line.{past_word, field_at, pair_at}
use Rattle.lines.specs.Written.{largest, decimal, Spans}
use Rattle.lines.proofs.Steps.{field_read, field_without_word, pair_read, pair_without_first, pair_without_second}
use Rattle.lines.proofs.Span.{spans_nothing, spans_join, spans_first, spans_rest, first_within, first_byte, first_stands, other_byte_not, stands_spans}
use Rattle.lines.proofs.Numbers.{number_read, Claims, number_claims}

module _ (s : List ℕ) where
  -- ---- words

  word_begun : (at byte : ℕ) (word : List ℕ) → stands s at byte ≡ true → past_word s at (byte ∷ word) ≡ past_word s (at + 1) word
  unfolding past_word
  word_begun at byte word e = rw e

  word_not_begun : (at byte : ℕ) (word : List ℕ) → stands s at byte ≡ false → past_word s at (byte ∷ word) ≡ None
  unfolding past_word
  word_not_begun at byte word e = rw e

  pub text_is_word : (at : ℕ) (word : List ℕ) {past : ℕ} → Spans s at word past → past_word s at word ≡ Some past
  unfolding past_word
  text_is_word at [] p = ap Some (sym (p.ends ∙ add-zero at))
  text_is_word at (byte ∷ word) p = word_begun at byte word (first_stands s at byte word p) ∙ text_is_word (at + 1) word (spans_rest s at (byte ∷ []) word p)

  -- what an answer claims: the word stands up to the place that it gives
  abbrev pub WordTo : ℕ → List ℕ → Option ℕ → Type 0
  WordTo at word (Some past) = Spans s at word past
  WordTo at word None = Unit {0}

  pub word_claims : (at : ℕ) (word : List ℕ) → WordTo at word (past_word s at word)
  unfolding past_word
  word_claims at [] = spans_nothing s at
  word_claims at (byte ∷ word) = begins (stands s at byte) refl (past_word s (at + 1) word) (word_claims (at + 1) word)
    where
      begins : (b : Bool) → stands s at byte ≡ b → (rest : Option ℕ) → WordTo (at + 1) word rest → WordTo at (byte ∷ word) (cond b rest None)
      begins true e (Some past) p = spans_join s at (byte ∷ []) word (stands_spans s at byte e) p
      begins true e None p = tt
      begins false e rest p = tt

  -- a word is not read where another text begins
  pub other_text : (at byte other : ℕ) (text word : List ℕ) {past : ℕ} → Spans s at (byte ∷ text) past → (byte ≡ other → ⊥) → past_word s at (other ∷ word) ≡ None
  other_text at byte other text word p differ = word_not_begun at other word (other_byte_not s at byte text p other differ)

  -- ---- fields

  -- a space and a line feed stand below the digits
  pub no_digit_first : (at byte : ℕ) (text : List ℕ) {past : ℕ} → byte < code "0" → Spans s at (byte ∷ text) past → digit_at s at ≡ None
  unfolding digit_at
  no_digit_first at byte text h p = rw (lt-ltb _ _ (first_within s at byte text p), first_byte s at byte text p, lt-leb (code "0") byte h)

  pub text_is_field : (at : ℕ) (word : List ℕ) (n : ℕ) {past : ℕ} → n ≤ largest → Spans s at (word ++ decimal n) past → digit_at s past ≡ None
      → field_at s at word ≡ Some (n, past)
  text_is_field at word n h p ended =
      field_read s at word (text_is_word at word (spans_first s at word (decimal n) p)) ∙ number_read s (at + length word) n h (spans_rest s at word (decimal n) p) ended

  claims_behind : (at : ℕ) (word : List ℕ) (past : ℕ) → Spans s at word past → (k : Option (ℕ × ℕ)) → Claims s past decimal k → Claims s at (λ n. word ++ decimal n) k
  claims_behind at word past p (Some (n, end)) c = (c.0, spans_join s at word (decimal n) p c.1)
  claims_behind at word past p None c = tt

  pub field_claims : (at : ℕ) (word : List ℕ) → Claims s at (λ n. word ++ decimal n) (field_at s at word)
  field_claims at word = by_answer (past_word s at word) refl (word_claims at word)
    where
      by_answer : (p : Option ℕ) → past_word s at word ≡ p → WordTo at word p → Claims s at (λ n. word ++ decimal n) (field_at s at word)
      by_answer (Some past) e w = rw (field_read s at word e) (claims_behind at word past w (number_at s past) (number_claims s past))
      by_answer None e w = rw (field_without_word s at word e) tt

  module _ (at : ℕ) (first second : List ℕ) where
    pub text_is_pair : (a byte b : ℕ) (behind : List ℕ) {past : ℕ} → second ≡ byte ∷ behind → byte < code "0" → a ≤ largest → b ≤ largest
        → Spans s at ((first ++ decimal a) ++ (second ++ decimal b)) past → digit_at s past ≡ None → pair_at s at first second ≡ Some (a, b, past)
    text_is_pair a byte b behind {past} begins low ha hb p ended =
        let between : ℕ = at + length (first ++ decimal a) in
        let rest : Spans s between (second ++ decimal b) past = spans_rest s at (first ++ decimal a) (second ++ decimal b) p in
        let next : Spans s between (byte ∷ (behind ++ decimal b)) past = rw begins at rest in
        pair_read s at first second
        (text_is_field at first a ha (spans_first s at (first ++ decimal a) _ p) (no_digit_first between byte _ low next))
        (text_is_field between second b hb rest ended)

    abbrev pub PairClaims : Option (ℕ × ℕ × ℕ) → Type 0
    PairClaims (Some (a, b, past)) = (a ≤ largest) × (b ≤ largest) × Spans s at ((first ++ decimal a) ++ (second ++ decimal b)) past
    PairClaims None = Unit {0}

    pub pair_claims : PairClaims (pair_at s at first second)
    pair_claims = by_first (field_at s at first) refl (field_claims at first)
      where
        by_second : (a between : ℕ) → field_at s at first ≡ Some (a, between) → Claims s at (λ n. first ++ decimal n) (Some (a, between))
            → (k : Option (ℕ × ℕ)) → field_at s between second ≡ k → Claims s between (λ n. second ++ decimal n) k → PairClaims (pair_at s at first second)
        by_second a between e c (Some (b, past)) f d = rw (pair_read s at first second e f) (c.0, d.0, spans_join s at (first ++ decimal a) (second ++ decimal b) c.1 d.1)
        by_second a between e c None f d = rw (pair_without_second s at first second e f) tt

        by_first : (k : Option (ℕ × ℕ)) → field_at s at first ≡ k → Claims s at (λ n. first ++ decimal n) k → PairClaims (pair_at s at first second)
        by_first (Some (a, between)) e c = by_second a between e c (field_at s between second) refl (field_claims between second)
        by_first None e c = rw (pair_without_first s at first second e) tt
