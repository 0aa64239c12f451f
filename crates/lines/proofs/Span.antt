-- Laws of `Spans`: a text that stands in the input is made of parts that stand there, one behind the other.
use Prim.Native.Nat.{ℕ, suc, ◌+◌, ◌<◌}
use native.Mathlib.Numerals.{add-one}
use native.Mathlib.Omega.{arith}
use mathlib.Core.Bool.{true, false, and-eq-true_iff}
use mathlib.Core.List.{List, [], ◌∷◌, ◌++◌, append_assoc}
use mathlib.Core.Path.{◌≡◌, refl, sym, ap, ◌∙◌}
use lib.ListN.{length, get_or, drop, length-append, length-drop}
use lib.Dec.{ltb, eqb}
use lib.Seq.{drop-cons, drop-drop, drop-append_seam}
use borrow.Author.Tests.{lt-ltb, ltb-true, eq-eqb, eqb-true, ne_eqb}
use Rattle.lines.specs.Number.{stands}
use Rattle.lines.specs.Written.{Spans}

module _ (s : List ℕ) (at : ℕ) where
  pub spans_nothing : Spans s at [] at
  spans_nothing = record { ends = omega arith; found = refl }

  pub spans_of_drop : (text rest : List ℕ) → drop at s ≡ text ++ rest → Spans s at text (at + length text)
  spans_of_drop text rest e =
      record { ends = refl; found = e ∙ ap (λ (l : List ℕ). text ++ l) (sym (drop-append_seam text rest) ∙ ap (drop (length text)) (sym e) ∙ drop-drop (length text) at s) }

  pub spans_join : (t u : List ℕ) {between past : ℕ} → Spans s at t between → Spans s between u past → Spans s at (t ++ u) past
  spans_join t u p q = record { ends = rw length-append (omega arith); found = p.found ∙ ap (λ (l : List ℕ). t ++ l) q.found ∙ sym (append_assoc t u _) }

  pub spans_first : (t u : List ℕ) {past : ℕ} → Spans s at (t ++ u) past → Spans s at t (at + length t)
  spans_first t u {past} p = spans_of_drop t (u ++ drop past s) (p.found ∙ append_assoc t u _)

  pub spans_rest : (t u : List ℕ) {past : ℕ} → Spans s at (t ++ u) past → Spans s (at + length t) u past
  spans_rest t u {past} p =
      record { ends = omega (arith, p.ends, length-append t u); found = sym (drop-drop (length t) at s) ∙ ap (drop (length t)) (p.found ∙ append_assoc t u _) ∙ drop-append_seam t (u ++ drop past s) }

  pub spans_byte : {byte : ℕ} → at < length s → get_or s at 0 ≡ byte → Spans s at (byte ∷ []) (at + 1)
  spans_byte h e = record { ends = refl; found = rw (add-one, drop-cons s at 0 h, e) }

  module _ (byte : ℕ) (t : List ℕ) {past : ℕ} (p : Spans s at (byte ∷ t) past) where
    pub first_within : at < length s
    first_within = omega (arith, ap length p.found, length-drop at s)

    pub first_byte : get_or s at 0 ≡ byte
    first_byte = let e : get_or s at 0 ∷ drop (suc at) s ≡ byte ∷ (t ++ drop past s) = sym (drop-cons s at 0 first_within) ∙ p.found in cc

    pub first_stands : stands s at byte ≡ true
    unfolding stands
    first_stands = rw (lt-ltb _ _ first_within, eq-eqb _ _ first_byte)

    pub other_byte_not : (other : ℕ) → (byte ≡ other → ⊥) → stands s at other ≡ false
    unfolding stands
    other_byte_not other differ = rw (lt-ltb _ _ first_within, first_byte, ne_eqb byte other differ)

  pub stands_spans : (byte : ℕ) → stands s at byte ≡ true → Spans s at (byte ∷ []) (at + 1)
  unfolding stands
  stands_spans byte e =
      let both = (and-eq-true_iff (ltb at (length s)) (eqb (get_or s at 0) byte)).0 e in
      spans_byte (ltb-true at (length s) both.0) (eqb-true (get_or s at 0) byte both.1)
