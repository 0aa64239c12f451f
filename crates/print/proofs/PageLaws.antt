-- Laws of `put`: texts put one behind the other are one text, the buffer keeps its length, and what stands in the buffer in the end.
--     put_append      two texts, one behind the other
--     put_behind      the same, of pages that calls left behind
--     put_keeps       the buffer's length
--     past_within     the place stays within the buffer
--     byte_fits       one byte where there is room
--     byte_left_off   one byte where there is none
--     printed         a text put from the start of a buffer is printed there
--     printed_whole   where it fits, it is printed whole
use Prim.Native.Nat.{ℕ, ◌+◌, ◌<◌, ◌≤◌, min}
use native.Mathlib.Omega.{arith}
use mathlib.Core.Bool.{Bool, true, false, cond}
use mathlib.Core.List.{List, [], ◌∷◌, ◌++◌}
use mathlib.Core.Path.{◌≡◌, refl, sym, ap, ap₂, ◌∙◌, subst}
use lib.ListN.{length, take, drop, set, length-append, length-set}
use lib.Dec.{ltb}
use lib.Seq.{append_snoc, set-append_seam, take_all, take-nil, drop-nil}
use borrow.Author.Tests.{ltb-true, lt-ltb, le-ltb}
use Rattle.print.specs.Page.{Page, page, put_byte, put, Printed, PrintedWhole}

module _ {A : Type 0} where
  pub put_append : (p : Page A) (a b : List A) → put p (a ++ b) ≡ put (put p a) b
  unfolding put
  put_append p [] b = refl
  put_append p (x ∷ a) b = put_append (put_byte p x) a b

  pub put_behind : (p : Page A) {q r : Page A} (a b : List A) → q ≡ put p a → r ≡ put q b → r ≡ put p (a ++ b)
  put_behind p a b e f = f ∙ ap (λ (k : Page A). put k b) e ∙ sym (put_append p a b)

  -- ---- one byte

  pub byte_fits : (out : List A) (at : ℕ) (byte : A) → at < length out → page (set out at byte) (at + 1) ≡ put (page out at) (byte ∷ [])
  unfolding put_byte put
  byte_fits out at byte h = ap (λ (t : Bool). cond t (page (set out at byte) (at + 1)) (page out at)) (sym (lt-ltb at (length out) h))

  pub byte_left_off : (out : List A) (at : ℕ) (byte : A) → length out ≤ at → page out at ≡ put (page out at) (byte ∷ [])
  unfolding put_byte put
  byte_left_off out at byte h = ap (λ (t : Bool). cond t (page (set out at byte) (at + 1)) (page out at)) (sym (le-ltb at (length out) h))

  -- ---- the buffer's length

  byte_keeps : (p : Page A) (byte : A) → length (put_byte p byte).bytes ≡ length p.bytes
  unfolding put_byte
  byte_keeps p byte = either (ltb p.past (length p.bytes))
    where
      either : (t : Bool) → length (cond t (page (set p.bytes p.past byte) (p.past + 1)) p).bytes ≡ length p.bytes
      either true = length-set p.bytes p.past byte
      either false = refl

  pub put_keeps : (p : Page A) (text : List A) → length (put p text).bytes ≡ length p.bytes
  unfolding put
  put_keeps p [] = refl
  put_keeps p (x ∷ text) = put_keeps (put_byte p x) text ∙ byte_keeps p x

  -- ---- the place

  byte_within : (p : Page A) (byte : A) → p.past ≤ length p.bytes → (put_byte p byte).past ≤ length (put_byte p byte).bytes
  unfolding put_byte
  byte_within p byte h = either (ltb p.past (length p.bytes)) refl
    where
      either : (t : Bool) → ltb p.past (length p.bytes) ≡ t
          → (cond t (page (set p.bytes p.past byte) (p.past + 1)) p).past ≤ length (cond t (page (set p.bytes p.past byte) (p.past + 1)) p).bytes
      either true e = omega (arith, ltb-true p.past (length p.bytes) e, length-set p.bytes p.past byte)
      either false e = h

  put_within : (p : Page A) (text : List A) → p.past ≤ length p.bytes → (put p text).past ≤ length (put p text).bytes
  unfolding put
  put_within p [] h = h
  put_within p (x ∷ text) h = put_within (put_byte p x) text (byte_within p x h)

  -- Where a text begins within a buffer, it ends there.
  pub past_within : (out : List A) (past : ℕ) (before : List A) (at : ℕ) (text : List A) → page out past ≡ put (page before at) text → at ≤ length before → past ≤ length out
  past_within out past before at text e h = subst (λ (p : Page A). p.past ≤ length p.bytes) (sym e) (put_within (page before at) text h)

  -- ---- a whole text

  -- behind what is done, the text is put over the rest
  put_over : (done rest text : List A) → put (page (done ++ rest) (length done)) text ≡ page (done ++ (take (length rest) text ++ drop (length text) rest)) (length done + min (length text) (length rest))
  unfolding put
  put_over done rest [] = ap₂ page (ap (λ (l : List A). done ++ (l ++ rest)) (sym (take-nil (length rest)))) (omega arith)
  put_over done [] (x ∷ text) =
      ap (λ (p : Page A). put p text) (sym (byte_left_off (done ++ []) (length done) x (omega (arith, length-append done []))))
      ∙ put_over done [] text
      ∙ ap₂ page (ap (λ (l : List A). done ++ l) (drop-nil (length text))) (omega arith)
  put_over done (y ∷ rest) (x ∷ text) =
      ap (λ (p : Page A). put p text) (sym (byte_fits (done ++ y ∷ rest) (length done) x (omega (arith, length-append done (y ∷ rest)))))
      ∙ ap₂ (λ (l : List A) (n : ℕ). put (page l n) text) (set-append_seam done y rest x ∙ sym (append_snoc done x rest)) (sym (length-append done (x ∷ [])))
      ∙ put_over (done ++ (x ∷ [])) rest text
      ∙ ap₂ page (append_snoc done x (take (length rest) text ++ drop (length text) rest)) (omega (arith, length-append done (x ∷ [])))

  put_from_start : (out text : List A) → put (page out 0) text ≡ page (take (length out) text ++ drop (length text) out) (min (length text) (length out))
  put_from_start out text = put_over [] out text ∙ ap (page (take (length out) text ++ drop (length text) out)) (omega arith)

  pub printed : (text before after : List A) (count : ℕ) → page after count ≡ put (page before 0) text → Printed text before after count
  printed text before after count e =
      let whole : page after count ≡ page (take (length before) text ++ drop (length text) before) (min (length text) (length before)) = e ∙ put_from_start before text in
      record { counted = ap (λ (p : Page A). p.past) whole; written = ap (λ (p : Page A). p.bytes) whole }

  pub printed_whole : {text before after : List A} {count : ℕ} → length text ≤ length before → Printed text before after count → PrintedWhole text before after count
  printed_whole {text} {before} room p =
      record {
        counted = omega (arith, p.counted);
        written = p.written ∙ ap (λ (l : List A). l ++ drop (length text) before) (take_all (length before) text room);
      }
