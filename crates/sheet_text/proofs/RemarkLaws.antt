-- A name shown byte by byte, and what is said of a site, put one behind the other, are the remark on the site.
use Prim.Native.Nat.{ℕ, ◌+◌, ◌<◌, ◌≤◌}
use native.Mathlib.Omega.{arith}
use Rattle.std.proofs.Common.{inl, inr}
use mathlib.Core.Bool.{Bool, cond, ◌||◌}
use mathlib.Core.List.{List, [], ◌∷◌, ◌++◌, map}
use mathlib.Core.Path.{◌≡◌, sym, ap, ap₂, ◌∙◌, subst}
use lib.ListN.{length, get_or, take}
use Rattle.std.proofs.lemmas.List.{take_more, map-append}
use lib.Dec.{ltb, eqb}
use Rattle.std.specs.Char.{IsAsciiControl, IsNotAsciiControl}
use borrow.Author.Tests.{lt-ltb, le-ltb, eq-eqb, ne_eqb}
use Rattle.lines.specs.Text.{bytes}
use Rattle.lines.specs.Written.{field}
use Rattle.print.specs.Puts.{Puts}
use Rattle.print.specs.declared.Page.{Page as Held}
use Rattle.print.proofs.PutsLaws.{puts_nothing, puts_behind}
use Rattle.week.specs.declared.Verdict.{Verdict}
use Rattle.week.specs.declared.Verdict.TheVariants.{Follows, Ended, Differs, EventsUnread, OutputUnread}
use Rattle.sheet_text.specs.Sheet.{shown, name_text, remark_text}

-- ---- one byte

module _ (byte : ℕ) where
  shown_by : {low delete : Bool} → ltb byte 32 ≡ low → eqb byte 127 ≡ delete → cond (low || delete) 63 byte ≡ shown byte
  unfolding shown
  shown_by l d = ap₂ (λ (low delete : Bool). cond (low || delete) 63 byte) (sym l) (sym d)

  pub control_shown : byte < 32 → 63 ≡ shown byte
  unfolding shown
  control_shown h = ap (λ (low : Bool). cond (low || eqb byte 127) 63 byte) (sym (lt-ltb byte 32 h))

  pub delete_shown : 32 ≤ byte → byte ≡ 127 → 63 ≡ shown byte
  delete_shown h e = shown_by (le-ltb byte 32 h) (eq-eqb byte 127 e)

  pub other_shown : 32 ≤ byte → (byte ≡ 127 → ⊥) → byte ≡ shown byte
  other_shown h n = shown_by (le-ltb byte 32 h) (ne_eqb byte 127 n)

  pub control_as_mark : IsAsciiControl byte → 63 ≡ shown byte
  control_as_mark (inl low) = control_shown (omega arith)
  control_as_mark (inr delete) = delete_shown (omega arith) (omega arith)

  pub other_as_it_is : IsNotAsciiControl byte → byte ≡ shown byte
  other_as_it_is h = other_shown (omega arith) (λ e. omega arith)

-- ---- a name, byte by byte

pub name_goes_on : {p q r : Held ℕ} {byte : ℕ} (name : List ℕ) (i : ℕ) → i < length name → byte ≡ shown (get_or name i 0) → Puts (map shown (take i name)) p q → Puts (byte ∷ []) q r
    → Puts (map shown (take (i + 1) name)) p r
name_goes_on {p} {q} {r} {byte} name i h b e f = subst (λ (text : List ℕ). Puts text p r) (sym on) (puts_behind e f)
  where
    on : map shown (take (i + 1) name) ≡ map shown (take i name) ++ (byte ∷ [])
    on = ap (map shown) (take_more name i 0 h) ∙ map-append shown (take i name) (get_or name i 0 ∷ []) ∙ ap (λ (x : ℕ). map shown (take i name) ++ (x ∷ [])) (sym b)

module _ {p q r : Held ℕ} where
  pub named_printed : {s : Held ℕ} (name : List ℕ) → Puts (bytes " output=") p q → Puts (map shown name) q r → Puts (bytes "\n") r s → Puts (name_text name) p s
  unfolding name_text
  named_printed name a b c = puts_behind (puts_behind a b) c

-- ---- what is remarked

module _ (site : ℕ) (verdict : Verdict) (name : List ℕ) where
  remark_is : {p q : Held ℕ} {v : Verdict} → verdict ≡ v → Puts (remark_text site v name) p q → Puts (remark_text site verdict name) p q
  remark_is {p} {q} e f = subst (λ (v : Verdict). Puts (remark_text site v name) p q) (sym e) f

  pub nothing_remarked : (p : Held ℕ) → verdict ≡ Follows → Puts (remark_text site verdict name) p p
  unfolding remark_text
  nothing_remarked p e = remark_is e (puts_nothing p)

  module _ {p q r : Held ℕ} where
    pub ended_remarked : (line : ℕ) → verdict ≡ Ended line → Puts (field "site=" site ++ field " summed=yes bad=" line) p q → Puts (name_text name) q r
        → Puts (remark_text site verdict name) p r
    unfolding remark_text
    ended_remarked line e a b = remark_is e (puts_behind a b)

    pub differs_remarked : (line : ℕ) → verdict ≡ Differs line → Puts (field "site=" site ++ field " summed=no differs=" line) p q → Puts (name_text name) q r
        → Puts (remark_text site verdict name) p r
    unfolding remark_text
    differs_remarked line e a b = remark_is e (puts_behind a b)

    module _ {s : Held ℕ} where
      pub events_remarked : verdict ≡ EventsUnread → Puts (field "site=" site) p q → Puts (bytes " summed=no unread=events") q r → Puts (name_text name) r s
          → Puts (remark_text site verdict name) p s
      unfolding remark_text
      events_remarked e a b c = remark_is e (puts_behind (puts_behind a b) c)

      pub output_remarked : verdict ≡ OutputUnread → Puts (field "site=" site) p q → Puts (bytes " summed=no unread=output") q r → Puts (name_text name) r s
          → Puts (remark_text site verdict name) p s
      unfolding remark_text
      output_remarked e a b c = remark_is e (puts_behind (puts_behind a b) c)
