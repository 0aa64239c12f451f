-- Laws of what calls put on a page.
--     puts_nothing   a page as it is
--     puts_behind    two texts, one behind the other
--     puts_next      one item more of a list
--     over_put       what the buffer under a page holds in the end
--     over_within    and that the place lies within it
use Prim.Native.Nat.{ℕ, ◌+◌, ◌<◌, ◌≤◌}
use native.Mathlib.Omega.{arith}
use mathlib.Core.List.{List, [], ◌∷◌, ◌++◌}
use mathlib.Core.Path.{◌≡◌, refl, sym, ap, ap₂, ◌∙◌, subst}
use lib.ListN.{length, get_or, take}
use Rattle.std.proofs.lemmas.List.{take_more}
use Rattle.print.specs.Page.{Page, page, put}
use Rattle.print.specs.Puts.{stands_for, Puts}
use Rattle.print.specs.declared.Page.{Page as Held}
use Rattle.print.proofs.PageLaws.{put_behind, past_within}

module _ {A : Type 0} where
  pub puts_nothing : (p : Held A) → Puts [] p p
  unfolding put
  puts_nothing p = record { same_buffer = refl; puts = refl }

  pub puts_behind : {p q r : Held A} {a b : List A} → Puts a p q → Puts b q r → Puts (a ++ b) p r
  puts_behind {p} {q} {r} {a} {b} e f = record { same_buffer = f.same_buffer ∙ e.same_buffer; puts = put_behind (stands_for p) a b e.puts f.puts }

  pub puts_next : {p q r : Held A} (xs : List A) (i : ℕ) (d : A) → i < length xs → Puts (take i xs) p q → Puts (get_or xs i d ∷ []) q r → Puts (take (i + 1) xs) p r
  puts_next {p} {q} {r} xs i d h e f = subst (λ (text : List A). Puts text p r) (sym (take_more xs i d h)) (puts_behind e f)

-- A page that is empty at first, and the buffer under it, which holds in the end what the page does.
pub record Over {A : Type 0} (before after : List A) (first last : Held A) : Type 0 where
  pub empty : stands_for first ≡ page before 0
  pub holds : after ≡ last.out.now

pub over_put : {A : Type 0} {before after : List A} (text : List A) {first last : Held A} {past : ℕ} → Over before after first last → stands_for last ≡ put (stands_for first) text → past ≡ last.past
    → page after past ≡ put (page before 0) text
over_put {A} text o e p = ap₂ page o.holds p ∙ e ∙ ap (λ (k : Page A). put k text) o.empty

pub over_within : {A : Type 0} {before after text : List A} {first last : Held A} {past : ℕ} → Over before after first last → Puts text first last → past ≡ last.past → past ≤ length after
over_within {A} {before} {after} {text} {first} {last} {past} o e p = past_within after past before 0 text (over_put text o e.puts p) (omega arith)
