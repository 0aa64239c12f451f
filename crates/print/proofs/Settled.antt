-- The contracts of `push`, `word`, `decimal` and `field` settle the buffer and the place of a page: no second outcome meets one. Each says that a text is
-- put on the page, and they differ only in the text.
use Prim.Native.Nat.{ℕ}
use mathlib.Core.List.{List}
use mathlib.Core.Path.{◌≡◌, sym, ap, ◌∙◌}
use Rattle.print.specs.Page.{Page, page, put}
use Rattle.print.specs.Puts.{lent, stands_for, Puts}
use Rattle.print.specs.declared.Page.{Page as Held}

module _ {A : Type 0} where
  pub put_settled : (before : List A) (at : ℕ) (text : List A) {one two : List A} {m n : ℕ} → page one m ≡ put (page before at) text → page two n ≡ put (page before at) text → (one ≡ two) × (m ≡ n)
  put_settled before at text p q =
      let same = p ∙ sym q in
      (ap (λ (k : Page A). k.bytes) same, ap (λ (k : Page A). k.past) same)

  pub puts_settled : {text : List A} {before one two : Held A} → Puts text before one → Puts text before two → (lent one ≡ lent two) × (stands_for one ≡ stands_for two)
  puts_settled p q = (p.same_buffer ∙ sym q.same_buffer, p.puts ∙ sym q.puts)
