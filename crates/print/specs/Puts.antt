-- What code's page stands for, and what a call puts on it.
use Rattle.std.specs.Prelude.{List, ◌≡◌}
use Rattle.std.specs.Borrow.{GName}
use Rattle.print.specs.Page.{Page, page, put}
use Rattle.print.specs.declared.Page.{Page as Held}

-- the reference to the buffer that is lent to it
abbrev pub lent : {A : Type 0} → Held A → GName
lent p = p.out.ghost_name

-- the buffer and the place up to which it is written
abbrev pub stands_for : {A : Type 0} → Held A → Page A
stands_for p = page p.out.now p.past

-- A text is put on a page, which keeps its buffer.
pub record Puts {A : Type 0} (text : List A) (before after : Held A) : Type 0 where
  pub same_buffer : lent after ≡ lent before
  pub puts : stands_for after ≡ put (stands_for before) text
