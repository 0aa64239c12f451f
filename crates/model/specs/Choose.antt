-- Choices by a list, a number or an answer, for the definitions that follow. A choice by a test is `cond` of the library.
use Rattle.std.specs.Prelude.{ℕ, zero, suc, List, [], ◌∷◌, Result, Ok, Err}

module _ {A : Type 0} where
  -- a where the list is empty, b where it is not
  abbrev pub if_empty : List ℕ → A → A → A
  if_empty [] a b = a
  if_empty (x ∷ l) a b = b

  -- a where the number is 0, b where it is not
  abbrev pub if_zero : ℕ → A → A → A
  if_zero zero a b = a
  if_zero (suc n) a b = b

  -- a where the answer is good, b where it is an error
  abbrev pub if_ok : {T E : Type 0} → Result T E → A → A → A
  if_ok (Ok x) a b = a
  if_ok (Err e) a b = b

  -- a where the answer is good; else the answer's error
  abbrev pub ok_with : {T E : Type 0} → Result T E → A → Result A E
  ok_with (Ok x) a = Ok a
  ok_with (Err e) a = Err e
