-- Items put into a buffer, one behind the other. A page is the buffer and the place up to which it is written; what does not fit is left off.
use Rattle.std.specs.Prelude.{ℕ, ◌+◌, min, cond, List, [], ◌∷◌, ◌++◌, ◌≡◌, length, take, drop, set, ltb}

pub record Page (A : Type 0) : Type 0 where
  pub bytes : List A
  pub past : ℕ

abbrev pub page : {A : Type 0} → List A → ℕ → Page A
page bytes past = record { bytes = bytes; past = past }

unfoldable pub put_byte : {A : Type 0} → Page A → A → Page A
put_byte p byte = cond (ltb p.past (length p.bytes)) (page (set p.bytes p.past byte) (p.past + 1)) p

unfoldable pub put : {A : Type 0} → Page A → List A → Page A
put p [] = p
put p (byte ∷ text) = put (put_byte p byte) text

-- A text is printed into a buffer from its start, as many of its bytes as fit; the rest of the buffer is as before.
pub record Printed {A : Type 0} (text before after : List A) (count : ℕ) : Type 0 where
  pub counted : count ≡ min (length text) (length before)
  pub written : after ≡ take (length before) text ++ drop (length text) before

-- A text is printed into a buffer from its start, whole; the rest of the buffer is as before.
pub record PrintedWhole {A : Type 0} (text before after : List A) (count : ℕ) : Type 0 where
  pub counted : count ≡ length text
  pub written : after ≡ text ++ drop (length text) before
