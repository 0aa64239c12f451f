-- Text as the bytes that stand for it in the input.
use Rattle.std.specs.Prelude.{ℕ, List, [], ◌∷◌}
use Prim.Native.Char.{code}
use Prim.Native.String.{String, [] as no_text, ◌∷◌ as text_cons}

-- the bytes of a text in ASCII
abbrev pub bytes : String → List ℕ
bytes no_text = []
bytes (text_cons c text) = code c ∷ bytes text
