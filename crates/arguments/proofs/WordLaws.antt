-- Words that spell a number are texts.
use Rattle.std.proofs.Common.{ℕ, List}
use Rattle.std.specs.Str.{IsUtf8}
use Rattle.std.specs.Str.Parse.{IsNumeral}
use Rattle.std.proofs.lemmas.Str.{IsUtf8-from_ascii}
use Rattle.std.proofs.lemmas.Fmt.{IsAscii-from_digits}

pub numeral_is_text : (word : List ℕ) → IsNumeral 10 word → IsUtf8 word
numeral_is_text word numeral = IsUtf8-from_ascii word (IsAscii-from_digits word numeral.1)
