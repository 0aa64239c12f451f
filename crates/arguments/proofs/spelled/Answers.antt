-- A word that is no text spells no number.
use Rattle.std.proofs.Common.{rules}
use Rattle.arguments.proofs.WordLaws.{numeral_is_text}
use Rattle.arguments.proofs.spelled.Goals as goal

pub returns-in_err-ok : goal.returns-in_err-ok
returns-in_err-ok c = search (rules, numeral_is_text c.args.word.now)
