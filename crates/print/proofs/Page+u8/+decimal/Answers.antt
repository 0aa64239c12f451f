-- The one digit, or those of a tenth and the last one.
use Rattle.print.proofs.PutLaws.{one_digit, more_digits}
use Rattle.print.proofs.Page+u8.+decimal.Goals.{then-number-ge10, else-number-ge10}
use Rattle.print.proofs.Page+u8.+decimal.Goals as goal

pub returns : goal.returns
returns t c =
    elim c.if-number-ge10.branch [
      | then-number-ge10 w ↦ more_digits _ c.push.ensures w.if-number-ge10.true w.self-is w.decimal.ensures
      | else-number-ge10 w ↦ one_digit _ c.push.ensures w.if-number-ge10.false w.self-is
    ]
