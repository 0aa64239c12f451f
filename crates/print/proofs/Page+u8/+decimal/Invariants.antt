-- The measure is the number, and a tenth of it is less.
use Rattle.print.proofs.Page+u8.+decimal.Given as goal

abbrev pub decreases-decimal : goal.decreases-decimal
decreases-decimal l = l.number
