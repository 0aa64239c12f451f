-- The sheet of the sites so far.
use Rattle.sheet.proofs.MadeLaws.{Making}
use Rattle.sheet.proofs.judged_all.Given as goal

abbrev pub invariant-loop-before : goal.invariant-loop-before
invariant-loop-before g l = Making l.initial.page l.before l.page l.week
