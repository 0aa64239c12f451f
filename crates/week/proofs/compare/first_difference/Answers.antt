-- `week::compare::first_difference` meets its contract: no more line feeds are in common than the shorter text has bytes.
use Rattle.std.proofs.Common.{◌∙◌, ◌+◌, ap, arith, ℕ}
use Rattle.week.specs.Site.{first_difference}
use Rattle.week.proofs.CompareLaws.{feeds_counted, few_feeds}
use Rattle.week.proofs.compare.first_difference.Goals as goal

pub overflow_add-result : goal.overflow_add-result
overflow_add-result c = omega (arith, c.feeds_in_common.ensures ∙ feeds_counted c.args.a.now c.args.b.now, few_feeds c.args.a.now c.args.b.now)

pub returns : goal.returns
unfolding first_difference
returns c = ap (λ (n : ℕ). 1 + n) (c.feeds_in_common.ensures ∙ feeds_counted _ _)
