-- `week::Week::judged` meets its contract: the output is compared with the transcript, and the log of a site that follows is counted in.
use native.Mathlib.Omega.{arith}
use mathlib.Core.Bool.{true≢false}
use mathlib.Core.Path.{sym, ap, ◌∙◌}
use Rattle.week.specs.Site.{first_difference, followed}
use Rattle.week.proofs.WeekLaws.{shares_are, written_whole, noted_whole, summed_small, readable, following_week, differing_week}
use Rattle.week.proofs.Week.judged.Goals as goal

pub with-shares-requires : goal.with-shares-requires
with-shares-requires c =
    readable _ c.requires.sound c.requires.sites_lt_site_limit (noted_whole c.tell-told.ensures (omega arith))

pub overflow_add-summed : goal.overflow_add-summed
overflow_add-summed c = omega (arith, summed_small c.requires.sound, c.requires.sites_lt_site_limit)

pub returns-then-same : goal.returns-then-same
returns-then-same c sites e =
    let told = c.tell-told.ensures in
    following_week _ _ sites e
    (c.same.ensures.0 c.if-same.true ∙ written_whole told (omega arith))
    (c.with-shares.ensures _ _ (shares_are sites e) (noted_whole told (omega arith)))
    (c.into.ensures ∙ ap followed told.ended)

pub returns : goal.returns
returns c sites e =
    let told = c.tell-told.ensures in
    let whole = written_whole told (omega arith) in
    differing_week _ _ sites e
    (λ o. true≢false (sym (c.same.ensures.1 (o ∙ sym whole)) ∙ c.if-same.false))
    (c.first_difference-line.ensures ∙ ap (first_difference _) whole)
