-- `week::Week::with_site` meets its contract: what was read of the files says as much as they do.
use mathlib.Core.Path.{◌∙◌}
use Rattle.week.proofs.WeekLaws.{judged_as_read}
use Rattle.week.proofs.Week.with_site.Goals as goal

pub returns : goal.returns
returns c sites e o w re ro =
    c.judged.ensures sites w
    ∙ judged_as_read sites e o c.args.events.now c.args.output.now c.args.events_read c.args.output_read c.requires.input_limit_in_bounds c.requires.output_limit_in_bounds re ro
