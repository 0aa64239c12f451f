-- `play::tell` meets its contract: too long an input is one bad line, and any other is replayed.
use Rattle.std.proofs.Common.{rules}
use Rattle.play.proofs.LogLaws.{buffers_kept}
use Rattle.play.proofs.PlayLaws.{tells, too_long_tells}
use Rattle.play.proofs.tell.Goals as goal

pub returns-then-input-gt-INPUT_LIMIT : goal.returns-then-input-gt-INPUT_LIMIT
returns-then-input-gt-INPUT_LIMIT c =
    too_long_tells _ _ c.new-notes.result _ _ (record { empty = c.new-page.ensures.empty; holds = search rules }) (record { empty = c.new-notes.ensures.empty; holds = search rules })
    c.if-input-gt-INPUT_LIMIT.true c.bad_line.ensures c.past.ensures

pub returns : goal.returns
returns c =
    let replayed = c.replay-ending.ensures in
    let page = c.replay-ending.new.page in
    let notes = c.replay-ending.new.log in
    let kept = buffers_kept c.new-page.result c.new-notes.result page notes _ replayed.noted_after in
    tells _ c.new-page.result c.new-notes.result page notes _ (record { empty = c.new-page.ensures.empty; holds = search rules }) (record { empty = c.new-notes.ensures.empty; holds = search rules })
    replayed.noted_after c.past-2.ensures c.past-3.ensures replayed.ending_value
