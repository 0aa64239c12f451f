-- `play::replay` meets its contract: what the reader answers says how the replay goes on, or that it ends. The input ends before the lines' numbers do.
use Rattle.play.proofs.PlayLaws.{counted_as, plays_begin, plays_end, plays_bad, may_run, plays_on, lines_left}
use Rattle.play.proofs.replay.Goals as goal

pub loop-line-init : goal.loop-line-init
loop-line-init c =
    rw c.into_iter-line-iterator.ensures.into_iter_gives (plays_begin _ _ _ _ c.requires c.new.ensures _ c.new-reader.ensures)

pub returns-then-is_at_end : goal.returns-then-is_at_end
returns-then-is_at_end c =
    let all = plays_end c.loop-line.invariant c.is_at_end.ensures c.if-is_at_end.true in
    record { noted_after = all.0; ending_value = all.1 }

pub returns-in_default : goal.returns-in_default
returns-in_default c =
    let inv = counted_as c.in-Some.ensures.steps.0 c.loop-line.invariant in
    let all = plays_bad inv c.is_at_end.ensures c.if-is_at_end.false c.next-in-loop-line.ensures c.in_default.is c.bad_line.ensures in
    record { noted_after = all.0; ending_value = all.1 }

pub run-requires : goal.run-requires
run-requires c =
    may_run c.loop-line.invariant c.is_at_end.ensures c.if-is_at_end.false c.next-in-loop-line.ensures c.in-Some-next.is c.requires

pub loop-line-preserved : goal.loop-line-preserved
loop-line-preserved c =
    let inv = counted_as c.in-Some.ensures.steps.0 c.loop-line.invariant in
    counted_as c.in-Some.ensures.steps.1 (plays_on inv c.is_at_end.ensures c.if-is_at_end.false c.next-in-loop-line.ensures c.in-Some-next.is c.requires c.run.ensures)

pub returns-in-None : goal.returns-in-None
returns-in-None c = absurd (lines_left c.loop-line.invariant c.requires c.in-None.ensures.steps.0)
