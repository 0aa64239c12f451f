-- `lines::digits_at` meets its contract: what the digit at a place answered says how the digits from there go on, or that they end.
use mathlib.Core.Path.{sym, ◌∙◌}
use native.Mathlib.Numerals.{add-one}
use native.Mathlib.Omega.{arith}
use Rattle.lines.proofs.Steps.{alike, digits_end, no_digit_left, digits_go_on, value_small}
use Rattle.lines.proofs.Numbers.{digit_is_byte}
use Rattle.lines.proofs.digits_at.Goals as goal

pub overflow_add-value : goal.overflow_add-value
overflow_add-value c =
    let small = value_small c.loop.counter (omega arith) c.loop.invariant.1 in
    let digit = (digit_is_byte _ _ (alike c.digit_at.ensures c.in-Some.is)).0 in
    omega arith

pub loop-preserved : goal.loop-preserved
loop-preserved c =
    let read = alike c.digit_at.ensures c.in-Some.is in
    let digit = (digit_is_byte _ _ read).0 in
    (c.loop.invariant.0 ∙ digits_go_on _ _ _ _ (omega arith) read, rw (add-one c.loop.counter) (omega arith))

pub returns-in_default : goal.returns-in_default
returns-in_default c = sym (c.loop.invariant.0 ∙ digits_end _ _ _ _ (alike c.digit_at.ensures c.in_default.is))

pub returns-after-loop : goal.returns-after-loop
returns-after-loop c = sym (c.loop.invariant.0 ∙ no_digit_left _ _ _ _ (omega arith))
