-- `lines::digits_at` meets its contract. The loop's invariant: the digits from `at` are what those from `past` make of `value`, with
-- as many left to read as are not counted yet, and `value` has as many digits as were counted.
use mathlib.Core.Path.{◌≡◌}
use Prim.Native.Nat.{◌<◌, ◌^◌, ◌-◌}
use Rattle.lines.specs.Number.{digits_from, most_digits}
use Rattle.lines.proofs.digits_at.Given as goal

abbrev pub invariant-loop : goal.invariant-loop
invariant-loop l = (digits_from most_digits 0 l.input l.at ≡ digits_from (most_digits - l.counter) l.value l.input l.past) × (l.value < 10 ^ l.counter)
