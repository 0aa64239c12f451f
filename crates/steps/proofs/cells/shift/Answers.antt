-- All but the first are moved, and the last is where it was.
use Prim.Native.Nat.{ℕ, ◌-◌}
use mathlib.Core.Path.{◌≡◌, ap₂, ◌∙◌}
use mathlib.Core.List.{List, ◌++◌}
use native.Mathlib.Omega.{arith}
use lib.ListN.{length, take, drop, length-drop}
use lib.Seq.{take_all}
use Rattle.model.specs.Limits.{flow_limit}
use Rattle.steps.proofs.cells.shift.Goals as goal

pub returns : goal.returns
returns c =
    let cells = c.args.cells.now in
    let moved : take flow_limit (drop 1 cells) ≡ drop 1 cells = take_all flow_limit (drop 1 cells) (omega (arith, length-drop 1 cells)) in
    let last : flow_limit ≡ length cells - 1 = omega arith in
    c.copy_within.ensures.after ∙ ap₂ (λ (l : List ℕ) (n : ℕ). l ++ drop n cells) moved last
