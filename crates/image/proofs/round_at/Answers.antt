-- Each number is read where it lies.
use Prim.Native.Nat.{ℕ, ◌+◌}
use mathlib.Core.Path.{ap₂, ◌∙◌}
use lib.ListN.{get_or}
use Rattle.image.specs.Image.{round_start, round_in, turn_from}
use Rattle.image.proofs.round_at.Goals as goal

pub returns : goal.returns
unfolding round_in
returns c =
    let image = c.args.image.now in
    let r = round_in image in
    let turn =
    c.turn_of.ensures
    ∙ ap₂ (λ (n m : ℕ). turn_from (get_or image (round_start + 6) 0) n m) c.pair_at-3.ensures c.pair_at-4.ensures in
    λ i. record { length = r.length; visits = r.visits; mark = c.pair_at.ensures i; running = c.pair_at-2.ensures i; turn = turn i }
