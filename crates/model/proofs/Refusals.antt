-- What is known where a call is not refused; and that a refusal's number is not 0.
use Prim.Native.Nat.{ℕ, ◌≤◌, ◌<◌}
use mathlib.Core.Path.{◌≡◌, refl, ap}
use mathlib.Core.Bool.{Bool, true, false, cond, ◌||◌}
use native.Mathlib.Omega.{arith}
use lib.ListN.{length}
use lib.Dec.{leb, ltb, eqb}
use borrow.Author.Tests.{leb-false, ltb-false, eqb-true, eqb-false}
use Rattle.model.specs.Limits.{flow_limit, weight_limit, size_limit, queue_limit}
use Rattle.model.specs.Model.{Flow}
use Rattle.std.specs.Prelude.{Ok, Err}
use Rattle.model.specs.Choose.{if_ok}
use Rattle.model.specs.Replies.{Answer, number_of, of_answer}
use Rattle.model.specs.Calls.{open_answer, offer_answer}
use Rattle.model.specs.declared.Refusal.{Refusal}
use Rattle.model.specs.declared.Refusal.TheVariants.{NoSuchFlow, BadWeight, OpenAlready, NotOpen, BadSize, QueueFull, OutShort, StoreWrong, ListShort}

pub number_positive : (r : Refusal) → 1 ≤ number_of r
number_positive NoSuchFlow = omega arith
number_positive BadWeight = omega arith
number_positive OpenAlready = omega arith
number_positive NotOpen = omega arith
number_positive BadSize = omega arith
number_positive QueueFull = omega arith
number_positive OutShort = omega arith
number_positive StoreWrong = omega arith
number_positive ListShort = omega arith

-- An error is not done.
pub not_done : (r : Refusal) → ◌≡◌ {A = Answer} (Err r) (Ok tt) → ⊥
not_done r e = let z : ◌≡◌ {A = ℕ} 0 1 = ap {B = ℕ} (λ (a : Answer). if_ok a 1 0) e in absurd (omega arith)

-- An answer that says no refusal is done.
pub no_number : (a : Answer) → (of_answer a).refusal ≡ 0 → a ≡ Ok tt
no_number (Ok done) e = refl
no_number (Err r) e = absurd (omega (arith, number_positive r))

-- A check that refuses nothing is passed, and so are those after it.
passed : (b : Bool) (r : Refusal) (rest : Answer) → ◌≡◌ {A = Answer} (cond b (Err r) rest) (Ok tt) → (b ≡ false) × (rest ≡ Ok tt)
passed true r rest e = absurd (not_done r e)
passed false r rest e = (refl, e)

neither : (a b : Bool) → (a || b) ≡ false → (a ≡ false) × (b ≡ false)
neither true b e = let z : ◌≡◌ {A = ℕ} 0 1 = cc in absurd (omega arith)
neither false b e = (refl, e)

pub record MayOpen (f weight : ℕ) (x : Flow) : Type 0 where
  pub flow_in_range : f < flow_limit
  pub weight_positive : 1 ≤ weight
  pub weight_small : weight ≤ weight_limit
  pub not_open : x.weight ≡ 0

pub may_open : (f weight : ℕ) (x : Flow) → open_answer f weight x ≡ Ok tt → MayOpen f weight x
may_open f weight x e =
    let three : Answer = cond (eqb x.weight 0) (Ok tt) (Err OpenAlready) in
    let one = passed (leb flow_limit f) NoSuchFlow (cond (eqb weight 0 || ltb weight_limit weight) (Err BadWeight) three) e in
    let two = passed (eqb weight 0 || ltb weight_limit weight) BadWeight three one.1 in
    let weights = neither (eqb weight 0) (ltb weight_limit weight) two.0 in
    let nonzero : weight ≡ 0 → ⊥ = eqb-false weight 0 weights.0 in
    record {
      flow_in_range = leb-false flow_limit f one.0;
      weight_positive = omega arith;
      weight_small = ltb-false weight_limit weight weights.1;
      not_open = eqb-true x.weight 0 (last (eqb x.weight 0) two.1);
    }
  where
    last : (b : Bool) → ◌≡◌ {A = Answer} (cond b (Ok tt) (Err OpenAlready)) (Ok tt) → b ≡ true
    last true e = refl
    last false e = absurd (not_done OpenAlready e)

pub record MayOffer (f size : ℕ) (x : Flow) : Type 0 where
  pub flow_in_range : f < flow_limit
  pub is_open : x.weight ≡ 0 → ⊥
  pub size_positive : 1 ≤ size
  pub size_small : size ≤ size_limit
  pub has_room : length x.queue < queue_limit

pub may_offer : (f size : ℕ) (x : Flow) → offer_answer f size x ≡ Ok tt → MayOffer f size x
may_offer f size x e =
    let six : Answer = cond (leb queue_limit (length x.queue)) (Err QueueFull) (Ok tt) in
    let five : Answer = cond (eqb size 0 || ltb size_limit size) (Err BadSize) six in
    let one = passed (leb flow_limit f) NoSuchFlow (cond (eqb x.weight 0) (Err NotOpen) five) e in
    let four = passed (eqb x.weight 0) NotOpen five one.1 in
    let fives = passed (eqb size 0 || ltb size_limit size) BadSize six four.1 in
    let sizes = neither (eqb size 0) (ltb size_limit size) fives.0 in
    let nonzero : size ≡ 0 → ⊥ = eqb-false size 0 sizes.0 in
    record {
      flow_in_range = leb-false flow_limit f one.0;
      is_open = eqb-false x.weight 0 four.0;
      size_positive = omega arith;
      size_small = ltb-false size_limit size sizes.1;
      has_room = leb-false queue_limit (length x.queue) (passed (leb queue_limit (length x.queue)) QueueFull (Ok tt) fives.1).0;
    }
