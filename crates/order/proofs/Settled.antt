-- Each public call's contract settles everything: no second outcome meets it.
use Prim.Native.Nat.{ℕ}
use mathlib.Core.Path.{◌≡◌, sym, ◌∙◌}
use mathlib.Core.List.{List}
use Rattle.order.specs.Promised.{NewGives, OpenGives, OfferGives, DepartGives, BurstGives}
use Rattle.order.specs.State.{State}
use Rattle.std.specs.Prelude.{Result}
use Rattle.model.specs.Replies.{Answer, Count}
use Rattle.model.specs.declared.Outcome.{Outcome}
use Rattle.model.specs.declared.Refusal.{Refusal}
use Rattle.steps.specs.declared.Place.{Place}
use Rattle.order.specs.declared.Departed.{Departed}

-- New and reset.
pub new_settled : {a b : State} → NewGives a → NewGives b → a ≡ b
new_settled p q = p.outcome ∙ sym q.outcome

pub open_settled : {s : State} {f weight : ℕ} {a b : Outcome State Answer} → OpenGives s f weight a → OpenGives s f weight b → a ≡ b
open_settled p q = p.outcome ∙ sym q.outcome

pub offer_settled : {s : State} {f size : ℕ} {a b : Outcome State (Result Place Refusal)} → OfferGives s f size a → OfferGives s f size b → a ≡ b
offer_settled p q = p.outcome ∙ sym q.outcome

pub depart_settled : {s : State} {a b : Outcome State Departed} → DepartGives s a → DepartGives s b → a ≡ b
depart_settled p q = p.outcome ∙ sym q.outcome

-- Reply, state and lent list.
pub burst_settled : {s : State} {n : ℕ} {before one two : List ℕ} {a b : Outcome State Count} → BurstGives s n before one a → BurstGives s n before two b
    → (a ≡ b) × (one ≡ two)
burst_settled p q = (p.outcome ∙ sym q.outcome, p.written ∙ sym q.written)
