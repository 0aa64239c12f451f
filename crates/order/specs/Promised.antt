-- What each public call promises: its reply and the state that it gives back are those of the model's call on the scheduler that the state stands for,
-- the place is that of the packet, and the state meets the premise of the next call.
use Rattle.std.specs.Prelude.{ℕ, ◌≡◌, List, Result}
use Rattle.model.specs.Model.{Scheduler, new_scheduler}
use Rattle.model.specs.Replies.{Answer, Count}
use Rattle.model.specs.Calls.{Burst, opened, offered, departed, burst}
use Rattle.model.specs.declared.Outcome.{Outcome}
use Rattle.model.specs.declared.Refusal.{Refusal}
use Rattle.order.specs.Encoding.{encode, view, Sound, state_with}
use Rattle.steps.specs.Places.{joining_place, leaving_place}
use Rattle.steps.specs.declared.Place.{Place}
use Rattle.steps.specs.declared.RoundCell.{RoundCell}
use Rattle.order.specs.State.{State}
use Rattle.order.specs.declared.Departed.{Departed}

-- An outcome of the model, as code gives it.
unfoldable pub answered_as : Outcome Scheduler Answer → Outcome State Answer
answered_as o = record { state = encode o.state; reply = o.reply }

unfoldable pub offered_as : Scheduler → ℕ → ℕ → Outcome State (Result Place Refusal)
offered_as s f size = record { state = encode (offered s f size).state; reply = joining_place s f size }

unfoldable pub departed_as : Scheduler → Outcome State Departed
departed_as s = record { state = encode (departed s).state; reply = record { reply = (departed s).reply; from = leaving_place s } }

unfoldable pub counted_as : Burst → Outcome State Count
counted_as b = record { state = encode b.state; reply = b.reply }

-- New and reset.
pub record NewGives (r : State) : Type 0 where
  pub outcome : r ≡ encode new_scheduler
  pub sound : Sound r

pub record OpenGives (s : State) (f weight : ℕ) (r : Outcome State Answer) : Type 0 where
  pub outcome : r ≡ answered_as (opened (view s) f weight)
  pub sound : Sound r.state

pub record OfferGives (s : State) (f size : ℕ) (r : Outcome State (Result Place Refusal)) : Type 0 where
  pub outcome : r ≡ offered_as (view s) f size
  pub sound : Sound r.state

pub record DepartGives (s : State) (r : Outcome State Departed) : Type 0 where
  pub outcome : r ≡ departed_as (view s)
  pub sound : Sound r.state

-- `before` and `list` are the lent list at entry and at exit.
pub record BurstGives (s : State) (n : ℕ) (before list : List ℕ) (r : Outcome State Count) : Type 0 where
  pub outcome : r ≡ counted_as (burst (view s) n before)
  pub written : list ≡ (burst (view s) n before).list
  pub sound : Sound r.state

-- What a call in place leaves in the bytes and the round lent, with its reply, as the same call on the state gives it.
abbrev pub left_by : {A : Type 0} → List ℕ → RoundCell → A → Outcome State A
left_by bytes r reply = record { state = state_with bytes r; reply = reply }
