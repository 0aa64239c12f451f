-- Where packets lie, as offers and departures tell it: the flow, the slot there, and the size.
use Rattle.std.specs.Prelude.{ℕ, Result}
use Rattle.model.specs.Choose.{ok_with}
use Rattle.model.specs.Model.{Flow, Scheduler, flow_at}
use Rattle.model.specs.Steps.{first_size, next_slot_of, whose}
use Rattle.model.specs.Calls.{offer_answer}
use Rattle.model.specs.declared.Refusal.{Refusal}
use Rattle.steps.specs.declared.Place.{Place}

-- Where the packet lies that joins a flow at the end.
abbrev pub end_place : ℕ → Flow → ℕ → Place
end_place f x size = record { flow = f; slot = next_slot_of x; size = size }

-- Where a packet lies that is offered to a flow, or the refusal.
abbrev pub offered_place : ℕ → Flow → ℕ → Result Place Refusal
offered_place f x size = ok_with (offer_answer f size x) (end_place f x size)

abbrev pub joining_place : Scheduler → ℕ → ℕ → Result Place Refusal
joining_place s f size = offered_place f (flow_at s f) size

-- Where the first packet of a flow lies; of size 0 where none waits.
abbrev pub first_place : ℕ → Flow → Place
first_place f x = record { flow = f; slot = x.slot; size = first_size x }

-- Where the packet lies that a departure takes.
abbrev pub leaving_place : Scheduler → Place
leaving_place s = first_place (whose s.round) (flow_at s (whose s.round))
