-- A flow, a round and a state by their parts, for the laws that take one apart.
use Prim.Native.Nat.{ℕ}
use mathlib.Core.List.{List}
use Rattle.model.specs.Model.{Flow, Round, Scheduler}
use Rattle.model.specs.declared.Serving.{Serving}

abbrev pub flow_made_of : ℕ → ℕ → ℕ → List ℕ → Flow
flow_made_of w σ k q = record { weight = w; surplus = σ; slot = k; queue = q }

abbrev pub round_made_of : List ℕ → ℕ → ℕ → ℕ → Serving → Round
round_made_of line visits mark running turn = record { line = line; visits = visits; mark = mark; running = running; turn = turn }

abbrev pub scheduler_made_of : List Flow → List ℕ → ℕ → ℕ → ℕ → Serving → Scheduler
scheduler_made_of flows line visits mark running turn = record { flows = flows; round = round_made_of line visits mark running turn }
