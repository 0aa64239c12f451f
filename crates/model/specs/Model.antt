-- The state that document 01's steps speak of. A flow is known by its number, its place in `flows`.
use Rattle.std.specs.Prelude.{ℕ, List, [], get_or, replicate}
use Rattle.model.specs.Limits.{flow_limit}
use Rattle.model.specs.declared.Serving.{Serving}
use Rattle.model.specs.declared.Serving.TheVariants.{NoTurn}

-- One flow. Its weight is 0 while it is not open.
pub record Flow : Type 0 where
  pub weight : ℕ
  pub surplus : ℕ
  -- the slot of its first waiting packet or, where none waits, of the next to come
  pub slot : ℕ
  -- the sizes of the packets that wait, the first to leave first
  pub queue : List ℕ

-- All that belongs to no one flow.
pub record Round : Type 0 where
  -- active flows in order
  pub line : List ℕ
  -- visits left in the round
  pub visits : ℕ
  -- the round's mark
  pub mark : ℕ
  -- the running mark
  pub running : ℕ
  pub turn : Serving

pub record Scheduler : Type 0 where
  pub flows : List Flow
  pub round : Round

-- A flow that is not open, as every flow of a new scheduler is.
abbrev pub closed_flow : Flow
closed_flow = record { weight = 0; surplus = 0; slot = 0; queue = [] }

abbrev pub new_round : Round
new_round = record { line = []; visits = 0; mark = 0; running = 0; turn = NoTurn }

-- No flow open, both marks 0, no turn, every slot position 0.
unfoldable pub new_scheduler : Scheduler
new_scheduler = record { flows = replicate flow_limit closed_flow; round = new_round }

-- The flow with number f; a number that no flow has stands for a flow that is not open.
abbrev pub flow_at : Scheduler → ℕ → Flow
flow_at s f = get_or s.flows f closed_flow
