-- The state as code keeps it stands for one scheduler of the model, and a scheduler has one form only.
use Rattle.std.specs.Prelude.{ℕ, ◌≡◌, List, map, length, take}
use Rattle.model.specs.Model.{Scheduler}
use Rattle.model.specs.Rules.{Rules}
use Rattle.steps.specs.Cells.{cells, line_room, encode_flow, view_flow}
use Rattle.steps.specs.declared.RoundCell.{RoundCell}
use Rattle.layout.specs.Layout.{bytes_of, flows_in, line_in}
use Rattle.order.specs.State.{State}

unfoldable pub encode : Scheduler → State
encode s =
    record {
      cells = bytes_of (map encode_flow s.flows) (cells line_room s.round.line);
      round =
          record {
            length = length s.round.line;
            visits = s.round.visits;
            mark = s.round.mark;
            running = s.round.running;
            turn = s.round.turn;
          };
    }

-- The scheduler that a state stands for.
unfoldable pub view : State → Scheduler
view c =
    record {
      flows = map view_flow (flows_in c.cells);
      round =
          record {
            line = take c.round.length (line_in c.cells);
            visits = c.round.visits;
            mark = c.round.mark;
            running = c.round.running;
            turn = c.round.turn;
          };
    }

-- What is so of every state that came from a new scheduler, a reset or an earlier reply: it has its one form, and document 01's rules hold of the scheduler
-- that it stands for. The struct keeps it, so no call of the order layer asks for it; those in place, which have its parts lent, do.
pub record Sound (c : State) : Type 0 where
  pub form : c ≡ encode (view c)
  pub rules : Rules (view c)

-- The state whose bytes are lent to a call.
abbrev pub state_with : List ℕ → RoundCell → State
state_with bytes r = record { cells = bytes; round = r }
