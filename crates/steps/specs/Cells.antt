-- How the cells of a state stand for the model's flows and its line. The line lies in an array from the start, with zeros behind, in one cell more than
-- there are flows. The sizes of a flow's waiting packets, each less one, are the digits of one number in base 256, the first packet's lowest.
use Rattle.std.specs.Prelude.{ℕ, zero, suc, pred, ◌+◌, ◌*◌, ◌-◌, ◌/◌, ◌%◌, List, [], ◌∷◌, ◌++◌, length, replicate}
use Rattle.model.specs.Limits.{flow_limit, size_limit}
use Rattle.model.specs.Model.{Flow}
use Rattle.steps.specs.declared.FlowCell.{FlowCell}

-- A list of bytes in n cells.
unfoldable pub cells : ℕ → List ℕ → List ℕ
cells n l = l ++ replicate (n - length l) 0

-- Sizes as one number; and back from it, by how many there are, since a size of 1 is a digit 0 and a number shows no zeros above its highest digit.
unfoldable pub packed : List ℕ → ℕ
packed [] = 0
packed (p ∷ q) = pred p + size_limit * packed q

unfoldable pub unpacked : ℕ → ℕ → List ℕ
unpacked zero n = []
unpacked (suc k) n = suc (n % size_limit) ∷ unpacked k (n / size_limit)

unfoldable pub encode_flow : Flow → FlowCell
encode_flow x =
    record {
      weight = x.weight;
      surplus = x.surplus;
      slot = x.slot;
      waiting = length x.queue;
      sizes = packed x.queue;
    }

unfoldable pub view_flow : FlowCell → Flow
view_flow c = record { weight = c.weight; surplus = c.surplus; slot = c.slot; queue = unpacked c.waiting c.sizes }

-- How many cells the line has.
abbrev pub line_room : ℕ
line_room = flow_limit + 1
