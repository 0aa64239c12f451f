-- Where the flows and the line lie: first, for each flow, the sizes of its waiting packets, each less one; then, for each flow, its weight, surplus, slot
-- and how many packets wait; then the line.
use Rattle.std.specs.Prelude.{ℕ, zero, suc, ◌+◌, ◌*◌, List, [], ◌∷◌, ◌++◌, get_or, set, take, drop}
use Rattle.std.proofs.lemmas.List.Edits.{sets}
use Rattle.model.specs.Limits.{flow_limit}
use Rattle.steps.specs.Cells.{line_room}
use Rattle.steps.specs.declared.FlowCell.{FlowCell}
use Rattle.layout.specs.Bytes.{digits, number, sizes_room, with_sizes}

abbrev pub size_bytes : FlowCell → List ℕ
size_bytes x = digits sizes_room x.sizes

-- A flow's other numbers take so many bytes.
abbrev pub numbers_room : ℕ
numbers_room = 4

abbrev pub number_bytes : FlowCell → List ℕ
number_bytes x = x.weight ∷ x.surplus ∷ x.slot ∷ x.waiting ∷ []

-- What each flow has, one behind the other.
unfoldable pub joined : (FlowCell → List ℕ) → List FlowCell → List ℕ
joined part [] = []
joined part (x ∷ flows) = part x ++ joined part flows

unfoldable pub bytes_of : List FlowCell → List ℕ → List ℕ
bytes_of flows line = joined size_bytes flows ++ joined number_bytes flows ++ line

-- Where a flow's sizes begin, its other numbers, and the line; and how many bytes there are.
abbrev pub sizes_at : ℕ → ℕ
sizes_at f = sizes_room * f

abbrev pub numbers_at : ℕ → ℕ
numbers_at f = sizes_room * flow_limit + numbers_room * f

abbrev pub line_start : ℕ
line_start = sizes_room * flow_limit + numbers_room * flow_limit

abbrev pub cells_length : ℕ
cells_length = line_start + line_room

-- What is read there.
unfoldable pub flow_in : List ℕ → ℕ → FlowCell
flow_in cells f =
    record {
      weight = get_or cells (numbers_at f) 0;
      surplus = get_or cells (numbers_at f + 1) 0;
      slot = get_or cells (numbers_at f + 2) 0;
      waiting = get_or cells (numbers_at f + 3) 0;
      sizes = number (take sizes_room (drop (sizes_at f) cells));
    }

-- The n flows from flow f on.
unfoldable pub flows_from : List ℕ → ℕ → ℕ → List FlowCell
flows_from cells f zero = []
flows_from cells f (suc n) = flow_in cells f ∷ flows_from cells (suc f) n

unfoldable pub flows_in : List ℕ → List FlowCell
flows_in cells = flows_from cells 0 flow_limit

abbrev pub line_in : List ℕ → List ℕ
line_in cells = drop line_start cells

-- What is stored there: a flow whose weight lies there already; and a flow with its weight.
unfoldable pub with_flow : List ℕ → ℕ → FlowCell → List ℕ
with_flow cells f x = sets (with_sizes cells (sizes_at f) x.sizes) (numbers_at f + 1) (x.surplus ∷ x.slot ∷ x.waiting ∷ [])

unfoldable pub with_opened : List ℕ → ℕ → FlowCell → List ℕ
with_opened cells f x = with_flow (set cells (numbers_at f) x.weight) f x
