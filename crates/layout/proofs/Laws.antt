-- What is read where flows and line were laid, and what a store there lays.
use Prim.Native.Nat.{ℕ, zero, suc, ◌+◌, ◌*◌, ◌^◌, ◌<◌}
use mathlib.Core.Path.{◌≡◌, refl, sym, ap, ◌∙◌}
use mathlib.Core.List.{List, [], ◌∷◌, ◌++◌, append_assoc}
use native.Mathlib.Omega.{arith}
use native.Mathlib.Nat.{add-zero, zero-add, suc-add, add-suc, le_of_suc-le-suc}
use lib.ListN.{length, get_or, set, take, drop, replicate, length-append, length-set, get_or-append}
use lib.Seq.{sets, length-sets, take_at, drop_at, get_or-drop, set-get_or, ext_get_or, drop-append-le, drop-append-add}
use Rattle.model.specs.Limits.{flow_limit}
use Rattle.steps.specs.Cells.{line_room}
use Rattle.steps.specs.declared.FlowCell.{FlowCell}
use Rattle.layout.specs.Bytes.{digits, number, sizes_room, with_sizes}
use Rattle.layout.specs.Layout.{size_bytes, numbers_room, number_bytes, joined, bytes_of, sizes_at, numbers_at, line_start, cells_length, flow_in, flows_from, flows_in, line_in, with_flow, with_opened}
use Rattle.layout.proofs.Bytes.{digits_length, number_of_digits, stored, stored_is_sets}
use Rattle.layout.proofs.Runs.{stores_in_first, stores_in_second, joined_length, joined_from, joined_stored}

-- what reading past the end of the flows would give
abbrev pub no_cell : FlowCell
no_cell = record { weight = 0; surplus = 0; slot = 0; waiting = 0; sizes = 0 }

-- its sizes fit the bytes that are kept for them
abbrev pub Fits : FlowCell → Type 0
Fits x = x.sizes < 2 ^ 64

pub with_flow_length : (cells : List ℕ) (f : ℕ) (x : FlowCell) → length (with_flow cells f x) ≡ length cells
unfolding with_flow with_sizes
with_flow_length cells f x =
    length-sets (sets cells (sizes_at f) (size_bytes x)) (numbers_at f + 1) (x.surplus ∷ x.slot ∷ x.waiting ∷ [])
    ∙ length-sets cells (sizes_at f) (size_bytes x)

pub with_opened_length : (cells : List ℕ) (f : ℕ) (x : FlowCell) → length (with_opened cells f x) ≡ length cells
unfolding with_opened
with_opened_length cells f x = with_flow_length (set cells (numbers_at f) x.weight) f x ∙ length-set cells (numbers_at f) x.weight

pub no_flows : bytes_of (replicate flow_limit no_cell) (replicate line_room 0) ≡ replicate cells_length 0
unfolding bytes_of joined digits
no_flows = refl

-- The flows that are read, by their numbers.
flow_further : (cells : List ℕ) (f n i : ℕ) → i < n → get_or (flows_from cells f n) i no_cell ≡ flow_in cells (f + i)
unfolding flows_from
flow_further cells f zero i h = absurd (omega arith)
flow_further cells f (suc n) zero h = ap (flow_in cells) (sym (add-zero f))
flow_further cells f (suc n) (suc i) h =
    flow_further cells (suc f) n i (le_of_suc-le-suc h) ∙ ap (flow_in cells) (suc-add f i ∙ sym (add-suc f i))

pub flow_among : (cells : List ℕ) (f : ℕ) → f < flow_limit → get_or (flows_in cells) f no_cell ≡ flow_in cells f
unfolding flows_in
flow_among cells f h = flow_further cells 0 flow_limit f h ∙ ap (flow_in cells) (zero-add f)

flows_further : (cells : List ℕ) (f n : ℕ) → length (flows_from cells f n) ≡ n
unfolding flows_from
flows_further cells f zero = refl
flows_further cells f (suc n) = ap suc (flows_further cells (suc f) n)

pub flows_count : (cells : List ℕ) → length (flows_in cells) ≡ flow_limit
unfolding flows_in
flows_count cells = flows_further cells 0 flow_limit

size_wide : (x : FlowCell) → length (size_bytes x) ≡ sizes_room
size_wide x = digits_length sizes_room x.sizes

number_wide : (x : FlowCell) → length (number_bytes x) ≡ numbers_room
number_wide x = refl

module _ (flows : List FlowCell) (all : length flows ≡ flow_limit) where
  size_bytes_length : length (joined size_bytes flows) ≡ sizes_room * flow_limit
  size_bytes_length = joined_length size_bytes sizes_room size_wide flows ∙ ap (λ (n : ℕ). sizes_room * n) all

  number_bytes_length : length (joined number_bytes flows) ≡ numbers_room * flow_limit
  number_bytes_length = joined_length number_bytes numbers_room number_wide flows ∙ ap (λ (n : ℕ). numbers_room * n) all

  flow_bytes : length (joined size_bytes flows ++ joined number_bytes flows) ≡ line_start
  flow_bytes = length-append (joined size_bytes flows) (joined number_bytes flows) ∙ omega (arith, size_bytes_length, number_bytes_length)

module _ (flows : List FlowCell) (line : List ℕ) (all : length flows ≡ flow_limit) where
  pub bytes_length : length line ≡ line_room → length (bytes_of flows line) ≡ cells_length
  unfolding bytes_of
  bytes_length h = length-append (joined size_bytes flows ++ joined number_bytes flows) line ∙ omega (arith, flow_bytes flows all)

  pub line_read : line_in (bytes_of flows line) ≡ line
  unfolding bytes_of
  line_read = drop_at (joined size_bytes flows ++ joined number_bytes flows) line line_start (flow_bytes flows all)

  sizes_there : (f : ℕ) → f < flow_limit → take sizes_room (drop (sizes_at f) (bytes_of flows line)) ≡ size_bytes (get_or flows f no_cell)
  unfolding bytes_of
  sizes_there f h =
      let sizes = joined size_bytes flows in
      let numbers = joined number_bytes flows in
      let x = get_or flows f no_cell in
      let behind = joined size_bytes (drop (suc f) flows) in
      ap (λ (l : List ℕ). take sizes_room (drop (sizes_at f) l)) (append_assoc sizes numbers line)
      ∙ ap (take sizes_room) (drop-append-le (sizes_at f) sizes (numbers ++ line) (omega (arith, size_bytes_length flows all)))
      ∙ ap (λ (l : List ℕ). take sizes_room (l ++ (numbers ++ line))) (joined_from size_bytes sizes_room size_wide flows f no_cell (omega arith))
      ∙ ap (take sizes_room) (append_assoc (size_bytes x) behind (numbers ++ line))
      ∙ take_at (size_bytes x) (behind ++ (numbers ++ line)) sizes_room (size_wide x)

  -- Its other numbers lie there, and then those of the flows behind.
  numbers_there : (f : ℕ) → f < flow_limit
      → drop (numbers_at f) (bytes_of flows line) ≡ number_bytes (get_or flows f no_cell) ++ (joined number_bytes (drop (suc f) flows) ++ line)
  unfolding bytes_of
  numbers_there f h =
      let sizes = joined size_bytes flows in
      let numbers = joined number_bytes flows in
      let behind = joined number_bytes (drop (suc f) flows) in
      ap (drop (numbers_at f)) (append_assoc sizes numbers line)
      ∙ ap (λ (n : ℕ). drop (n + numbers_room * f) (sizes ++ (numbers ++ line))) (sym (size_bytes_length flows all))
      ∙ drop-append-add sizes (numbers ++ line) (numbers_room * f)
      ∙ drop-append-le (numbers_room * f) numbers line (omega (arith, number_bytes_length flows all))
      ∙ ap (λ (l : List ℕ). l ++ line) (joined_from number_bytes numbers_room number_wide flows f no_cell (omega arith))
      ∙ append_assoc (number_bytes (get_or flows f no_cell)) behind line

  number_there : (f : ℕ) → f < flow_limit → (i : ℕ) → i < numbers_room → get_or (bytes_of flows line) (numbers_at f + i) 0 ≡ get_or (number_bytes (get_or flows f no_cell)) i 0
  number_there f h i k =
      sym (get_or-drop (numbers_at f) (bytes_of flows line) i 0)
      ∙ ap (λ (l : List ℕ). get_or l i 0) (numbers_there f h)
      ∙ get_or-append (number_bytes (get_or flows f no_cell)) (joined number_bytes (drop (suc f) flows) ++ line) 0 i k

  weight_there : (f : ℕ) → f < flow_limit → get_or (bytes_of flows line) (numbers_at f) 0 ≡ (get_or flows f no_cell).weight
  weight_there f h = ap (λ (n : ℕ). get_or (bytes_of flows line) n 0) (sym (add-zero (numbers_at f))) ∙ number_there f h 0 (omega arith)

  pub flow_read : (f : ℕ) → f < flow_limit → Fits (get_or flows f no_cell) → flow_in (bytes_of flows line) f ≡ get_or flows f no_cell
  unfolding flow_in
  flow_read f h fits =
      let sizes = ap number (sizes_there f h) ∙ number_of_digits sizes_room (get_or flows f no_cell).sizes fits in
      λ i.
      record {
        weight = weight_there f h i;
        surplus = number_there f h 1 (omega arith) i;
        slot = number_there f h 2 (omega arith) i;
        waiting = number_there f h 3 (omega arith) i;
        sizes = sizes i;
      }

  pub flows_read : ((f : ℕ) → f < flow_limit → Fits (get_or flows f no_cell)) → flows_in (bytes_of flows line) ≡ flows
  flows_read fits =
      let cells = bytes_of flows line in
      let count = flows_count cells in
      ext_get_or no_cell (flows_in cells) flows (count ∙ sym all)
      (λ (f : ℕ) h. let k : f < flow_limit = omega arith in flow_among cells f k ∙ flow_read f k (fits f k))

pub line_stored : (flows : List FlowCell) (line then : List ℕ) → length flows ≡ flow_limit → take line_start (bytes_of flows line) ++ then ≡ bytes_of flows then
unfolding bytes_of
line_stored flows line then all =
    ap (λ (l : List ℕ). l ++ then) (take_at (joined size_bytes flows ++ joined number_bytes flows) line line_start (flow_bytes flows all))

module _ (flows : List FlowCell) (line : List ℕ) (all : length flows ≡ flow_limit) (f : ℕ) (h : f < flow_limit) (x : FlowCell) where
  -- The weight is stored among the numbers, then the sizes among the sizes, then the rest behind the weight.
  pub opened_stored : with_opened (bytes_of flows line) f x ≡ bytes_of (set flows f x) line
  unfolding with_opened with_flow with_sizes bytes_of
  opened_stored =
      let sizes = joined size_bytes flows in
      let numbers = joined number_bytes flows in
      let then = set flows f x in
      let start = sizes_room * flow_limit in
      let at = numbers_room * f in
      let rest = x.surplus ∷ x.slot ∷ x.waiting ∷ [] in
      let weighed = set numbers at x.weight in
      let long = number_bytes_length flows all in
      let weighedLong = length-set numbers at x.weight in
      let weight : set (sizes ++ numbers ++ line) (start + at) x.weight ≡ sizes ++ weighed ++ line =
      stores_in_second sizes numbers line start at (x.weight ∷ []) (size_bytes_length flows all) (omega arith) in
      let size : sets (sizes ++ weighed ++ line) (sizes_at f) (size_bytes x) ≡ joined size_bytes then ++ weighed ++ line =
      stores_in_first sizes weighed line (sizes_at f) (size_bytes x) (omega (arith, size_wide x, size_bytes_length flows all))
      ∙ ap (λ (l : List ℕ). l ++ weighed ++ line) (joined_stored size_bytes sizes_room size_wide flows f x (omega arith)) in
      let others : sets (joined size_bytes then ++ weighed ++ line) (start + suc at) rest ≡ joined size_bytes then ++ joined number_bytes then ++ line =
      stores_in_second (joined size_bytes then) weighed line start (suc at) rest (size_bytes_length then (length-set flows f x ∙ all)) (omega arith)
      ∙ ap (λ (l : List ℕ). joined size_bytes then ++ l ++ line) (joined_stored number_bytes numbers_room number_wide flows f x (omega arith)) in
      let behind : numbers_at f + 1 ≡ start + suc at = omega arith in
      ap (λ (l : List ℕ). sets (sets l (sizes_at f) (size_bytes x)) (numbers_at f + 1) rest) weight
      ∙ ap (λ (l : List ℕ). sets l (numbers_at f + 1) rest) size
      ∙ ap (λ (n : ℕ). sets (joined size_bytes then ++ weighed ++ line) n rest) behind
      ∙ others

  pub flow_stored : x.weight ≡ (get_or flows f no_cell).weight → with_flow (bytes_of flows line) f x ≡ bytes_of (set flows f x) line
  unfolding with_opened
  flow_stored same =
      let cells = bytes_of flows line in
      let left : set cells (numbers_at f) x.weight ≡ cells =
      ap (set cells (numbers_at f)) (same ∙ sym (weight_there flows line all f h)) ∙ set-get_or cells (numbers_at f) 0 in
      ap (λ (l : List ℕ). with_flow l f x) (sym left) ∙ opened_stored

-- What the code stores of a flow whose weight lies there.
pub flow_kept : (cells : List ℕ) (f : ℕ) (x : FlowCell) {then : List ℕ} → then ≡ with_sizes cells (sizes_at f) x.sizes
    → stored then (numbers_at f) 1 (x.surplus ∷ x.slot ∷ x.waiting ∷ []) ≡ with_flow cells f x
unfolding with_flow
flow_kept cells f x {then} e =
    let rest = x.surplus ∷ x.slot ∷ x.waiting ∷ [] in
    stored_is_sets then (numbers_at f) 1 rest ∙ ap (λ (l : List ℕ). sets l (numbers_at f + 1) rest) e
