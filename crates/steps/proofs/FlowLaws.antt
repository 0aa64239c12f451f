-- From what a function on one flow stores to what the model's step says.
use Prim.Native.Nat.{ℕ, ◌+◌, ◌*◌, ◌-◌, ◌/◌, ◌%◌, ◌^◌, ◌≤◌, ◌<◌}
use mathlib.Core.Path.{◌≡◌, refl, sym, ap, ◌∙◌}
use mathlib.Core.List.{List, [], ◌∷◌, ◌++◌}
use native.Mathlib.Omega.{arith}
use native.Mathlib.Numerals.{sub-one}
use lib.ListN.{length, get_or, length-append, length-drop}
use Rattle.model.specs.Limits.{weight_limit, queue_limit, size_limit}
use Rattle.model.specs.Steps.{packet_joined, surplus_cleared, first_size, first_left, excess_kept}
use Rattle.model.proofs.Flows.{sizes_joined, none_is_empty}
use Rattle.model.proofs.Choosing.{empty_by_count, waiting_by_count}
use Rattle.steps.specs.Cells.{packed, encode_flow, view_flow}
use Rattle.steps.specs.Premises.{FlowReady, HasFirst, HasRoom}
use Rattle.steps.specs.Places.{first_place, end_place}
use Rattle.steps.specs.declared.FlowCell.{FlowCell}
use Rattle.steps.proofs.Packed.{packed_joined, packed_fits, packed_first, packed_left}
use Rattle.steps.proofs.Encoded.{waiting_is, sizes_are}

-- Two flows' cells with equal parts are equal.
same_cell : {w w' σ σ' k k' n n' m m' : ℕ} → w ≡ w' → σ ≡ σ' → k ≡ k' → n ≡ n' → m ≡ m'
    → ◌≡◌ {A = FlowCell} (record { weight = w; surplus = σ; slot = k; waiting = n; sizes = m }) (record { weight = w'; surplus = σ'; slot = k'; waiting = n'; sizes = m' })
same_cell a b c d e = λ i. record { weight = a i; surplus = b i; slot = c i; waiting = d i; sizes = e i }

-- One less than a size, added at the next place.
size_added : (q : List ℕ) (m n worth size : ℕ) → m ≡ packed q → n ≡ length q → worth ≡ size_limit ^ n
    → m + worth * (size - 1) ≡ packed (q ++ (size ∷ []))
size_added q m n place size e k p = rw (e, p, k, sub-one) (sym (packed_joined q size))

module _ (x : FlowCell) (size : ℕ) (h : HasRoom x size) (worth : ℕ) (p : worth ≡ size_limit ^ x.waiting) where
  added_sizes : x.sizes + worth * (size - 1) ≡ packed ((view_flow x).queue ++ (size ∷ []))
  added_sizes = size_added (view_flow x).queue x.sizes x.waiting worth size (sizes_are x h.ready.form) (waiting_is x h.ready.form) p

  one_more : x.waiting + 1 ≡ length ((view_flow x).queue ++ (size ∷ []))
  one_more = omega (arith, waiting_is x h.ready.form, length-append (view_flow x).queue (size ∷ []))

  pub joined_fits : x.sizes + worth * (size - 1) < 2 ^ 64
  joined_fits =
      omega (arith, added_sizes, packed_fits (sizes_joined h.ready.rules.sizes_in_range h.size_positive h.size_small) (omega (arith, one_more, h.room)))

  pub joined_first : x.waiting ≡ 0
      → record { weight = x.weight; surplus = 0; slot = x.slot; waiting = x.waiting + 1; sizes = x.sizes + worth * (size - 1) }
      ≡ encode_flow (packet_joined (view_flow x) size)
  unfolding encode_flow packet_joined view_flow
  joined_first e =
      same_cell refl (sym (empty_by_count (view_flow x).queue 0 x.surplus (omega (arith, waiting_is x h.ready.form)))) refl one_more added_sizes

  pub joined_behind : (x.waiting ≡ 0 → ⊥)
      → record { weight = x.weight; surplus = x.surplus; slot = x.slot; waiting = x.waiting + 1; sizes = x.sizes + worth * (size - 1) }
      ≡ encode_flow (packet_joined (view_flow x) size)
  unfolding encode_flow packet_joined view_flow
  joined_behind d =
      same_cell refl (sym (waiting_by_count (view_flow x).queue 0 x.surplus (λ e. d (waiting_is x h.ready.form ∙ e)))) refl one_more added_sizes

module _ (x : FlowCell) (h : FlowReady x) where
  pub weight_small : x.weight ≤ weight_limit
  unfolding view_flow
  weight_small = h.rules.weight_in_range

  -- A change of the surplus alone.
  with_surplus : (σ : ℕ) → record { weight = x.weight; surplus = σ; slot = x.slot; waiting = x.waiting; sizes = x.sizes }
      ≡ encode_flow (record { weight = (view_flow x).weight; surplus = σ; slot = (view_flow x).slot; queue = (view_flow x).queue })
  unfolding encode_flow view_flow
  with_surplus σ = same_cell refl refl refl (waiting_is x h.form) (sizes_are x h.form)

  pub cleared_law : record { weight = x.weight; surplus = 0; slot = x.slot; waiting = x.waiting; sizes = x.sizes }
      ≡ encode_flow (surplus_cleared (view_flow x))
  unfolding surplus_cleared
  cleared_law = with_surplus 0

  -- With none waiting nothing is kept.
  pub nothing_kept : (allowed sent : ℕ) → x.waiting ≡ 0 → encode_flow (surplus_cleared (view_flow x)) ≡ encode_flow (excess_kept (view_flow x) allowed sent)
  unfolding excess_kept surplus_cleared
  nothing_kept allowed sent e =
      ap (λ (σ : ℕ). encode_flow (record { weight = (view_flow x).weight; surplus = σ; slot = (view_flow x).slot; queue = (view_flow x).queue }))
      (sym (empty_by_count (view_flow x).queue 0 (sent - allowed) (sym (waiting_is x h.form) ∙ e)))

  pub excess_law : (allowed sent : ℕ) → (x.waiting ≡ 0 → ⊥)
      → record { weight = x.weight; surplus = sent - allowed; slot = x.slot; waiting = x.waiting; sizes = x.sizes }
      ≡ encode_flow (excess_kept (view_flow x) allowed sent)
  unfolding excess_kept
  excess_law allowed sent d =
      rw (waiting_by_count (view_flow x).queue 0 (sent - allowed) (λ e. d (waiting_is x h.form ∙ e))) (with_surplus (sent - allowed))

module _ (x : FlowCell) (h : HasFirst x) where
  some : 0 < length (view_flow x).queue
  some = omega (arith, waiting_is x h.ready.form, h.waits)

  pub first_size_law : x.sizes % size_limit + 1 ≡ first_size (view_flow x)
  first_size_law = ap (λ (m : ℕ). m % size_limit + 1) (sizes_are x h.ready.form) ∙ packed_first h.ready.rules.sizes_in_range some

  pub first_left_law : record { weight = x.weight; surplus = x.surplus; slot = (x.slot + 1) % queue_limit; waiting = x.waiting - 1; sizes = x.sizes / size_limit }
      ≡ encode_flow (first_left (view_flow x))
  unfolding encode_flow first_left view_flow
  first_left_law =
      same_cell refl refl refl
      (ap (λ (n : ℕ). n - 1) (waiting_is x h.ready.form) ∙ sym (length-drop 1 (view_flow x).queue))
      (ap (λ (m : ℕ). m / size_limit) (sizes_are x h.ready.form) ∙ packed_left h.ready.rules.sizes_in_range some)

-- Where the first packet lies, by whether one waits.
module _ (x : FlowCell) (ready : FlowReady x) (f : ℕ) where
  pub no_first_place : x.waiting ≡ 0 → record { flow = f; slot = x.slot; size = 0 } ≡ first_place f (view_flow x)
  unfolding view_flow
  no_first_place e =
      ap (λ (q : List ℕ). record { flow = f; slot = x.slot; size = get_or q 0 0 }) (sym (none_is_empty (view_flow x).queue (sym (waiting_is x ready.form) ∙ e)))

  pub some_first_place : (x.waiting ≡ 0 → ⊥) → (n : ℕ) → (HasFirst x → n ≡ first_size (view_flow x))
      → record { flow = f; slot = x.slot; size = n } ≡ first_place f (view_flow x)
  unfolding view_flow
  some_first_place d n h =
      ap (λ (k : ℕ). record { flow = f; slot = x.slot; size = k }) (h (record { ready = ready; waits = omega arith }))

-- Where a packet lies once it has joined: slots follow each other, first to last.
module _ (x : FlowCell) (ready : FlowReady x) where
  pub slot_fits : (x.slot < queue_limit) × (x.waiting ≤ queue_limit)
  unfolding view_flow
  slot_fits = (ready.rules.slot_in_range, omega (arith, waiting_is x ready.form, ready.rules.waiting_in_range))

  pub end_place_law : (f size : ℕ) → record { flow = f; slot = (x.slot + x.waiting) % queue_limit; size = size } ≡ end_place f (view_flow x) size
  unfolding view_flow
  end_place_law f size = ap (λ (n : ℕ). record { flow = f; slot = (x.slot + n) % queue_limit; size = size }) (waiting_is x ready.form)
