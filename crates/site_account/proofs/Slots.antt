-- The slots that a flow's packets take, over any list of store calls.
use Prim.Native.Nat.{ℕ, ◌+◌, ◌%◌}
use mathlib.Core.Path.{◌≡◌, refl, sym, ap, ap₂, ◌∙◌}
use mathlib.Core.List.{List, [], ◌∷◌, ◌++◌}
use mathlib.Core.Bool.{Bool, true, false, cond}
use native.Mathlib.Omega.{arith}
use lib.ListN.{length, length-append}
use lib.Dec.{eqb}
use Rattle.model.specs.Limits.{queue_limit}
use Rattle.model.specs.Model.{Scheduler, flow_at}
use Rattle.model.specs.Steps.{next_slot, next_slot_of}
use Rattle.model.specs.Chain.{chain}
use Rattle.model.specs.OrderCalls.{Packet as SizedPacket, sizes_of, packets_of, order_calls}
use Rattle.model.proofs.Chains as OnSizes
use Rattle.model.proofs.Demand2.{nothing_lost}
use Rattle.model.proofs.Slots.{slots_in_turn}
use Rattle.store.specs.Slots.{store_length}
use Rattle.store.specs.StoreCalls.{StoreCall, Packet, store_calls, bytes_of, held_from, waiting_bytes}
use Rattle.store.proofs.Kept.{StoreHistory, start, bytes_kept}
use Rattle.store.proofs.OnSizes.{all_on_sizes}
use Rattle.site_account.proofs.Packets.{sized}
use Rattle.site_account.proofs.Beside.{Beside, go_beside}
use Rattle.site_account.proofs.Agreement.{start_beside}

-- As many packets of a flow, told by bytes or by sizes.
as_many : (f : ℕ) (l : List Packet) → length (bytes_of f l) ≡ length (sizes_of f (sized l))
unfolding bytes_of sizes_of
as_many f [] = refl
as_many f (p ∷ l) = by (eqb p.flow f) (as_many f l)
  where
    by : (b : Bool) → length (bytes_of f l) ≡ length (sizes_of f (sized l))
        → length (cond b (p.bytes ∷ []) [] ++ bytes_of f l) ≡ length (cond b (length p.bytes ∷ []) [] ++ sizes_of f (sized l))
    by true more = omega arith
    by false more = more

as_many_wait : (store : List ℕ) (f k : ℕ) (q : List ℕ) → length (held_from store f k q) ≡ length q
unfolding held_from
as_many_wait store f k [] = refl
as_many_wait store f k (n ∷ q) = omega (arith, as_many_wait store f (next_slot k) q)

module _ (first : List ℕ) (whole : length first ≡ store_length) (calls : List StoreCall) (f : ℕ) where
  abbrev h : StoreHistory
  h = chain store_calls (start first) calls

  abbrev k : OnSizes.OrderHistory
  k = chain order_calls OnSizes.start (all_on_sizes calls)

  both : Beside h k
  both = (go_beside calls (start first) OnSizes.start (start_beside first whole)).ends

  waiting_count : length (waiting_bytes h.state.keeper h.state.store f) ≡ length (flow_at k.state f).queue
  unfolding waiting_bytes
  waiting_count =
      as_many_wait h.state.store f (flow_at h.state.keeper f).slot (flow_at h.state.keeper f).queue
      ∙ ap (λ (s : Scheduler). length (flow_at s f).queue) both.same_state

  -- Both layers have accepted as many packets of the flow: as many have left, and as many wait.
  accepted_count : length (bytes_of f h.accepted) ≡ length (sizes_of f k.accepted)
  accepted_count =
      ap length (bytes_kept first whole calls f)
      ∙ length-append (bytes_of f h.left) (waiting_bytes h.state.keeper h.state.store f)
      ∙ ap₂ (λ (m n : ℕ). m + n) (as_many f h.left ∙ ap (λ (l : List SizedPacket). length (sizes_of f l)) both.same_left) waiting_count
      ∙ sym (ap length (nothing_lost (all_on_sizes calls) f) ∙ length-append (sizes_of f (packets_of k.left)) (flow_at k.state f).queue)

  -- The next packet of a flow takes the slot whose number is how many were accepted since the last reset, mod 8.
  pub store_slots_in_turn : next_slot_of (flow_at h.state.keeper f) ≡ length (bytes_of f h.accepted) % queue_limit
  store_slots_in_turn =
      ap (λ (s : Scheduler). next_slot_of (flow_at s f)) both.same_state
      ∙ slots_in_turn (all_on_sizes calls) f
      ∙ ap (λ (n : ℕ). n % queue_limit) (sym accepted_count)
