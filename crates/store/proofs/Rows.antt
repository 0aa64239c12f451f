-- Bench rows of the store layer: document 01's row on the store's length, and each pair of its refusals that apply at once, 8 before 1, 4, 5, 6 and 7, and 7
-- before idle. Buffers hold zeros; a refusal looks at lengths alone. And where some slots begin.
use Prim.Native.Nat.{ℕ, zero, suc}
use mathlib.Core.Path.{◌≡◌, refl}
use mathlib.Core.List.{List, [], ◌∷◌, map}
use lib.ListN.{replicate}
use Rattle.model.specs.Model.{Scheduler, new_scheduler}
use Rattle.model.specs.Steps.{packet_joined, flow_lined}
use Rattle.model.specs.Calls.{put, unless_refused, opened, offered}
use Rattle.store.specs.Slots.{slot_start}
use Rattle.store.specs.Calls.{store_offer_answer, store_depart_answer}
use Rattle.model.specs.Replies.{of_answer}

-- A flow, a packet's length and the store's, with the number; or the store's length and the outgoing buffer's, with the number, 0 where nothing refuses; or
-- a flow and a slot, with the byte at which it begins.
pub data Row : Type 0 where
  offer : ℕ → ℕ → ℕ → ℕ → Row
  departure : ℕ → ℕ → ℕ → Row
  slot : ℕ → ℕ → ℕ → Row

abbrev zeros : ℕ → List ℕ
zeros n = replicate n 0

-- Flow 0 is open and eight packets of it wait; no other flow is open.
unfoldable pub full : Scheduler
full = filled 8 (opened new_scheduler 0 1).state
  where
    filled : ℕ → Scheduler → Scheduler
    filled zero s = s
    filled (suc n) s = filled n (offered s 0 7).state

unfoldable pub rows : List Row
rows =
    departure 65535 255 8 ∷ departure 65535 256 8 ∷ departure 65537 255 8 ∷ departure 65536 255 7 ∷ departure 65536 256 0
    ∷ offer 32 0 65535 8 ∷ offer 1 0 65535 8 ∷ offer 0 0 65535 8 ∷ offer 0 7 65535 8
    ∷ offer 32 0 65536 1 ∷ offer 1 0 65536 4 ∷ offer 0 0 65536 5 ∷ offer 0 257 65536 5 ∷ offer 0 256 65536 6
    ∷ slot 0 0 0 ∷ slot 0 1 256 ∷ slot 0 7 1792 ∷ slot 1 0 2048 ∷ slot 31 7 65280
    ∷ []

unfoldable pub recomputed : Row → Row
recomputed (offer f size length number) = offer f size length (of_answer (store_offer_answer full f (zeros size) (zeros length))).refusal
recomputed (departure length room number) = departure length room (of_answer (store_depart_answer (zeros length) (zeros room))).refusal
recomputed (slot f k byte) = slot f k (slot_start f k)

pub store_rows : map recomputed rows ≡ rows
unfolding rows recomputed slot_start full new_scheduler packet_joined flow_lined put unless_refused opened offered
store_rows = refl
