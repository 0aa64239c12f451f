-- Where bytes lie: every packet that waits has a slot of its flow, and the bytes of the packet lie in the store from the slot's start.
-- Only `slot_start` says where that is.
use Rattle.std.specs.Prelude.{ℕ, ◌+◌, ◌*◌, List, ◌++◌, length, take, drop}
use Rattle.model.specs.Limits.{size_limit}

-- the store is exactly 65,536 bytes
abbrev pub store_length : ℕ
store_length = 65536

-- the outgoing buffer has room for every packet
abbrev pub out_limit : ℕ
out_limit = size_limit

-- Slot k of flow f begins at byte 2,048 × f + 256 × k.
unfoldable pub slot_start : ℕ → ℕ → ℕ
slot_start f k = 2048 * f + 256 * k

-- The store with a packet in slot k of flow f. Only the packet's own bytes are written.
unfoldable pub written : List ℕ → ℕ → ℕ → List ℕ → List ℕ
written store f k packet = take (slot_start f k) store ++ (packet ++ drop (slot_start f k + length packet) store)

-- The n bytes that lie from the start of slot k of flow f.
unfoldable pub held : List ℕ → ℕ → ℕ → ℕ → List ℕ
held store f k n = take n (drop (slot_start f k) store)
