-- Where bytes lie. `written` and `held` are opened here alone, and `slot_start` here and where the code computes it: a packet is held where it was
-- written, and slots are apart.
use Prim.Native.Nat.{ℕ, ◌+◌, ◌-◌, ◌≤◌, ◌<◌}
use mathlib.Core.Path.{◌≡◌, refl, sym, ap, ap₂, ◌∙◌}
use mathlib.Core.List.{List, [], ◌++◌, append_assoc, append-nil}
use native.Mathlib.Omega.{arith}
use native.Mathlib.Decide.{dec_le}
use lib.ListN.{length, take, drop, length-append, length-drop, take-append-drop, drop_of_length-le}
use lib.Seq.{take_all, length-take-le, take-append-le, drop-append-le, drop-append-add, drop-drop, take-append_seam, drop_at}
use Rattle.model.specs.Limits.{flow_limit, queue_limit, size_limit}
use Rattle.store.specs.Slots.{store_length, slot_start, written, held}

-- Nothing is held in no bytes.
pub held_nothing : (store : List ℕ) (f k : ℕ) → held store f k 0 ≡ []
unfolding held
held_nothing store f k = refl

-- A slot has room for every packet.
pub slot_in_store : (f k n : ℕ) → f < flow_limit → k < queue_limit → n ≤ size_limit → slot_start f k + n ≤ store_length
unfolding slot_start
slot_in_store f k n a b c = omega arith

-- What a part of a list has does not depend on what follows the part.
part_before : (xs ys : List ℕ) (a n : ℕ) → a + n ≤ length xs → take n (drop a (xs ++ ys)) ≡ take n (drop a xs)
part_before xs ys a n h =
    ap (take n) (drop-append-le a xs ys (omega arith)) ∙ take-append-le n (drop a xs) ys (omega (arith, length-drop a xs))

-- Nor on what stands before it.
part_behind : (xs ys : List ℕ) (a n : ℕ) → length xs ≤ a → take n (drop a (xs ++ ys)) ≡ take n (drop (a - length xs) ys)
part_behind xs ys a n h =
    let at : a ≡ length xs + (a - length xs) = omega arith in
    ap (λ (k : ℕ). take n (drop k (xs ++ ys))) at ∙ ap (take n) (drop-append-add xs ys (a - length xs))

-- A packet at byte b, and the n bytes from byte a on.
module _ (store packet : List ℕ) (a b n : ℕ) (fits : b + length packet ≤ length store) where
  abbrev pasted : List ℕ
  pasted = take b store ++ (packet ++ drop (b + length packet) store)

  part_kept_before : a + n ≤ b → take n (drop a pasted) ≡ take n (drop a store)
  part_kept_before h =
      part_before (take b store) (packet ++ drop (b + length packet) store) a n (omega (arith, length-take-le b store (omega arith)))
      ∙ sym (part_before (take b store) (drop b store) a n (omega (arith, length-take-le b store (omega arith))))
      ∙ ap (λ (l : List ℕ). take n (drop a l)) (take-append-drop b store)

  up_to_the_end : length (take b store ++ packet) ≡ b + length packet
  up_to_the_end = omega (arith, length-append (take b store) packet, length-take-le b store (omega arith))

  part_kept_behind : b + length packet ≤ a → take n (drop a pasted) ≡ take n (drop a store)
  part_kept_behind h =
      let there : b + length packet + (a - length (take b store ++ packet)) ≡ a = omega (arith, up_to_the_end) in
      ap (λ (l : List ℕ). take n (drop a l)) (sym (append_assoc (take b store) packet (drop (b + length packet) store)))
      ∙ part_behind (take b store ++ packet) (drop (b + length packet) store) a n (omega (arith, up_to_the_end))
      ∙ ap (take n) (drop-drop (a - length (take b store ++ packet)) (b + length packet) store)
      ∙ ap (λ (k : ℕ). take n (drop k store)) there

  pasted_length : length pasted ≡ length store
  pasted_length =
      omega (arith, length-append (take b store) (packet ++ drop (b + length packet) store), length-append packet (drop (b + length packet) store), length-take-le b store (omega arith), length-drop (b + length packet) store)

-- As many bytes are held as asked.
pub held_length : (store : List ℕ) (f k n : ℕ) → length store ≡ store_length → f < flow_limit → k < queue_limit → n ≤ size_limit
    → length (held store f k n) ≡ n
unfolding held
held_length store f k n all a b c =
    length-take-le n (drop (slot_start f k) store) (omega (arith, length-drop (slot_start f k) store, slot_in_store f k n a b c))

module _ (store packet : List ℕ) (all : length store ≡ store_length) (fits : length packet ≤ size_limit) where
  -- A write leaves the store's length.
  pub written_length : (f k : ℕ) → f < flow_limit → k < queue_limit → length (written store f k packet) ≡ store_length
  unfolding written
  written_length f k a b =
      pasted_length store packet 0 (slot_start f k) 0 (omega (arith, slot_in_store f k (length packet) a b fits)) ∙ all

  -- A packet is held where it was written.
  pub held_where_written : (f k : ℕ) → f < flow_limit → k < queue_limit → held (written store f k packet) f k (length packet) ≡ packet
  unfolding written held
  held_where_written f k a b =
      ap (take (length packet))
      (drop_at (take (slot_start f k) store) (packet ++ drop (slot_start f k + length packet) store) (slot_start f k) (length-take-le (slot_start f k) store (omega (arith, slot_in_store f k (length packet) a b fits))))
      ∙ take-append_seam packet (drop (slot_start f k + length packet) store)

  -- A write in a slot changes no bytes of another flow's slot.
  pub held_over_another_flow : (f g k j n : ℕ) → f < flow_limit → g < flow_limit → k < queue_limit → j < queue_limit → n ≤ size_limit → (g ≡ f → ⊥)
      → held (written store f k packet) g j n ≡ held store g j n
  unfolding written held slot_start
  held_over_another_flow f g k j n a b c d e apart =
      elim (dec_le g f) [
        | yes h ↦ part_kept_before store packet (slot_start g j) (slot_start f k) n (omega arith) (omega arith)
        | no h ↦ part_kept_behind store packet (slot_start g j) (slot_start f k) n (omega arith) (omega arith)
      ]

  -- Nor of another slot of the same flow.
  pub held_over_another_slot : (f k j n : ℕ) → f < flow_limit → k < queue_limit → j < queue_limit → n ≤ size_limit → (j ≡ k → ⊥)
      → held (written store f k packet) f j n ≡ held store f j n
  unfolding written held slot_start
  held_over_another_slot f k j n a c d e apart =
      elim (dec_le j k) [
        | yes h ↦ part_kept_before store packet (slot_start f j) (slot_start f k) n (omega arith) (omega arith)
        | no h ↦ part_kept_behind store packet (slot_start f j) (slot_start f k) n (omega arith) (omega arith)
      ]

-- The part of the store from the slot's start has room for the packet.
pub room_in_part : (store packet : List ℕ) (f k at : ℕ) → length store ≡ store_length → f < flow_limit → k < queue_limit → length packet ≤ size_limit
    → at ≡ slot_start f k → length packet ≤ length (take (length store - at) (drop at store))
room_in_part store packet f k at all a b c e =
    omega (arith, length-take-le (length store - at) (drop at store) (omega (arith, length-drop at store)), slot_in_store f k (length packet) a b c)

-- The part of the store from the slot's start, written from its start and put back, is the store with the packet in the slot.
pub write_law : (store packet part : List ℕ) (f k at : ℕ) → at ≡ slot_start f k
    → part ≡ packet ++ drop (length packet) (take (length store - at) (drop at store))
    → take at store ++ (part ++ drop (length store - at) (drop at store)) ≡ written store f k packet
unfolding written
write_law store packet part f k at e g =
    ap₂ (λ (l m : List ℕ). take at store ++ (l ++ m)) (g ∙ ap (λ (l : List ℕ). packet ++ drop (length packet) l) whole) nothing
    ∙ ap (λ (l : List ℕ). take at store ++ l) (append-nil (packet ++ drop (length packet) (drop at store)) ∙ ap (λ (l : List ℕ). packet ++ l) (drop-drop (length packet) at store))
    ∙ ap (λ (b : ℕ). take b store ++ (packet ++ drop (b + length packet) store)) e
  where
    whole : take (length store - at) (drop at store) ≡ drop at store
    whole = take_all (length store - at) (drop at store) (omega (arith, length-drop at store))

    nothing : drop (length store - at) (drop at store) ≡ []
    nothing = drop_of_length-le (drop at store) {i = length store - at} (omega (arith, length-drop at store))

-- The part of the store from the slot's start to the packet's end, copied to the start of the outgoing buffer.
pub read_law : (store out part : List ℕ) (f k n at : ℕ) → at ≡ slot_start f k → at + n ≤ length store
    → part ≡ take (at + n - at) (drop at store) ++ drop (length (take (at + n - at) (drop at store))) out
    → part ≡ held store f k n ++ drop n out
unfolding held
read_law store out part f k n at e fits g =
    g
    ∙ ap (λ (m : ℕ). take m (drop at store) ++ drop (length (take m (drop at store))) out) count
    ∙ ap (λ (m : ℕ). take n (drop at store) ++ drop m out) (length-take-le n (drop at store) (omega (arith, length-drop at store)))
    ∙ ap (λ (b : ℕ). take n (drop b store) ++ drop n out) e
  where
    count : at + n - at ≡ n
    count = omega arith
