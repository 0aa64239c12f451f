-- Packets without their bytes: the flows and the lengths are all that the numbers of demand 3 are made of.
use Prim.Native.Nat.{ℕ, ◌+◌, max}
use mathlib.Core.Path.{◌≡◌, refl, sym, ap, ◌∙◌}
use mathlib.Core.List.{List, [], ◌∷◌, ◌++◌, map, map-append}
use mathlib.Core.Bool.{cond}
use lib.ListN.{length, length-map}
use lib.Dec.{eqb}
use Rattle.model.specs.OrderCalls.{Packet as SizedPacket, packets_of, order_calls}
use Rattle.model.specs.declared.Sent.{Sent}
use Rattle.account.specs.Stretch.{sum_of, largest, bytes_by, largest_of}
use Rattle.store.specs.StoreCalls.{Packet, store_calls}

-- The flow and the length of each packet.
abbrev pub sized : List Packet → List SizedPacket
sized l = map (λ (p : Packet). record { flow = p.flow; size = length p.bytes }) l

pub sized_append : (a b : List Packet) → sized (a ++ b) ≡ sized a ++ sized b
sized_append a b = map-append _ a b

pub packets_append : (a b : List Sent) → packets_of (a ++ b) ≡ packets_of a ++ packets_of b
packets_append a b = map-append _ a b

-- ---- how many bytes, how long the longest, how many packets

-- They are the same of all lists that have the same flows and sizes.
abbrev bytes_in : ℕ → List SizedPacket → ℕ
bytes_in f l = sum_of (λ (p : SizedPacket). p.flow) f (λ (p : SizedPacket). p.size) l

abbrev largest_in : List SizedPacket → ℕ
largest_in l = largest (λ (p : SizedPacket). p.size) l

module _ {D : Type 0} (flow_of size_of : D → ℕ) where
  abbrev as_sized : D → SizedPacket
  as_sized d = record { flow = flow_of d; size = size_of d }

  bytes_sized : (f : ℕ) (l : List D) → sum_of flow_of f size_of l ≡ bytes_in f (map as_sized l)
  unfolding sum_of
  bytes_sized f [] = refl
  bytes_sized f (d ∷ l) = ap (λ (n : ℕ). cond (eqb f (flow_of d)) (size_of d) 0 + n) (bytes_sized f l)

  largest_sized : (l : List D) → largest size_of l ≡ largest_in (map as_sized l)
  unfolding largest
  largest_sized [] = refl
  largest_sized (d ∷ l) = ap (max (size_of d)) (largest_sized l)

-- Packets that have, in order, the flows and the sizes that departures tell.
module _ (l : List Packet) (sent : List Sent) (agree : sized l ≡ packets_of sent) where
  pub same_bytes : (f : ℕ) → bytes_by store_calls f l ≡ bytes_by order_calls f sent
  same_bytes f =
      bytes_sized (λ (p : Packet). p.flow) (λ (p : Packet). length p.bytes) f l
      ∙ ap (bytes_in f) agree
      ∙ sym (bytes_sized (λ (d : Sent). d.flow) (λ (d : Sent). d.size) f sent)

  pub same_largest : largest_of store_calls l ≡ largest_of order_calls sent
  same_largest =
      largest_sized (λ (p : Packet). p.flow) (λ (p : Packet). length p.bytes) l
      ∙ ap largest_in agree
      ∙ sym (largest_sized (λ (d : Sent). d.flow) (λ (d : Sent). d.size) sent)

  pub same_count : length l ≡ length sent
  same_count = sym (length-map l _) ∙ ap length agree ∙ length-map sent _
