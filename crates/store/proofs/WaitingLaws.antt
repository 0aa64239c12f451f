-- The bytes of the packets that wait, in their flow's slots: a write for one packet changes those of no other, and adds its own at the end.
use Prim.Native.Nat.{ℕ, ◌+◌, ◌%◌, ◌≤◌, ◌<◌}
use mathlib.Core.Path.{◌≡◌, refl, sym, ap, ap₂, ◌∙◌}
use mathlib.Core.List.{List, [], ◌∷◌, ◌++◌, append_assoc}
use mathlib.Core.Bool.{Bool, cond}
use native.Mathlib.Omega.{arith}
use lib.ListN.{length}
use lib.Dec.{eqb}
use borrow.Author.Tests.{eq-eqb, ne_eqb}
use Rattle.model.specs.Limits.{flow_limit, queue_limit, size_limit}
use Rattle.model.specs.Steps.{next_slot}
use Rattle.model.specs.Rules.{Sizes, none, one}
use Rattle.store.specs.Slots.{store_length, written, held}
use Rattle.store.specs.StoreCalls.{Packet, bytes_of, held_from}
use Rattle.store.proofs.SlotLaws.{held_where_written, held_over_another_flow, held_over_another_slot}

module _ (store packet : List ℕ) (all : length store ≡ store_length) (fits : length packet ≤ size_limit) (f k : ℕ) (a : f < flow_limit) (b : k < queue_limit) where
  -- The packets of another flow.
  pub waiting_over_another_flow : (g : ℕ) → g < flow_limit → (g ≡ f → ⊥) → (j : ℕ) → j < queue_limit → {q : List ℕ} → Sizes q
      → held_from (written store f k packet) g j q ≡ held_from store g j q
  unfolding held_from
  waiting_over_another_flow g c apart j d none = refl
  waiting_over_another_flow g c apart j d (one {p} lower upper more) =
      ap₂ (λ (x : List ℕ) (l : List (List ℕ)). x ∷ l)
      (held_over_another_flow store packet all fits f g k j p a c b d upper apart)
      (waiting_over_another_flow g c apart (next_slot j) (omega arith) more)

  -- The packets of the same flow, the last of which is the one that was written.
  pub waiting_with_one_more : (j : ℕ) → j < queue_limit → {q : List ℕ} → Sizes q → length q < queue_limit → k ≡ (j + length q) % queue_limit
      → held_from (written store f k packet) f j (q ++ (length packet ∷ [])) ≡ held_from store f j q ++ (packet ∷ [])
  unfolding held_from
  waiting_with_one_more j d none short e =
      let here : k ≡ j = omega arith in
      ap (λ (x : List ℕ). x ∷ []) (ap (λ (i : ℕ). held (written store f k packet) f i (length packet)) (sym here) ∙ held_where_written store packet all fits f k a b)
  waiting_with_one_more j d (one {p} {q} lower upper more) short e =
      ap₂ (λ (x : List ℕ) (l : List (List ℕ)). x ∷ l)
      (held_over_another_slot store packet all fits f k j p a b d upper (λ same. omega arith))
      (waiting_with_one_more (next_slot j) (omega arith) more (omega arith) (omega arith))

pub bytes_append : (f : ℕ) (l m : List Packet) → bytes_of f (l ++ m) ≡ bytes_of f l ++ bytes_of f m
unfolding bytes_of
bytes_append f [] m = refl
bytes_append f (p ∷ l) m =
    ap (λ (x : List (List ℕ)). cond (eqb p.flow f) (p.bytes ∷ []) [] ++ x) (bytes_append f l m)
    ∙ sym (append_assoc (cond (eqb p.flow f) (p.bytes ∷ []) []) (bytes_of f l) (bytes_of f m))

pub bytes_of_own : (f : ℕ) (packet : List ℕ) → bytes_of f (record { flow = f; bytes = packet } ∷ []) ≡ packet ∷ []
unfolding bytes_of
bytes_of_own f packet = ap (λ (t : Bool). cond t (packet ∷ []) [] ++ []) (eq-eqb f f refl)

pub bytes_of_another : (f g : ℕ) (packet : List ℕ) → (g ≡ f → ⊥) → bytes_of g (record { flow = f; bytes = packet } ∷ []) ≡ []
unfolding bytes_of
bytes_of_another f g packet d = ap (λ (t : Bool). cond t (packet ∷ []) [] ++ []) (ne_eqb f g (λ e. d (sym e)))
