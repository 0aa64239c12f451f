-- The flows' shares add up to the total.
--     packets_in, bytes_in, largest_in   what a list of shares comes to
--     flows_add_up                    of the flows' shares, that is the total's
use Prim.Native.Nat.{ℕ, zero, suc, ◌+◌, ◌<◌, max}
use native.Mathlib.Nat.{add_assoc, add_left_comm}
use native.Mathlib.Omega.{arith}
use mathlib.Core.List.{List, [], ◌∷◌}
use mathlib.Core.Path.{◌≡◌, refl}
use borrow.Author.Tests.{eq-eqb, ne_eqb}
use Rattle.model.specs.Limits.{flow_limit}
use Rattle.model.specs.declared.Sent.{Sent}
use Rattle.play.specs.Log.{InRange}
use Rattle.shares.specs.Share.{of_flow, bytes_of, largest_of, share_of, shares_from, shares_of}
use Rattle.shares.specs.declared.Share.{Share}

-- a field of all shares, gathered by an operation; 0 where there is no share
unfoldable pub gathered : (ℕ → ℕ → ℕ) → (Share → ℕ) → List Share → ℕ
gathered op field [] = 0
gathered op field (s ∷ more) = op (field s) (gathered op field more)

-- the sum of their packets
unfoldable pub packets_in : List Share → ℕ
packets_in = gathered ◌+◌ (λ (s : Share). s.packets)

-- the sum of their bytes
unfoldable pub bytes_in : List Share → ℕ
bytes_in = gathered ◌+◌ (λ (s : Share). s.bytes)

-- the largest packet of any
unfoldable pub largest_in : List Share → ℕ
largest_in = gathered max (λ (s : Share). s.largest)

-- ---- a departure counts in its flow's share and in no other

-- the departures of its own flow, those of another, and the shares of flows above its own
own : (f : ℕ) (d : Sent) (l : List Sent) → d.flow ≡ f → of_flow f (d ∷ l) ≡ d ∷ of_flow f l
unfolding of_flow
own f d l e = rw (eq-eqb d.flow f e)

others : (f : ℕ) (d : Sent) (l : List Sent) → (d.flow ≡ f → ⊥) → of_flow f (d ∷ l) ≡ of_flow f l
unfolding of_flow
others f d l n = rw (ne_eqb d.flow f n)

above : (n f : ℕ) (d : Sent) (l : List Sent) → d.flow < f → shares_from n f (d ∷ l) ≡ shares_from n f l
unfolding shares_from
above zero f d l h = refl
above (suc n) f d l h = rw (others f d l (λ e. omega arith), above n (suc f) d l (omega arith))

-- ---- a field that departures add to one by one, where their order does not matter

module _ (op : ℕ → ℕ → ℕ) (field : Share → ℕ) (amount : Sent → ℕ) (none : field (share_of []) ≡ 0) (one_more : (d : Sent) (l : List Sent) → field (share_of (d ∷ l)) ≡ op (amount d) (field (share_of l)))
    (zeros : op 0 0 ≡ 0) (assoc : (a b c : ℕ) → op (op a b) c ≡ op a (op b c)) (swap : (a b c : ℕ) → op a (op b c) ≡ op b (op a c)) where
  of_none : (n f : ℕ) → gathered op field (shares_from n f []) ≡ 0
  unfolding gathered shares_from of_flow
  of_none zero f = refl
  of_none (suc n) f = rw (none, of_none n (suc f)) zeros

  of_more : (n f k : ℕ) (d : Sent) (l : List Sent) → d.flow ≡ f + k → k < n → gathered op field (shares_from n f (d ∷ l)) ≡ op (amount d) (gathered op field (shares_from n f l))
  unfolding gathered shares_from
  of_more zero f k d l e h = absurd (omega arith)
  of_more (suc n) f zero d l e h = rw (own f d l (omega arith), one_more, above n (suc f) d l (omega arith)) (assoc _ _ _)
  of_more (suc n) f (suc k) d l e h = rw (others f d l (λ i. omega arith), of_more n (suc f) k d l (omega arith) (omega arith)) (swap _ _ _)

  adds_up : (l : List Sent) → InRange l → gathered op field (shares_from flow_limit 0 l) ≡ field (share_of l)
  unfolding InRange
  adds_up [] h = rw (of_none flow_limit 0, none)
  adds_up (d ∷ l) h = rw (of_more flow_limit 0 d.flow d l (omega arith) h.0, adds_up l h.2, one_more)

pub flows_add_up : (l : List Sent) → InRange l
    → (packets_in (shares_of l).flows ≡ (shares_of l).total.packets)
    × (bytes_in (shares_of l).flows ≡ (shares_of l).total.bytes)
    × (largest_in (shares_of l).flows ≡ (shares_of l).total.largest)
unfolding packets_in bytes_in largest_in shares_of share_of bytes_of largest_of
flows_add_up l h = (
  adds_up ◌+◌ (λ (s : Share). s.packets) (λ (d : Sent). 1) refl (λ d m. omega arith) refl add_assoc add_left_comm l h,
  adds_up ◌+◌ (λ (s : Share). s.bytes) (λ (d : Sent). d.size) refl (λ d m. refl) refl add_assoc add_left_comm l h,
  adds_up max (λ (s : Share). s.largest) (λ (d : Sent). d.size) refl (λ d m. refl) refl (λ a b c. omega arith) (λ a b c. omega arith) l h,
)
