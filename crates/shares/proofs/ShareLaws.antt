-- Shares with one departure more, and how much they can be.
--     share_snoc              a share with one departure more
--     flows_snoc              the flows' shares with one departure more
--     flow_share              the share of one flow among them
--     flow_at_most            a flow's share is no more than that of all
--     total_at_most           of so many departures, no more than 256 bytes each
use Prim.Native.Nat.{ℕ, zero, suc, ◌+◌, ◌*◌, ◌<◌, ◌≤◌, max}
use native.Mathlib.Nat.{add-zero, add-suc, suc-add}
use native.Mathlib.Omega.{arith}
use mathlib.Core.Bool.{Bool, true, false, cond}
use mathlib.Core.List.{List, [], ◌∷◌, ◌++◌, append-nil}
use mathlib.Core.Path.{◌≡◌, refl, sym, ap, ap₂, ◌∙◌}
use lib.ListN.{length, get_or, set, length-append}
use lib.Dec.{eqb}
use borrow.Author.Tests.{eq-eqb, ne_eqb}
use Rattle.model.specs.Limits.{size_limit}
use Rattle.model.specs.declared.Sent.{Sent}
use Rattle.play.specs.Log.{InRange}
use Rattle.shares.specs.Share.{of_flow, bytes_of, largest_of, share_of, shares_from}
use Rattle.shares.specs.Reading.{with_packet}
use Rattle.shares.specs.declared.Share.{Share}

-- ---- one departure more

pub bytes_append : (a b : List Sent) → bytes_of (a ++ b) ≡ bytes_of a + bytes_of b
unfolding bytes_of
bytes_append [] b = omega arith
bytes_append (d ∷ a) b = omega (arith, bytes_append a b)

largest_append : (a b : List Sent) → largest_of (a ++ b) ≡ max (largest_of a) (largest_of b)
unfolding largest_of
largest_append [] b = omega arith
largest_append (d ∷ a) b = omega (arith, largest_append a b)

abbrev share : ℕ → ℕ → ℕ → Share
share packets bytes largest = record { packets = packets; bytes = bytes; largest = largest }

bytes_snoc : (l : List Sent) (d : Sent) → bytes_of (l ++ d ∷ []) ≡ bytes_of l + d.size
unfolding bytes_of
bytes_snoc l d = omega (arith, bytes_append l (d ∷ []))

largest_snoc : (l : List Sent) (d : Sent) → largest_of (l ++ d ∷ []) ≡ max (largest_of l) d.size
unfolding largest_of
largest_snoc l d = omega (arith, largest_append l (d ∷ []))

pub share_snoc : (l : List Sent) (d : Sent) → share_of (l ++ d ∷ []) ≡ with_packet (share_of l) d.size
unfolding share_of with_packet
share_snoc l d =
    ap₂ (λ (n m : ℕ). share n m (largest_of (l ++ d ∷ []))) (length-append l (d ∷ [])) (bytes_snoc l d)
    ∙ ap (share (length l + 1) (bytes_of l + d.size)) (largest_snoc l d)

of_flow_append : (f : ℕ) (a b : List Sent) → of_flow f (a ++ b) ≡ of_flow f a ++ of_flow f b
unfolding of_flow
of_flow_append f [] b = refl
of_flow_append f (d ∷ a) b = either (eqb d.flow f) (of_flow_append f a b)
  where
    either : (t : Bool) → of_flow f (a ++ b) ≡ of_flow f a ++ of_flow f b
        → cond t (d ∷ of_flow f (a ++ b)) (of_flow f (a ++ b)) ≡ cond t (d ∷ of_flow f a) (of_flow f a) ++ of_flow f b
    either true e = ap (λ (l : List Sent). d ∷ l) e
    either false e = e

own_departure : (f : ℕ) (l : List Sent) (d : Sent) → d.flow ≡ f → of_flow f (l ++ d ∷ []) ≡ of_flow f l ++ d ∷ []
unfolding of_flow
own_departure f l d e = of_flow_append f l (d ∷ []) ∙ ap (λ (t : Bool). of_flow f l ++ cond t (d ∷ []) []) (eq-eqb d.flow f e)

others_departure : (f : ℕ) (l : List Sent) (d : Sent) → (d.flow ≡ f → ⊥) → of_flow f (l ++ d ∷ []) ≡ of_flow f l
unfolding of_flow
others_departure f l d n =
    of_flow_append f l (d ∷ []) ∙ ap (λ (t : Bool). of_flow f l ++ cond t (d ∷ []) []) (ne_eqb d.flow f n) ∙ append-nil (of_flow f l)

-- ---- the shares of flows

-- the shares of flows above that of a departure
flows_above : (n f : ℕ) (l : List Sent) (d : Sent) → d.flow < f → shares_from n f (l ++ d ∷ []) ≡ shares_from n f l
unfolding shares_from
flows_above zero f l d h = refl
flows_above (suc n) f l d h = ap₂ ◌∷◌ (ap share_of (others_departure f l d (λ e. omega arith))) (flows_above n (suc f) l d (omega arith))

shares_from_set : (n f k : ℕ) (l : List Sent) (d : Sent) → d.flow ≡ f + k → set (shares_from n f l) k (with_packet (share_of (of_flow (f + k) l)) d.size) ≡ shares_from n f (l ++ d ∷ [])
unfolding shares_from
shares_from_set zero f k l d e = refl
shares_from_set (suc n) f zero l d e =
    ap₂ ◌∷◌
    (ap (λ (g : ℕ). with_packet (share_of (of_flow g l)) d.size) (add-zero f)
    ∙ sym (share_snoc (of_flow f l) d)
    ∙ ap share_of (sym (own_departure f l d (omega arith))))
    (sym (flows_above n (suc f) l d (omega arith)))
shares_from_set (suc n) f (suc k) l d e =
    ap₂ ◌∷◌
    (ap share_of (sym (others_departure f l d (λ i. omega arith))))
    (ap (λ (g : ℕ). set (shares_from n (suc f) l) k (with_packet (share_of (of_flow g l)) d.size)) (add-suc f k ∙ sym (suc-add f k))
    ∙ shares_from_set n (suc f) k l d (omega arith))

flow_from : (n f k : ℕ) (l : List Sent) (x : Share) → k < n → get_or (shares_from n f l) k x ≡ share_of (of_flow (f + k) l)
unfolding shares_from
flow_from zero f k l x h = absurd (omega arith)
flow_from (suc n) f zero l x h = ap (λ (g : ℕ). share_of (of_flow g l)) (sym (add-zero f))
flow_from (suc n) f (suc k) l x h = flow_from n (suc f) k l x (omega arith) ∙ ap (λ (g : ℕ). share_of (of_flow g l)) (suc-add f k ∙ sym (add-suc f k))

pub flows_length : (n f : ℕ) (l : List Sent) → length (shares_from n f l) ≡ n
unfolding shares_from
flows_length zero f l = refl
flows_length (suc n) f l = ap suc (flows_length n (suc f) l)

module _ (n : ℕ) (l : List Sent) where
  pub flow_share : (f : ℕ) (x : Share) → f < n → get_or (shares_from n 0 l) f x ≡ share_of (of_flow f l)
  flow_share f x h = flow_from n 0 f l x h ∙ ap (λ (g : ℕ). share_of (of_flow g l)) (omega arith)

  pub flows_snoc : (d : Sent) (x : Share) → d.flow < n → set (shares_from n 0 l) d.flow (with_packet (get_or (shares_from n 0 l) d.flow x) d.size) ≡ shares_from n 0 (l ++ d ∷ [])
  flows_snoc d x h =
      ap (λ (s : Share). set (shares_from n 0 l) d.flow (with_packet s d.size)) (flow_from n 0 d.flow l x h) ∙ shares_from_set n 0 d.flow l d (omega arith)

-- ---- how much a share can be

few_of_flow : (f : ℕ) (l : List Sent) → length (of_flow f l) ≤ length l
unfolding of_flow
few_of_flow f [] = omega arith
few_of_flow f (d ∷ l) = either (eqb d.flow f) (few_of_flow f l)
  where
    either : (t : Bool) → length (of_flow f l) ≤ length l → length (cond t (d ∷ of_flow f l) (of_flow f l)) ≤ suc (length l)
    either true h = omega arith
    either false h = omega arith

bytes_of_flow : (f : ℕ) (l : List Sent) → bytes_of (of_flow f l) ≤ bytes_of l
unfolding of_flow bytes_of
bytes_of_flow f [] = omega arith
bytes_of_flow f (d ∷ l) = either (eqb d.flow f) (bytes_of_flow f l)
  where
    either : (t : Bool) → bytes_of (of_flow f l) ≤ bytes_of l → bytes_of (cond t (d ∷ of_flow f l) (of_flow f l)) ≤ d.size + bytes_of l
    either true h = omega arith
    either false h = omega arith

pub bytes_at_most : (l : List Sent) → InRange l → bytes_of l ≤ size_limit * length l
unfolding bytes_of InRange
bytes_at_most [] h = omega arith
bytes_at_most (d ∷ l) h = omega (arith, bytes_at_most l h.2, h.1)

largest_of_flow : (f : ℕ) (l : List Sent) → largest_of (of_flow f l) ≤ largest_of l
unfolding of_flow largest_of
largest_of_flow f [] = omega arith
largest_of_flow f (d ∷ l) = either (eqb d.flow f) (largest_of_flow f l)
  where
    either : (t : Bool) → largest_of (of_flow f l) ≤ largest_of l → largest_of (cond t (d ∷ of_flow f l) (of_flow f l)) ≤ max d.size (largest_of l)
    either true h = omega arith
    either false h = omega arith

largest_at_most : (l : List Sent) → InRange l → largest_of l ≤ size_limit
unfolding largest_of InRange
largest_at_most [] h = omega arith
largest_at_most (d ∷ l) h = omega (arith, largest_at_most l h.2, h.1)

pub flow_at_most : (f : ℕ) (l : List Sent)
    → ((share_of (of_flow f l)).packets ≤ (share_of l).packets) × ((share_of (of_flow f l)).bytes ≤ (share_of l).bytes) × ((share_of (of_flow f l)).largest ≤ (share_of l).largest)
unfolding share_of
flow_at_most f l = (few_of_flow f l, bytes_of_flow f l, largest_of_flow f l)

pub total_at_most : (l : List Sent) → InRange l → ((share_of l).packets ≡ length l) × ((share_of l).bytes ≤ size_limit * length l) × ((share_of l).largest ≤ size_limit)
unfolding share_of
total_at_most l h = (refl, bytes_at_most l h, largest_at_most l h)
