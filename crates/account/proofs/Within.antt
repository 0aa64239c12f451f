-- Marks and surpluses stay smaller than the largest packet sent: what a turn had sent before its last packet was less than allowed, and so its excess
-- is less than that packet.
use Prim.Native.Nat.{ℕ, suc, ◌≤◌}
use mathlib.Core.Path.{ap}
use mathlib.Core.List.{List}
use native.Mathlib.Omega.{arith}
use native.Mathlib.Decide.{dec_le}
use lib.ListN.{length, length-append}
use Rattle.model.specs.Model.{Flow}
use Rattle.model.specs.declared.Sent.{Sent}
use Rattle.model.proofs.Line.{same_or_other}
use Rattle.account.specs.Stretch.{largest}
use Rattle.account.proofs.Sums.{largest_sent}
use Rattle.account.proofs.Circle.{Circle, Move, round_starts, turn_opens, turn_stays_open, turn_is_over, flow_runs_empty, flow_joins, packet_joins, flow_opens, Moves, stands, moves, follows, Renewed}
use Rattle.account.proofs.Sums.{largest_append}

-- Marks and surpluses are at most k.
pub record Within (k : ℕ) (c : Circle) : Type 0 where
  pub mark_within : c.mark ≤ k
  pub running_within : c.running ≤ k
  pub surplus_within : (f : ℕ) → (c.flow f).surplus ≤ k

pub within_more : {k n : ℕ} {c : Circle} → k ≤ n → Within k c → Within n c
within_more h w = record { mark_within = omega (arith, w.mark_within); running_within = omega (arith, w.running_within); surplus_within = λ f. omega (arith, w.surplus_within f) }

-- Where one flow has a new surplus within k, all are within k.
surplus_moves : {g surplus k : ℕ} {flow flow' : ℕ → Flow} → Renewed g surplus flow flow' → surplus ≤ k → ((f : ℕ) → (flow f).surplus ≤ k)
    → (f : ℕ) → (flow' f).surplus ≤ k
surplus_moves {g} {k = k} {flow' = flow'} new h w f =
    same_or_other (λ h. (flow' h).surplus ≤ k) g f (omega (arith, new.surplus_now)) (λ q. omega (arith, w f, ap (λ (x : Flow). x.surplus) (new.others_same f q)))

move_stays_within : (k : ℕ) {c c' : Circle} {l e : List Sent} → Move c c' l e → largest_sent l ≤ suc k → Within k c → Within k c'
unfolding largest
move_stays_within k (round_starts once) m w = record { mark_within = w.running_within; running_within = omega arith; surplus_within = w.surplus_within }
move_stays_within k (turn_opens new low) m w =
    record { mark_within = w.mark_within; running_within = w.running_within; surplus_within = surplus_moves new (omega arith) w.surplus_within }
move_stays_within k (turn_stays_open {g = g} new p) m w =
    record { mark_within = w.mark_within; running_within = w.running_within; surplus_within = surplus_moves new (w.surplus_within g) w.surplus_within }
move_stays_within k (turn_is_over new p low up most full) m w =
    record { mark_within = w.mark_within; running_within = omega (arith, w.running_within); surplus_within = surplus_moves new (omega arith) w.surplus_within }
move_stays_within k (flow_runs_empty new p low up out) m w =
    record { mark_within = w.mark_within; running_within = omega (arith, w.running_within); surplus_within = surplus_moves new (omega arith) w.surplus_within }
move_stays_within k (flow_joins {g = g} new out) m w =
    record { mark_within = w.mark_within; running_within = w.running_within; surplus_within = surplus_moves new (w.surplus_within g) w.surplus_within }
move_stays_within k (packet_joins {g = g} new) m w =
    record { mark_within = w.mark_within; running_within = w.running_within; surplus_within = surplus_moves new (w.surplus_within g) w.surplus_within }
move_stays_within k {c} {c'} (flow_opens {g = g} only z out) m w =
    record {
      mark_within = w.mark_within;
      running_within = w.running_within;
      surplus_within = λ f. same_or_other (λ h. (c'.flow h).surplus ≤ k) g f (omega (arith, z)) (λ q. omega (arith, w.surplus_within f, ap (λ (x : Flow). x.surplus) (only f q)));
    }

-- A packet that leaves has a byte at least.
move_sends_bytes : {c c' : Circle} {l e : List Sent} → Move c c' l e → 1 ≤ length l → 1 ≤ largest_sent l
unfolding largest
move_sends_bytes (round_starts once) h = absurd (omega arith)
move_sends_bytes (turn_opens new low) h = absurd (omega arith)
move_sends_bytes (turn_stays_open new p) h = omega arith
move_sends_bytes (turn_is_over new p low up most full) h = omega arith
move_sends_bytes (flow_runs_empty new p low up out) h = omega arith
move_sends_bytes (flow_joins new out) h = absurd (omega arith)
move_sends_bytes (packet_joins new) h = absurd (omega arith)
move_sends_bytes (flow_opens only z out) h = absurd (omega arith)

module _ {Wanted : (ℕ → Flow) → Type 0} where
  pub moves_stay_within : (k : ℕ) {c c' : Circle} {l e : List Sent} → Moves Wanted c c' l e → largest_sent l ≤ suc k → Within k c → Within k c'
  moves_stay_within k stands m w = w
  moves_stay_within k (moves v want) m w = move_stays_within k v m w
  moves_stay_within k (follows {l = l} {l' = l'} r t) m w =
      moves_stay_within k t (omega (arith, largest_append l l')) (moves_stay_within k r (omega (arith, largest_append l l')) w)

  pub moves_send_bytes : {c c' : Circle} {l e : List Sent} → Moves Wanted c c' l e → 1 ≤ length l → 1 ≤ largest_sent l
  moves_send_bytes stands h = absurd (omega arith)
  moves_send_bytes (moves m want) h = move_sends_bytes m h
  moves_send_bytes (follows {l = l} {l' = l'} r t) h =
      elim (dec_le 1 (length l)) [
        | yes a ↦ omega (arith, largest_append l l', moves_send_bytes r a)
        | no a ↦ omega (arith, largest_append l l', moves_send_bytes t (omega (arith, length-append l l')))
      ]
