-- A stretch of store calls has the numbers of the order layer's stretch of the same offers and departures.
use Prim.Native.Nat.{ℕ}
use mathlib.Core.Path.{◌≡◌, refl, sym, ap, ◌∙◌, subst}
use mathlib.Core.List.{List, []}
use lib.ListN.{length}
use Rattle.model.specs.Model.{Scheduler, flow_at, new_scheduler}
use Rattle.model.specs.Chain.{begin, chain}
use Rattle.model.specs.OrderCalls.{order_calls}
use Rattle.model.specs.declared.Sent.{Sent}
use Rattle.model.proofs.Chains as OnSizes
use Rattle.account.specs.Stretch.{Stretch, Waiting, sum_of, turn_flow, one_plus_mark, begun, ended, WaitingThroughout, sent_in, bytes_sent, largest_since_reset, one_plus_marks, ConsecutiveTurns, weight_of, surplus_before, surplus_after}
use Rattle.store.specs.Slots.{store_length}
use Rattle.store.specs.StoreCalls.{store_calls}
use Rattle.store.proofs.Kept.{start, every_history_kept}
use Rattle.store.proofs.OnSizes.{all_on_sizes}
use Rattle.site_account.proofs.Packets.{same_bytes, same_largest, same_count}
use Rattle.site_account.proofs.Beside.{Beside, GoBeside, go_beside}

-- The calls of the order layer that the store calls of a stretch make; a call that is refused for what is lent makes none.
abbrev pub as_calls : Stretch store_calls → Stretch order_calls
as_calls x = record { first = new_scheduler; new = refl; before = all_on_sizes x.before; calls = all_on_sizes x.calls }

pub start_beside : (first : List ℕ) → length first ≡ store_length → Beside (start first) OnSizes.start
unfolding chain
start_beside first whole = record { kept = every_history_kept first whole []; same_state = refl; same_left = refl }

module _ (x : Stretch store_calls) where
  first_beside : Beside (begin x.first) OnSizes.start
  first_beside =
      subst (λ (s : Scheduler). Beside (begin (record { keeper = s; store = x.first.store })) OnSizes.start) (sym x.new.0) (start_beside x.first.store x.new.1)

  begun_beside : Beside (begun store_calls x) (begun order_calls (as_calls x))
  begun_beside = (go_beside x.before (begin x.first) OnSizes.start first_beside).ends

  pub goes_beside : GoBeside (begun store_calls x) x.calls (begun order_calls (as_calls x)) (as_calls x).calls
  goes_beside = go_beside x.calls (begun store_calls x) (begun order_calls (as_calls x)) begun_beside

-- Bytes, largest packet, marks, weights and surpluses are those of the order layer's stretch, and so is the number of packets sent.
pub record SameNumbers (x : Stretch store_calls) : Type 0 where
  pub bytes_same : (f : ℕ) → bytes_sent store_calls x f ≡ bytes_sent order_calls (as_calls x) f
  pub largest_same : largest_since_reset store_calls x ≡ largest_since_reset order_calls (as_calls x)
  pub marks_same : (f : ℕ) → one_plus_marks store_calls x f ≡ one_plus_marks order_calls (as_calls x) f
  pub weight_same : (f : ℕ) → weight_of store_calls x f ≡ weight_of order_calls (as_calls x) f
  pub before_same : (f : ℕ) → surplus_before store_calls x f ≡ surplus_before order_calls (as_calls x) f
  pub after_same : (f : ℕ) → surplus_after store_calls x f ≡ surplus_after order_calls (as_calls x) f
  pub count_same : length (sent_in store_calls (begun store_calls x).state x.calls) ≡ length (sent_in order_calls (begun order_calls (as_calls x)).state (as_calls x).calls)

-- A stretch of store calls has the numbers of the order layer's, whose closed stretches are therefore stretches of store calls too.
pub same_numbers : (x : Stretch store_calls) → SameNumbers x
same_numbers x =
    let sent : List Sent = sent_in order_calls (begun order_calls (as_calls x)).state (as_calls x).calls in
    record {
      bytes_same = same_bytes (sent_in store_calls (begun store_calls x).state x.calls) sent (goes_beside x).sent_agree;
      largest_same = same_largest (ended store_calls x).left (ended order_calls (as_calls x)).left (goes_beside x).ends.same_left;
      marks_same = λ f. ap (sum_of turn_flow f one_plus_mark) (goes_beside x).turns_agree;
      weight_same = λ f. ap (λ (s : Scheduler). (flow_at s f).weight) (begun_beside x).same_state;
      before_same = λ f. ap (λ (s : Scheduler). (flow_at s f).surplus) (begun_beside x).same_state;
      after_same = λ f. ap (λ (s : Scheduler). (flow_at s f).surplus) (goes_beside x).ends.same_state;
      count_same = same_count (sent_in store_calls (begun store_calls x).state x.calls) sent (goes_beside x).sent_agree;
    }

-- ---- who waits, and between which turns

module _ (x : Stretch store_calls) (f : ℕ) where
  -- A flow that waits throughout the one stretch waits throughout the other.
  pub waits_on_sizes : WaitingThroughout store_calls x f → WaitingThroughout order_calls (as_calls x) f
  waits_on_sizes w = (subst (λ (s : Scheduler). Waiting s f) (begun_beside x).same_state w.0, (goes_beside x).waiting_on_sizes f w.1)

  pub waits_in_store : WaitingThroughout order_calls (as_calls x) f → WaitingThroughout store_calls x f
  waits_in_store w =
      let first : Waiting (begun store_calls x).state.keeper f = subst (λ (s : Scheduler). Waiting s f) (sym (begun_beside x).same_state) w.0 in
      (first, (goes_beside x).waiting_in_store f first w.1)

  pub turns_on_sizes : ConsecutiveTurns store_calls x f → ConsecutiveTurns order_calls (as_calls x) f
  turns_on_sizes turns =
      record {
        before_the_first = λ allowed sent e. turns.before_the_first allowed sent (ap (λ (s : Scheduler). s.round.turn) (begun_beside x).same_state ∙ e);
        after_the_last = λ allowed sent e. turns.after_the_last allowed sent (ap (λ (s : Scheduler). s.round.turn) (goes_beside x).ends.same_state ∙ e);
        waiting_after_every = (goes_beside x).waiting_on_sizes f turns.waiting_after_every;
      }

  -- Back again for a flow that waits before the stretch too: a store call that is refused for what is lent is no call of the order layer.
  pub turns_in_store : Waiting (begun order_calls (as_calls x)).state f → ConsecutiveTurns order_calls (as_calls x) f → ConsecutiveTurns store_calls x f
  turns_in_store first turns =
      record {
        before_the_first = λ allowed sent e. turns.before_the_first allowed sent (ap (λ (s : Scheduler). s.round.turn) (sym (begun_beside x).same_state) ∙ e);
        after_the_last = λ allowed sent e. turns.after_the_last allowed sent (ap (λ (s : Scheduler). s.round.turn) (sym (goes_beside x).ends.same_state) ∙ e);
        waiting_after_every = (waits_in_store (first, turns.waiting_after_every)).1;
      }
