-- One stretch of store calls with its numbers, whatever the store held at first: the calls of the order layer's closed stretch, with bytes. No byte of the
-- store is looked at, so they hold of every store. The exact bound is reached on it, and the account has something to balance.
use Prim.Native.Nat.{ℕ, ◌+◌, ◌*◌, ◌-◌}
use mathlib.Core.Path.{◌≡◌, refl, sym, ap, ◌∙◌, subst}
use mathlib.Core.List.{List, [], ◌∷◌}
use native.Mathlib.Omega.{arith}
use lib.ListN.{length, replicate}
use Rattle.model.specs.Model.{flow_at, new_scheduler}
use Rattle.model.specs.OrderCalls.{order_calls}
use Rattle.model.proofs.Chains.{OrderHistory}
use Rattle.account.specs.Stretch.{Stretch, Waiting, begun, sum_of, turn_flow, one_plus_mark, WaitingThroughout, sent_in, bytes_by, largest_of, bytes_sent, largest_since_reset, one_plus_marks, ConsecutiveTurns, weight_of, surplus_before, surplus_after}
use Rattle.account.proofs.Reaching.{reaching, Reaches}
use Rattle.account.proofs.Bursts.{singly, one_by_one, SameAs, one_by_one_same}
use Rattle.account.proofs.Reached.{bound_is_reached}
use Rattle.store.specs.Slots.{store_length, out_limit}
use Rattle.store.specs.StoreCalls.{StoreCall, opening, offering, departing, with_store, store_calls}
use Rattle.store.proofs.OnSizes.{on_sizes, all_on_sizes}
use Rattle.site_account.proofs.Agreement.{as_calls, SameNumbers, same_numbers, waits_in_store, turns_in_store}

-- An offer of a packet of so many bytes, each of them the number of its flow, and a departure; each with all of the store lent.
abbrev offer : ℕ → ℕ → StoreCall
offer f size = offering f (replicate size f) store_length

abbrev depart : StoreCall
depart = departing store_length (replicate out_limit 0)

unfoldable pub site_reaching : (first : List ℕ) → length first ≡ store_length → Stretch store_calls
site_reaching first whole =
    record {
      first = with_store new_scheduler first;
      new = (refl, whole);
      before =
          opening 0 1 ∷ opening 1 2
          ∷ offer 0 3 ∷ offer 0 3 ∷ offer 0 1 ∷ offer 0 1
          ∷ offer 1 2 ∷ offer 1 3 ∷ offer 1 2 ∷ offer 1 3 ∷ offer 1 3 ∷ offer 1 3
          ∷ depart ∷ depart ∷ depart ∷ [];
      -- an offer and four refused calls among the departures: one byte of the store too few, no such flow, one byte of room too few, no store
      calls =
          depart ∷ offer 1 1 ∷ depart
          ∷ departing (store_length - 1) (replicate out_limit 0) ∷ depart ∷ depart ∷ depart
          ∷ offer 40 1 ∷ departing store_length (replicate (out_limit - 1) 0) ∷ offering 1 (1 ∷ []) 0 ∷ depart ∷ [];
    }

-- The order layer's closed stretch, its burst made one departure at a time.
abbrev singles : Stretch order_calls
singles = record { first = reaching.first; new = reaching.new; before = reaching.before; calls = one_by_one reaching.calls }

singles_same : SameAs (begun order_calls reaching) (one_by_one reaching.calls) reaching.calls
singles_same = one_by_one_same (begun order_calls reaching) reaching.calls

module _ (first : List ℕ) (whole : length first ≡ store_length) where
  abbrev x : Stretch store_calls
  x = site_reaching first whole

  same_calls : as_calls x ≡ singles
  unfolding site_reaching reaching on_sizes all_on_sizes singly one_by_one
  same_calls = refl

  same : SameNumbers x
  same = same_numbers x

  -- Each number is the order layer's.
  bytes_are : (f : ℕ) → bytes_sent store_calls x f ≡ bytes_sent order_calls reaching f
  bytes_are f = same.bytes_same f ∙ ap (λ (y : Stretch order_calls). bytes_sent order_calls y f) same_calls ∙ ap (bytes_by order_calls f) singles_same.sent_same

  largest_is : largest_since_reset store_calls x ≡ largest_since_reset order_calls reaching
  largest_is = same.largest_same ∙ ap (largest_since_reset order_calls) same_calls ∙ ap (λ (h : OrderHistory). largest_of order_calls h.left) singles_same.history_same

  marks_are : (f : ℕ) → one_plus_marks store_calls x f ≡ one_plus_marks order_calls reaching f
  marks_are f = same.marks_same f ∙ ap (λ (y : Stretch order_calls). one_plus_marks order_calls y f) same_calls ∙ ap (sum_of turn_flow f one_plus_mark) singles_same.turns_same

  weight_is : (f : ℕ) → weight_of store_calls x f ≡ weight_of order_calls reaching f
  weight_is f = same.weight_same f ∙ ap (λ (y : Stretch order_calls). weight_of order_calls y f) same_calls

  before_is : (f : ℕ) → surplus_before store_calls x f ≡ surplus_before order_calls reaching f
  before_is f = same.before_same f ∙ ap (λ (y : Stretch order_calls). surplus_before order_calls y f) same_calls

  after_is : (f : ℕ) → surplus_after store_calls x f ≡ surplus_after order_calls reaching f
  after_is f = same.after_same f ∙ ap (λ (y : Stretch order_calls). surplus_after order_calls y f) same_calls ∙ ap (λ (h : OrderHistory). (flow_at h.state f).surplus) singles_same.history_same

  -- And the same flows wait.
  waits : (f : ℕ) → WaitingThroughout order_calls reaching f → WaitingThroughout store_calls x f
  waits f w = waits_in_store x f (subst (λ (y : Stretch order_calls). WaitingThroughout order_calls y f) (sym same_calls) (w.0, singles_same.waiting_same f w.1))

  turns : (f : ℕ) → WaitingThroughout order_calls reaching f → ConsecutiveTurns order_calls reaching f → ConsecutiveTurns store_calls x f
  turns f w t =
      turns_in_store x f (subst (λ (y : Stretch order_calls). Waiting (begun order_calls y).state f) (sym same_calls) w.0)
      (subst (λ (y : Stretch order_calls). ConsecutiveTurns order_calls y f) (sym same_calls)
      (record {
        before_the_first = t.before_the_first;
        after_the_last = λ allowed sent e.
            t.after_the_last allowed sent (ap (λ (h : OrderHistory). h.state.round.turn) (sym singles_same.history_same) ∙ e);
        waiting_after_every = singles_same.waiting_same f t.waiting_after_every;
      }))

  -- The exact bound is reached on bytes, whatever the store held.
  pub bound_is_reached_on_bytes : Reaches store_calls x
  bound_is_reached_on_bytes =
      record {
        first_waits = waits 0 bound_is_reached.first_waits;
        second_waits = waits 1 bound_is_reached.second_waits;
        something_sent = omega (arith, same.count_same, ap (λ (y : Stretch order_calls). length (sent_in order_calls (begun order_calls y).state y.calls)) same_calls, ap {B = ℕ} length singles_same.sent_same, bound_is_reached.something_sent);
        numbers = (λ i. bytes_are 0 i ∷ bytes_are 1 i ∷ weight_is 0 i ∷ weight_is 1 i ∷ largest_is i ∷ []) ∙ bound_is_reached.numbers;
        exactly_as_far =
            (λ i. weight_is 0 i * bytes_are 1 i)
            ∙ bound_is_reached.exactly_as_far
            ∙ sym (λ i. weight_is 1 i * bytes_are 0 i + (largest_is i * (weight_is 0 i * weight_is 1 i) + (largest_is i - 1) * (weight_is 0 i + weight_is 1 i)));
        turns_of_second = turns 1 bound_is_reached.second_waits bound_is_reached.turns_of_second;
        second_account = (λ i. bytes_are 1 i ∷ before_is 1 i ∷ after_is 1 i ∷ weight_is 1 i ∷ marks_are 1 i ∷ []) ∙ bound_is_reached.second_account;
        turns_of_first = turns 0 bound_is_reached.first_waits bound_is_reached.turns_of_first;
        first_account = (λ i. bytes_are 0 i ∷ before_is 0 i ∷ after_is 0 i ∷ weight_is 0 i ∷ marks_are 0 i ∷ []) ∙ bound_is_reached.first_account;
      }
