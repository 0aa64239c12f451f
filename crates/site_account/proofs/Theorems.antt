-- Demand 3 over store calls. The account balances, whichever store calls come and whatever is lent; hence two flows that both have packets waiting
-- share the link by their weights, counted in the bytes that left.
use Prim.Native.Nat.{ℕ, ◌+◌, ◌*◌, ◌-◌, ◌≤◌}
use mathlib.Core.Path.{◌≡◌}
use native.Mathlib.Omega.{arith}
use lib.ListN.{length}
use Rattle.model.specs.OrderCalls.{packets_of, order_calls}
use Rattle.account.specs.Stretch.{Stretch, begun, ended, sent_in, WaitingThroughout, bytes_sent, largest_since_reset, one_plus_marks, ConsecutiveTurns, weight_of, surplus_before, surplus_after}
use Rattle.account.proofs.Sums.{DifferByAtMost, DifferByLessThan}
use Rattle.account.proofs.Theorems.{account, exact_bound, pair_bound}
use Rattle.store.specs.StoreCalls.{store_calls}
use Rattle.site_account.proofs.Packets.{sized}
use Rattle.site_account.proofs.Agreement.{as_calls, goes_beside, same_numbers, waits_on_sizes, turns_on_sizes}

-- The packets that leave over any store calls have, in order, the flows and the lengths that the order layer's departures tell over the same offers and
-- departures, and so have those that have left since the last reset.
pub departures_agree : (x : Stretch store_calls)
    → (sized (sent_in store_calls (begun store_calls x).state x.calls) ≡ packets_of (sent_in order_calls (begun order_calls (as_calls x)).state (as_calls x).calls))
    × (sized (ended store_calls x).left ≡ packets_of (ended order_calls (as_calls x)).left)
departures_agree x = ((goes_beside x).sent_agree, (goes_beside x).ends.same_left)

-- ---- equal numbers balance alike and lie as close

balance_alike : {bytes before after weight marks bytes' before' after' weight' marks' : ℕ}
    → bytes ≡ bytes' → before ≡ before' → after ≡ after' → weight ≡ weight' → marks ≡ marks'
    → bytes' + before' ≡ after' + weight' * marks' → bytes + before ≡ after + weight * marks
balance_alike a b c d e balance = rw (a, b, c, d, e) balance

close_alike : {wi wj bi bj m wi' wj' bi' bj' m' : ℕ} → wi ≡ wi' → wj ≡ wj' → bi ≡ bi' → bj ≡ bj' → m ≡ m'
    → DifferByAtMost (wj' * bi') (wi' * bj') (m' * (wi' * wj') + (m' - 1) * (wi' + wj'))
    → DifferByAtMost (wj * bi) (wi * bj) (m * (wi * wj) + (m - 1) * (wi + wj))
close_alike a b c d e close = rw (a, b, c, d, e) close

closer_alike : {wi wj bi bj m wi' wj' bi' bj' m' : ℕ} → wi ≡ wi' → wj ≡ wj' → bi ≡ bi' → bj ≡ bj' → m ≡ m'
    → DifferByLessThan (wj' * bi') (wi' * bj') (3 * m' * (wi' * wj')) → DifferByLessThan (wj * bi) (wi * bj) (3 * m * (wi * wj))
closer_alike a b c d e close = rw (a, b, c, d, e) close

-- ---- the theorems

-- THE ACCOUNT, over store calls. Over consecutive completed turns of a flow that has a packet waiting after every call, bytes that left plus surplus
-- carried into the first turn equal surplus after the last plus weight times the sum of one plus the mark of each turn's round.
pub store_account : (x : Stretch store_calls) (f : ℕ) → ConsecutiveTurns store_calls x f
    → bytes_sent store_calls x f + surplus_before store_calls x f ≡ surplus_after store_calls x f + weight_of store_calls x f * one_plus_marks store_calls x f
store_account x f turns =
    let same = same_numbers x in
    balance_alike (same.bytes_same f) (same.before_same f) (same.after_same f) (same.weight_same f) (same.marks_same f)
    (account (as_calls x) f (turns_on_sizes x f turns))

-- THE EXACT BOUND, over store calls. With m the longest packet that anyone has sent since the last reset: two flows that both have packets waiting
-- before and after every call differ, each one's bytes times the other's weight, by at most m times both weights and m - 1 times their sum.
pub store_exact_bound : (x : Stretch store_calls) (i j : ℕ) → WaitingThroughout store_calls x i → WaitingThroughout store_calls x j
    → DifferByAtMost (weight_of store_calls x j * bytes_sent store_calls x i) (weight_of store_calls x i * bytes_sent store_calls x j)
    (largest_since_reset store_calls x * (weight_of store_calls x i * weight_of store_calls x j) + (largest_since_reset store_calls x - 1) * (weight_of store_calls x i + weight_of store_calls x j))
store_exact_bound x i j wi wj =
    let same = same_numbers x in
    close_alike (same.weight_same i) (same.weight_same j) (same.bytes_same i) (same.bytes_same j) same.largest_same
    (exact_bound (as_calls x) i j (waits_on_sizes x i wi) (waits_on_sizes x j wj))

-- THE PAIR BOUND, over store calls. Over any stretch of store calls without a reset, from any moment on, in which two flows both have packets waiting
-- before and after every call and at least one packet leaves, each one's bytes times the other's weight differ by less than three times the longest
-- packet that anyone has sent since the last reset times both weights.
pub store_pair_bound : (x : Stretch store_calls) (i j : ℕ) → WaitingThroughout store_calls x i → WaitingThroughout store_calls x j → 1 ≤ length (sent_in store_calls (begun store_calls x).state x.calls)
    → DifferByLessThan (weight_of store_calls x j * bytes_sent store_calls x i) (weight_of store_calls x i * bytes_sent store_calls x j) (3 * largest_since_reset store_calls x * (weight_of store_calls x i * weight_of store_calls x j))
store_pair_bound x i j wi wj something =
    let same = same_numbers x in
    closer_alike (same.weight_same i) (same.weight_same j) (same.bytes_same i) (same.bytes_same j) same.largest_same
    (pair_bound (as_calls x) i j (waits_on_sizes x i wi) (waits_on_sizes x j wj) (omega (arith, same.count_same, something)))
