-- One closed stretch with its numbers, on which the exact bound is reached and the account has something to balance.
-- Flow 0 weighs 1 and flow 1 weighs 2. In a round with mark 0 they send 3 and 2 bytes, then flow 0 sends 3 more in the next, whose mark is 2.
-- Here the stretch begins. Flow 1 sends 3, 2 and 3 in its turn of that round; in the next, again with mark 2, flow 0 sends 1 and flow 1 sends 3 and 3.
use Prim.Native.Nat.{◌+◌, ◌*◌, ◌-◌, ◌≤◌}
use mathlib.Core.Path.{◌≡◌, refl}
use mathlib.Core.List.{List, [], ◌∷◌}
use lib.ListN.{length}
use Rattle.model.specs.Model.{new_scheduler}
use Rattle.model.specs.Chain.{Kind}
use Rattle.model.specs.OrderCalls.{Call, opening, offering, departing, bursting, order_calls}
use Rattle.account.specs.Stretch.{Stretch, begun, ended, BetweenTurns, WaitingThroughout, ConsecutiveTurns, sent_in, bytes_sent, one_plus_marks, weight_of, surplus_before, surplus_after, largest_since_reset}

abbrev pub before_reaching : List Call
before_reaching =
    opening 0 1 ∷ opening 1 2
    ∷ offering 0 3 ∷ offering 0 3 ∷ offering 0 1 ∷ offering 0 1
    ∷ offering 1 2 ∷ offering 1 3 ∷ offering 1 2 ∷ offering 1 3 ∷ offering 1 3 ∷ offering 1 3
    ∷ departing ∷ departing ∷ departing ∷ []

-- An offer, a burst and two refused calls among the departures.
unfoldable pub reaching : Stretch order_calls
reaching =
    record {
      first = new_scheduler;
      new = refl;
      before = before_reaching;
      calls = departing ∷ offering 1 1 ∷ bursting 4 (0 ∷ 0 ∷ 0 ∷ 0 ∷ []) ∷ offering 40 1 ∷ bursting 1 [] ∷ departing ∷ [];
    }

-- The same without its last departure.
unfoldable pub midway : Stretch order_calls
midway =
    record {
      first = new_scheduler;
      new = refl;
      before = before_reaching;
      calls = departing ∷ offering 1 1 ∷ bursting 4 (0 ∷ 0 ∷ 0 ∷ 0 ∷ []) ∷ [];
    }

-- Both wait throughout; with packets of at most 3 bytes, 14 bytes times 1 exceed 1 byte times 2 by 3 * 2 + 2 * 3, where 3 * 3 * 2 is asked for.
pub record Reaches (K : Kind) (x : Stretch K) : Type 0 where
  pub first_waits : WaitingThroughout K x 0
  pub second_waits : WaitingThroughout K x 1
  pub something_sent : 1 ≤ length (sent_in K (begun K x).state x.calls)
  pub numbers : bytes_sent K x 0 ∷ bytes_sent K x 1 ∷ weight_of K x 0 ∷ weight_of K x 1 ∷ largest_since_reset K x ∷ [] ≡ 1 ∷ 14 ∷ 1 ∷ 2 ∷ 3 ∷ []
  pub exactly_as_far : weight_of K x 0 * bytes_sent K x 1
      ≡ weight_of K x 1 * bytes_sent K x 0
      + (largest_since_reset K x * (weight_of K x 0 * weight_of K x 1) + (largest_since_reset K x - 1) * (weight_of K x 0 + weight_of K x 1))
  -- flow 1 has completed two turns: 14 + 0 = 2 + 2 * (3 + 3)
  pub turns_of_second : ConsecutiveTurns K x 1
  pub second_account : bytes_sent K x 1 ∷ surplus_before K x 1 ∷ surplus_after K x 1 ∷ weight_of K x 1 ∷ one_plus_marks K x 1 ∷ [] ≡ 14 ∷ 0 ∷ 2 ∷ 2 ∷ 6 ∷ []
  -- flow 0 one: 1 + 2 = 0 + 1 * 3
  pub turns_of_first : ConsecutiveTurns K x 0
  pub first_account : bytes_sent K x 0 ∷ surplus_before K x 0 ∷ surplus_after K x 0 ∷ weight_of K x 0 ∷ one_plus_marks K x 0 ∷ [] ≡ 1 ∷ 2 ∷ 0 ∷ 1 ∷ 3 ∷ []

-- Midway a turn of flow 1 is open: flow 0 is between its turns all the same, and its account balances; flow 1 is not between its own.
pub record Midway (x : Stretch order_calls) : Type 0 where
  pub turns_of_first : ConsecutiveTurns order_calls x 0
  pub first_account : bytes_sent order_calls x 0 ∷ surplus_before order_calls x 0 ∷ surplus_after order_calls x 0 ∷ weight_of order_calls x 0 ∷ one_plus_marks order_calls x 0 ∷ []
      ≡ 1 ∷ 2 ∷ 0 ∷ 1 ∷ 3 ∷ []
  pub second_in_turn : BetweenTurns (ended order_calls x).state 1 → ⊥
