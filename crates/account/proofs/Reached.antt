-- The numbers of the closed stretches, by computation.
use Prim.Native.Nat.{ℕ}
use mathlib.Core.Path.{refl, sym, ap, subst}
use native.Mathlib.Omega.{arith}
use Rattle.model.specs.Model.{new_scheduler}
use Rattle.model.specs.declared.Serving.{Serving}
use Rattle.model.specs.declared.Serving.TheVariants.{NoTurn, Turn}
use Rattle.model.specs.Steps.{packet_joined, flow_lined, round_started, turn_opened, surplus_cleared, first_left, turn_kept, raised, turn_closed, excess_kept, settled, served, visit_by, visit}
use Rattle.model.specs.Calls.{put, unless_refused, opened, offered, departed, and_then, departures, burst_made, burst}
use Rattle.model.specs.Chain.{moved, next, chain, over}
use Rattle.model.specs.OrderCalls.{turn_then, turns_of, does, order_calls}
use Rattle.account.specs.Stretch.{left_over, WaitingAfterEvery, sum_of, largest}
use Rattle.account.proofs.Reaching.{reaching, midway, Reaches, Midway}

abbrev IsOpen : Serving → Type 0
IsOpen NoTurn = ⊥
IsOpen (Turn f allowed sent) = Unit {0}

abbrev flow_in_turn : Serving → ℕ
flow_in_turn NoTurn = 0
flow_in_turn (Turn f allowed sent) = f

pub bound_is_reached : Reaches order_calls reaching
unfolding reaching new_scheduler packet_joined flow_lined round_started turn_opened surplus_cleared first_left turn_kept raised turn_closed excess_kept settled served visit_by visit put unless_refused opened offered departed and_then departures burst_made burst moved next chain over turn_then turns_of does left_over sum_of largest WaitingAfterEvery
bound_is_reached =
    record {
      first_waits = omega arith;
      second_waits = omega arith;
      something_sent = omega arith;
      numbers = refl;
      exactly_as_far = refl;
      turns_of_second =
          record {
            before_the_first = λ allowed sent e. subst IsOpen (sym e) tt;
            after_the_last = λ allowed sent e. subst IsOpen (sym e) tt;
            waiting_after_every = omega arith;
          };
      second_account = refl;
      turns_of_first =
          record {
            before_the_first = λ allowed sent e. subst IsOpen (sym e) tt;
            after_the_last = λ allowed sent e. subst IsOpen (sym e) tt;
            waiting_after_every = omega arith;
          };
      first_account = refl;
    }

pub another_in_turn : Midway midway
unfolding midway new_scheduler packet_joined flow_lined round_started turn_opened surplus_cleared first_left turn_kept raised turn_closed excess_kept settled served visit_by visit put unless_refused opened offered departed and_then departures burst_made burst moved next chain over turn_then turns_of does left_over sum_of largest WaitingAfterEvery
another_in_turn =
    record {
      turns_of_first =
          record {
            before_the_first = λ allowed sent e. subst IsOpen (sym e) tt;
            after_the_last = λ allowed sent e. absurd (omega (arith, ap flow_in_turn e));
            waiting_after_every = omega arith;
          };
      first_account = refl;
      second_in_turn = λ between. between 4 3 refl;
    }
