-- What is seen of a burst.
use Prim.Native.Nat.{ℕ, zero, suc, ◌≤◌}
use mathlib.Core.Path.{◌≡◌, refl, ap}
use mathlib.Core.List.{List, [], ◌∷◌, ◌++◌}
use mathlib.Core.Bool.{Bool, true, false, cond}
use Rattle.std.specs.Prelude.{ltb, Err}
use native.Mathlib.Omega.{arith}
use borrow.Author.Tests.{le-ltb}
use lib.ListN.{length, drop}
use Rattle.model.specs.Model.{Scheduler}
use Rattle.model.specs.Calls.{Burst, departed, departures, and_then, burst, burst_made, flow_numbers}
use Rattle.model.specs.Replies.{told, of_count, made_by}
use Rattle.model.specs.Chain.{Seen, seen_departing}
use Rattle.model.specs.OrderCalls.{Packet, bursting, does}
use Rattle.model.specs.declared.Refusal.TheVariants.{ListShort}
use Rattle.model.specs.declared.Reply.{Reply}
use Rattle.model.specs.declared.Reply.TheVariants.{Departure, Idle, Refused}
use Rattle.model.specs.declared.Sent.{Sent}

departures_at_most : (n : ℕ) (s : Scheduler) → length (departures n s).sent ≤ n
unfolding departures and_then
departures_at_most zero s = omega arith
departures_at_most (suc n) s = by (departed s).reply (departures_at_most n (departed s).state)
  where
    by : (reply : Reply) → length (departures n (departed s).state).sent ≤ n
        → length (and_then reply (departed s).state (departures n (departed s).state)).sent ≤ suc n
    by (Departure d) few = omega arith
    by Idle few = omega arith
    by (Refused k) few = omega arith

-- Its reply carries the number of departures made, at most the number asked for, and it writes their flow numbers into the list from its start.
pub record BurstShows (n : ℕ) (list : List ℕ) (e : Seen Packet Sent) : Type 0 where
  pub counts : e.says ≡ told (length e.sends ∷ [])
  pub at_most : length e.sends ≤ n
  pub writes : e.back ≡ flow_numbers e.sends ++ drop (length e.sends) list

pub burst_shows : (s : Scheduler) (n : ℕ) (list : List ℕ) → (does s (bursting n list)).seen.says.refusal ≡ 0 → BurstShows n list (does s (bursting n list)).seen
unfolding does burst burst_made
burst_shows s n list = by (ltb (length list) n)
  where
    made : Bool → Burst
    made short = cond short (record { state = s; list = list; reply = Err ListShort }) (burst_made list (departures n s))

    by : (short : Bool) → (of_count (made short).reply).refusal ≡ 0
        → BurstShows n list (seen_departing (of_count (made short).reply) list (made short).list (made_by (made short).reply (departures n s).sent))
    by false none = record { counts = refl; at_most = departures_at_most n s; writes = refl }
    by true none = absurd (omega arith)

-- A list that is long enough is not refused.
burst_passes : (s : Scheduler) (n : ℕ) (list : List ℕ) → n ≤ length list → burst s n list ≡ burst_made list (departures n s)
unfolding burst
burst_passes s n list enough =
    ap (λ (short : Bool). cond short (record { state = s; list = list; reply = Err ListShort }) (burst_made list (departures n s)))
    (le-ltb (length list) n enough)

-- A burst of none.
pub none_asked : (s : Scheduler) (list : List ℕ) → ((does s (bursting 0 list)).state ≡ s) × ((does s (bursting 0 list)).seen ≡ seen_departing (told (0 ∷ [])) list list [])
unfolding does burst_made departures
none_asked s list = (ap (λ (b : Burst). b.state) made, ap (λ (b : Burst). seen_departing (of_count b.reply) list b.list (made_by b.reply [])) made)
  where
    made : burst s 0 list ≡ burst_made list (departures 0 s)
    made = burst_passes s 0 list (omega arith)

-- Where it is not refused its state is that of as many single departures.
pub burst_state : (s : Scheduler) (n : ℕ) (list : List ℕ) → n ≤ length list → (burst s n list).state ≡ (departures n s).state
unfolding burst_made
burst_state s n list enough = ap (λ (b : Burst). b.state) (burst_passes s n list enough)
