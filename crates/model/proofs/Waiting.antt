-- How many packets wait in all flows together, what each call makes of that number, and that no burst makes more departures.
use Prim.Native.Nat.{ℕ, zero, suc, ◌+◌, ◌*◌, ◌<◌, ◌≤◌}
use native.Mathlib.Decide.{dec_lt}
use native.Mathlib.Omega.{arith}
use mathlib.Core.List.{List, [], ◌∷◌}
use mathlib.Core.Path.{◌≡◌, refl, ap, subst}
use lib.ListN.{length, get_or, set, length-append, get_or-eq_default}
use lib.Seq.{set_out}
use Rattle.model.specs.Limits.{flow_limit, queue_limit}
use Rattle.model.specs.Model.{Flow, Scheduler, closed_flow, flow_at, new_scheduler}
use Rattle.model.specs.Steps.{packet_joined, flow_lined, whose}
use Rattle.model.specs.Calls.{put, open_flow, next_visit, departed, and_then, departures}
use Rattle.model.specs.Rules.{Rules}
use Rattle.model.specs.declared.Reply.{Reply}
use Rattle.model.specs.declared.Reply.TheVariants.{Departure, Idle, Refused}
use Rattle.model.specs.declared.Sent.{Sent}
use Rattle.model.proofs.Standing.{whose_in_reach}
use Rattle.model.proofs.Flows.{here_now}
use Rattle.model.proofs.Keeps.{departed_keeps}
use Rattle.model.proofs.Departing.{Leaves, departed_leaves}

-- ---- the packets of a list of flows

queued_in_all : List Flow → ℕ
queued_in_all [] = 0
queued_in_all (x ∷ l) = length x.queue + queued_in_all l

pub waiting : Scheduler → ℕ
waiting s = queued_in_all s.flows

pub nothing_waits : waiting new_scheduler ≡ 0
unfolding waiting queued_in_all new_scheduler
nothing_waits = refl

queued : List Flow → ℕ → ℕ
queued l f = length (get_or l f closed_flow).queue

queued_in_all_set : (l : List Flow) (f : ℕ) (x : Flow) → f < length l → queued_in_all (set l f x) + queued l f ≡ queued_in_all l + length x.queue
unfolding queued_in_all queued
queued_in_all_set [] f x h = absurd (omega arith)
queued_in_all_set (y ∷ l) zero x h = omega arith
queued_in_all_set (y ∷ l) (suc f) x h = omega (arith, queued_in_all_set l f x (omega arith))

none_queued : (l : List Flow) (f : ℕ) → length l ≤ f → queued l f ≡ 0
unfolding queued
none_queued l f h = ap (λ (x : Flow). length x.queue) (get_or-eq_default l closed_flow h)

queued_in_all_grows : (l : List Flow) (f : ℕ) (x : Flow) (k : ℕ) → length x.queue ≤ queued l f + k → queued_in_all (set l f x) ≤ queued_in_all l + k
queued_in_all_grows l f x k h =
    elim (dec_lt f (length l)) [
      | yes b ↦ omega (arith, queued_in_all_set l f x b)
      | no b ↦ omega (arith, ap queued_in_all (set_out l f x (omega arith)))
    ]

queued_in_all_falls : (l : List Flow) (f : ℕ) (x : Flow) → length x.queue < queued l f → queued_in_all (set l f x) < queued_in_all l
queued_in_all_falls l f x h =
    elim (dec_lt f (length l)) [
      | yes b ↦ omega (arith, queued_in_all_set l f x b)
      | no b ↦ absurd (omega (arith, none_queued l f (omega arith)))
    ]

-- ---- open and offer, where nothing is refused

pub opening_waits : (s : Scheduler) (f weight : ℕ) → waiting (put s f (open_flow weight) s.round) ≤ waiting s + 1
unfolding put waiting
opening_waits s f weight = queued_in_all_grows s.flows f (open_flow weight) 1 (omega arith)

pub offering_waits : (s : Scheduler) (f size : ℕ) → waiting (put s f (packet_joined (flow_at s f) size) (flow_lined s.round f (flow_at s f))) ≤ waiting s + 1
unfolding put waiting packet_joined queued
offering_waits s f size = queued_in_all_grows s.flows f (packet_joined (flow_at s f) size) 1 (omega (arith, length-append (flow_at s f).queue (size ∷ [])))

-- ---- a departure: one packet less waits

pub one_less : (s : Scheduler) → Rules s → (d : Sent) → (departed s).reply ≡ Departure d → waiting (departed s).state < waiting s
unfolding departed put waiting queued
one_less s R d e =
    queued_in_all_falls s.flows f (next_visit s).flow
    (omega (arith, ap length (subst (λ (g : ℕ). (flow_at s g).queue ≡ d.size ∷ (flow_at (departed s).state g).queue) L.had_the_turn L.first_in_queue), ap (λ (x : Flow). length x.queue) left))
  where
    f : ℕ
    f = whose s.round

    L : Leaves s d (departed s).state
    L = departed_leaves s R d e

    left : flow_at (departed s).state f ≡ (next_visit s).flow
    left = here_now s R (whose_in_reach s R) (next_visit s).flow (next_visit s).round

-- ---- the most that wait, and so the most departures

queued_in_all_at_most : (l : List Flow) (k : ℕ) → ((f : ℕ) → queued l f ≤ k) → queued_in_all l ≤ length l * k
unfolding queued_in_all queued
queued_in_all_at_most [] k h = omega arith
queued_in_all_at_most (x ∷ l) k h = omega (arith, h 0, queued_in_all_at_most l k (λ f. h (suc f)))

pub waiting_at_most : (s : Scheduler) → Rules s → waiting s ≤ flow_limit * queue_limit
unfolding waiting queued
waiting_at_most s R = omega (arith, queued_in_all_at_most s.flows queue_limit (λ f. (R.flow_rules f).waiting_in_range), R.all_flows)

-- Each departure takes a packet that waits.
made_from_waiting : (n : ℕ) (s : Scheduler) → Rules s → length (departures n s).sent ≤ waiting s
unfolding departures and_then
made_from_waiting zero s R = omega arith
made_from_waiting (suc n) s R = by_reply (departed s).reply refl (made_from_waiting n after (departed_keeps s R))
  where
    after : Scheduler
    after = (departed s).state

    by_reply : (reply : Reply) → (departed s).reply ≡ reply → length (departures n after).sent ≤ waiting after
        → length (and_then reply after (departures n after)).sent ≤ waiting s
    by_reply (Departure d) e rest = omega (arith, one_less s R d e)
    by_reply Idle e rest = omega arith
    by_reply (Refused k) e rest = omega arith

pub made_at_most : (n : ℕ) (s : Scheduler) → Rules s → length (departures n s).sent ≤ flow_limit * queue_limit
made_at_most n s R = omega (arith, made_from_waiting n s R, waiting_at_most s R)
