-- A stretch of calls in which flows wait is a number of moves; and what holds of every history that calls give.
use Prim.Native.Nat.{ℕ, ◌-◌}
use mathlib.Core.Path.{◌≡◌, refl, sym, ap, ◌∙◌, subst}
use mathlib.Core.List.{List, [], ◌∷◌, ◌++◌, append-nil, append_assoc}
use mathlib.Core.Bool.{Bool, false, cond}
use native.Mathlib.Omega.{arith}
use lib.ListN.{length}
use Rattle.model.specs.Model.{Flow, Scheduler, flow_at, new_scheduler}
use Rattle.model.specs.Rules.{Rules}
use Rattle.model.specs.Chain.{moved, next, chain, over}
use Rattle.model.specs.OrderCalls.{Call, resetting, opening, offering, departing, bursting, does, order_calls}
use Rattle.model.specs.declared.Sent.{Sent}
use Rattle.model.proofs.Chains.{OrderHistory}
use Rattle.model.proofs.Keeps.{every_call_keeps, new_closed}
use Rattle.account.specs.Stretch.{left_over, WaitingAfterEvery, sent_in, turns_in, largest}
use Rattle.account.proofs.Sums.{largest_sent}
use Rattle.account.proofs.Circle.{circle_of, Moves, stands, follows, Waits, Backwards}
use Rattle.account.proofs.CallMoves.{call_moves}
use Rattle.account.proofs.Order.{Both}
use Rattle.account.proofs.Within.{Within, within_more, moves_stay_within}
use Rattle.account.proofs.Sums.{largest_append}

-- After a reset nobody waits, so a call after which a flow waits is none.
pub nobody_waits : (f : ℕ) → Waits (flow_at new_scheduler f) → ⊥
nobody_waits f w = absurd (omega (arith, w, ap (λ (x : Flow). length x.queue) (new_closed f)))

no_reset : (s : Scheduler) (f : ℕ) (c : Call) → Waits (flow_at (does s c).state f) → c ≡ resetting → ⊥
unfolding does
no_reset s f c w e = nobody_waits f (subst (λ (d : Call). Waits (flow_at (does s d).state f)) e w)

-- Whether a call is a reset.
resets : (c : Call) → Dec (c ≡ resetting)
resets resetting = yes refl
resets (opening f weight) = no (λ e. let z : ◌≡◌ {A = ℕ} 0 1 = cc in omega arith)
resets (offering f size) = no (λ e. let z : ◌≡◌ {A = ℕ} 0 1 = cc in omega arith)
resets departing = no (λ e. let z : ◌≡◌ {A = ℕ} 0 1 = cc in omega arith)
resets (bursting n list) = no (λ e. let z : ◌≡◌ {A = ℕ} 0 1 = cc in omega arith)

-- A call that is no reset forgets nothing.
nothing_forgotten : (s : Scheduler) (c : Call) → (c ≡ resetting → ⊥) → (does s c).seen.forgets ≡ false
unfolding does
nothing_forgotten s resetting d = absurd (d refl)
nothing_forgotten s (opening f weight) d = refl
nothing_forgotten s (offering f size) d = refl
nothing_forgotten s departing d = refl
nothing_forgotten s (bursting n list) d = refl

-- So what has left is what had left and what leaves.
left_behind : (h : OrderHistory) (c : Call) → (c ≡ resetting → ⊥) → (next order_calls h c).left ≡ h.left ++ (does h.state c).seen.sends
unfolding next moved
left_behind h c d = ap (λ (b : Bool). cond b [] h.left ++ (does h.state c).seen.sends) (nothing_forgotten h.state c d)

both_back : (i j : ℕ) → Backwards (Both i j)
both_back i j flow flow' back w = (back i w.0, back j w.1)

-- A stretch in which two flows wait after every call is a number of moves after each of which both wait.
pub stretch_moves : (i j : ℕ) (h : OrderHistory) (calls : List Call) → Rules h.state
    → WaitingAfterEvery order_calls i h.state calls → WaitingAfterEvery order_calls j h.state calls
    → Moves (Both i j) (circle_of h.state) (circle_of (chain order_calls h calls).state) (sent_in order_calls h.state calls) (turns_in order_calls h.state calls)
unfolding chain next moved over left_over WaitingAfterEvery
stretch_moves i j h [] R v w = stands
stretch_moves i j h (c ∷ calls) R v w =
    follows
    (call_moves (Both i j) (both_back i j) h.state c R (no_reset h.state i c v.0) (v.0, w.0))
    (stretch_moves i j (next order_calls h c) calls (every_call_keeps h.state c R) v.1 w.1)

-- No call of a stretch is a reset, if a flow waits after every one: so the theorems do not ask for it. What has left since the last reset is then, at its
-- end, what had left before it and what leaves in it.
pub left_grows : (f : ℕ) (h : OrderHistory) (calls : List Call) → WaitingAfterEvery order_calls f h.state calls
    → (chain order_calls h calls).left ≡ h.left ++ sent_in order_calls h.state calls
unfolding chain next moved over left_over WaitingAfterEvery
left_grows f h [] w = sym (append-nil h.left)
left_grows f h (c ∷ calls) w =
    left_grows f (next order_calls h c) calls w.1
    ∙ ap (λ (l : List Sent). l ++ sent_in order_calls (does h.state c).state calls) (left_behind h c (no_reset h.state f c w.0))
    ∙ append_assoc h.left (does h.state c).seen.sends (sent_in order_calls (does h.state c).state calls)

-- In every history, marks and surpluses are smaller than the largest packet that has left.
abbrev pub Small : OrderHistory → Type 0
Small h = Within (largest_sent h.left - 1) (circle_of h.state)

pub new_is_small : Within 0 (circle_of new_scheduler)
unfolding new_scheduler
new_is_small = record { mark_within = omega arith; running_within = omega arith; surplus_within = λ f. omega (arith, ap (λ (x : Flow). x.surplus) (new_closed f)) }

-- After a call that is no reset, in what has left with it.
stays_small : (h : OrderHistory) (c : Call) → Rules h.state → (c ≡ resetting → ⊥) → Small h
    → Within (largest_sent (h.left ++ (does h.state c).seen.sends) - 1) (circle_of (does h.state c).state)
stays_small h c R d w =
    moves_stay_within (largest_sent (h.left ++ (does h.state c).seen.sends) - 1)
    (call_moves (λ flow. Unit {0}) (λ flow flow' back u. u) h.state c R d tt)
    (omega (arith, largest_append h.left (does h.state c).seen.sends))
    (within_more (omega (arith, largest_append h.left (does h.state c).seen.sends)) w)

after_reset : (h : OrderHistory) → Small (next order_calls h resetting)
unfolding next moved does largest
after_reset h = new_is_small

call_stays_small : (h : OrderHistory) (c : Call) → Rules h.state → Small h → Small (next order_calls h c)
unfolding next moved
call_stays_small h c R w =
    elim (resets c) [
      | yes e ↦ subst (λ (d : Call). Small (next order_calls h d)) (sym e) (after_reset h)
      | no d ↦ subst (λ (l : List Sent). Within (largest_sent l - 1) (circle_of (does h.state c).state)) (sym (left_behind h c d)) (stays_small h c R d w)
    ]

pub small_reached : (h : OrderHistory) (calls : List Call) → Rules h.state → Small h → Small (chain order_calls h calls)
unfolding chain next moved
small_reached h [] R w = w
small_reached h (c ∷ calls) R w = small_reached (next order_calls h c) calls (every_call_keeps h.state c R) (call_stays_small h c R w)
