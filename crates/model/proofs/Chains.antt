-- Calls one after the other: a chain of calls in two parts, of any kind; the rules of the state after any chain of the order layer's calls, and
-- departures made by single calls.
use Prim.Native.Nat.{ℕ, zero, suc}
use mathlib.Core.Path.{◌≡◌, refl, sym, ap, ap₂, ◌∙◌, subst}
use mathlib.Core.List.{List, [], ◌∷◌, ◌++◌, append-nil, append_assoc}
use lib.ListN.{replicate}
use Rattle.model.specs.Model.{Scheduler, new_scheduler}
use Rattle.model.specs.Calls.{departed, departures, and_then}
use Rattle.model.specs.Rules.{Rules}
use Rattle.model.specs.Replies.{sent_by}
use Rattle.model.specs.Chain.{Effect, Kind, HistoryOf, begin, moved, next, chain, over}
use Rattle.model.specs.OrderCalls.{Call, Packet, departing, turn_then, turns_of, does, order_calls}
use Rattle.model.specs.declared.Reply.{Reply}
use Rattle.model.specs.declared.Reply.TheVariants.{Departure, Idle, Refused}
use Rattle.model.specs.declared.Sent.{Sent}
use Rattle.model.proofs.Keeps.{every_call_keeps}
use Rattle.model.proofs.Departing.{idle_stays, never_refused, SendsOrStays, sends, stays, sends_or_stays}

module _ (K : Kind) where
  pub chain_append : (h : HistoryOf K) (a b : List K.Call) → chain K h (a ++ b) ≡ chain K (chain K h a) b
  unfolding chain
  chain_append h [] b = refl
  chain_append h (c ∷ a) b = chain_append (next K h c) a b

  pub over_append : {A : Type 0} (part : Effect K.State K.Packet K.Departure → List A) (h : HistoryOf K) (a b : List K.Call)
      → over K part h.state (a ++ b) ≡ over K part h.state a ++ over K part (chain K h a).state b
  unfolding chain next moved over
  over_append part h [] b = refl
  over_append part h (c ∷ a) b =
      ap (λ l. part (K.does h.state c) ++ l) (over_append part (next K h c) a b)
      ∙ sym (append_assoc (part (K.does h.state c)) (over K part (K.does h.state c).state a) _)

-- ---- the order layer's

abbrev pub OrderHistory : Type 0
OrderHistory = HistoryOf order_calls

-- The history of a new scheduler.
abbrev pub start : OrderHistory
start = begin new_scheduler

pub chain_keeps : (h : OrderHistory) (calls : List Call) → Rules h.state → Rules (chain order_calls h calls).state
unfolding chain next moved
chain_keeps h [] R = R
chain_keeps h (c ∷ calls) R = chain_keeps (next order_calls h c) calls (every_call_keeps h.state c R)

-- What every call keeps of a history whose state keeps the rules, every chain of calls keeps.
pub chain_holds : (P : OrderHistory → Type 0) → ((h : OrderHistory) (c : Call) → Rules h.state → P h → P (next order_calls h c))
    → (h : OrderHistory) (calls : List Call) → Rules h.state → P h → P (chain order_calls h calls)
unfolding chain next moved
chain_holds P keeps h [] R p = p
chain_holds P keeps h (c ∷ calls) R p = chain_holds P keeps (next order_calls h c) calls (every_call_keeps h.state c R) (keeps h c R p)

-- One single departure call in a history.
one_single : (h : OrderHistory)
    → next order_calls h departing
    ≡ record { state = (departed h.state).state; accepted = h.accepted; left = h.left ++ sent_by (departed h.state).reply }
unfolding next moved does
one_single h =
    ap (λ (l : List Packet). record { state = (departed h.state).state; accepted = l; left = h.left ++ sent_by (departed h.state).reply })
    (append-nil h.accepted)

idle_single : (h : OrderHistory) → (departed h.state).reply ≡ Idle → next order_calls h departing ≡ h
idle_single h e =
    one_single h
    ∙ ap₂ (λ (t : Scheduler) (l : List Sent). record { state = t; accepted = h.accepted; left = l })
    (idle_stays h.state e)
    (ap (λ (r : Reply). h.left ++ sent_by r) e ∙ append-nil h.left)

idle_from_then : (n : ℕ) (h : OrderHistory) → (departed h.state).reply ≡ Idle → chain order_calls h (replicate n departing) ≡ h
unfolding chain
idle_from_then zero h e = refl
idle_from_then (suc n) h e = ap (λ (k : OrderHistory). chain order_calls k (replicate n departing)) (idle_single h e) ∙ idle_from_then n h e

-- N single calls make the departures that a burst of N makes, and leave its state: those after the first idle are idle too.
pub single_calls_make_departures : (n : ℕ) (h : OrderHistory)
    → chain order_calls h (replicate n departing)
    ≡ record { state = (departures n h.state).state; accepted = h.accepted; left = h.left ++ (departures n h.state).sent }
unfolding chain departures and_then
single_calls_make_departures zero h = ap (λ (l : List Sent). record { state = h.state; accepted = h.accepted; left = l }) (sym (append-nil h.left))
single_calls_make_departures (suc n) h =
    by (departed h.state).reply refl
    (single_calls_make_departures n (record { state = t; accepted = h.accepted; left = h.left ++ sent_by (departed h.state).reply }))
  where
    t : Scheduler
    t = (departed h.state).state

    by : (reply : Reply) → (departed h.state).reply ≡ reply
        → chain order_calls (record { state = t; accepted = h.accepted; left = h.left ++ sent_by (departed h.state).reply }) (replicate n departing)
        ≡ record { state = (departures n t).state; accepted = h.accepted; left = h.left ++ sent_by (departed h.state).reply ++ (departures n t).sent }
        → chain order_calls (next order_calls h departing) (replicate n departing)
        ≡ record {
          state = (and_then reply t (departures n t)).state;
          accepted = h.accepted;
          left = h.left ++ (and_then reply t (departures n t)).sent;
        }
    by (Departure d) e ih =
        ap (λ (k : OrderHistory). chain order_calls k (replicate n departing)) (one_single h)
        ∙ ih
        ∙ ap (λ (l : List Sent). record { state = (departures n t).state; accepted = h.accepted; left = l })
        (append_assoc h.left (sent_by (departed h.state).reply) (departures n t).sent
        ∙ ap (λ (r : Reply). h.left ++ (sent_by r ++ (departures n t).sent)) e)
    by Idle e ih =
        idle_from_then (suc n) h e
        ∙ ap₂ (λ (k : Scheduler) (l : List Sent). record { state = k; accepted = h.accepted; left = l })
        (sym (idle_stays h.state e))
        (sym (append-nil h.left))
    by (Refused k) e ih = absurd (never_refused h.state k e)

-- ---- where nothing was sent nothing will be

abbrev pub SendsNothing : Reply → Type 0
SendsNothing (Departure d) = ⊥
SendsNothing Idle = Unit {0}
SendsNothing (Refused k) = Unit {0}

pub record Still (n : ℕ) (s : Scheduler) : Type 0 where
  pub state_stays : (departures n s).state ≡ s
  pub nothing_sent : (departures n s).sent ≡ []
  pub no_turn_completed : turns_of n s ≡ []

idle_is_still : (n : ℕ) (s : Scheduler) → (departed s).reply ≡ Idle → (departed s).state ≡ s → Still n s
unfolding departures and_then turns_of turn_then
idle_is_still zero s e q = record { state_stays = refl; nothing_sent = refl; no_turn_completed = refl }
idle_is_still (suc n) s e q = record { state_stays = rw e q; nothing_sent = rw e; no_turn_completed = rw e }

pub still_after : (n : ℕ) (s : Scheduler) → SendsNothing (departed s).reply → Still n (departed s).state
still_after n s nothing = go (sends_or_stays s)
  where
    go : SendsOrStays s → Still n (departed s).state
    go (sends d e) = absurd (subst SendsNothing e nothing)
    go (stays e q t l) = subst (Still n) (sym q) (idle_is_still n s e q)
