-- What each call does to a flow's queue: what waited and what is accepted now is what leaves now followed by what waits after.
use Prim.Native.Nat.{ℕ, zero, suc}
use mathlib.Core.Path.{◌≡◌, refl, sym, ap, ap₂, ◌∙◌}
use mathlib.Core.List.{List, [], ◌∷◌, ◌++◌, append-nil, append_assoc}
use mathlib.Core.Bool.{Bool, cond}
use lib.Dec.{eqb}
use borrow.Author.Tests.{eq-eqb, ne_eqb}
use Rattle.model.specs.Choose.{if_ok}
use Rattle.model.specs.Model.{Flow, Round, Scheduler, flow_at}
use Rattle.model.specs.Steps.{packet_joined, flow_lined}
use Rattle.model.specs.Calls.{put, open_flow, opened, offered, departed, departures, and_then, unless_refused, open_answer, offer_answer}
use Rattle.model.specs.Rules.{Rules}
use Rattle.model.specs.Replies.{sent_by, taken_by}
use Rattle.model.specs.OrderCalls.{Packet, sizes_of, packets_of}
use Rattle.model.specs.declared.Reply.{Reply}
use Rattle.model.specs.declared.Reply.TheVariants.{Departure, Idle, Refused}
use Rattle.model.proofs.Refusals.{MayOpen, may_open, may_offer}
use Rattle.model.proofs.Flows.{at_others, here_now}
use Rattle.model.proofs.Keeps.{departed_keeps}
use Rattle.model.proofs.Departing.{Leaves, departed_leaves, SendsOrStays, sends, stays, sends_or_stays}
use Rattle.model.proofs.Line.{same_or_other}
use Rattle.model.proofs.Choosing.{ok_has}
use Rattle.std.specs.Prelude.{Ok, Err}
use Rattle.model.specs.Replies.{Answer}

pub sizes_append : (f : ℕ) (a b : List Packet) → sizes_of f (a ++ b) ≡ sizes_of f a ++ sizes_of f b
unfolding sizes_of
sizes_append f [] b = refl
sizes_append f (p ∷ a) b = ap (λ (l : List ℕ). cond (eqb p.flow f) (p.size ∷ []) [] ++ l) (sizes_append f a b) ∙ sym (append_assoc (cond (eqb p.flow f) (p.size ∷ []) []) (sizes_of f a) (sizes_of f b))

-- One packet of flow f, asked for by its own flow and by another.
its_own : (f size : ℕ) → sizes_of f (record { flow = f; size = size } ∷ []) ≡ size ∷ []
unfolding sizes_of
its_own f size = ap (λ (b : Bool). cond b (size ∷ []) [] ++ []) (eq-eqb f f refl)

anothers : (g f size : ℕ) → (g ≡ f → ⊥) → sizes_of g (record { flow = f; size = size } ∷ []) ≡ []
unfolding sizes_of
anothers g f size d = ap (λ (b : Bool). cond b (size ∷ []) [] ++ []) (ne_eqb f g (λ e. d (sym e)))

-- What waited in a flow is what a departure call takes of it, if anything, followed by what waits after.
pub departed_queue : (s : Scheduler) → Rules s → (g : ℕ)
    → (flow_at s g).queue ≡ sizes_of g (packets_of (sent_by (departed s).reply)) ++ (flow_at (departed s).state g).queue
unfolding sizes_of
departed_queue s R g = by (sends_or_stays s)
  where
    by : SendsOrStays s → (flow_at s g).queue ≡ sizes_of g (packets_of (sent_by (departed s).reply)) ++ (flow_at (departed s).state g).queue
    by (sends d e) =
        let L : Leaves s d (departed s).state = departed_leaves s R d e in
        rw e
        (same_or_other (λ h. (flow_at s h).queue ≡ sizes_of h (packets_of (d ∷ [])) ++ (flow_at (departed s).state h).queue) d.flow g
        (L.first_in_queue ∙ ap (λ (l : List ℕ). l ++ (flow_at (departed s).state d.flow).queue) (sym (its_own d.flow d.size)))
        (λ n. sym (ap₂ (λ (a b : List ℕ). a ++ b) (anothers g d.flow d.size n) (ap (λ (y : Flow). y.queue) (L.others_stay g n)))))
    by (stays e same t l) =
        sym (ap₂ (λ (r : Reply) (k : Scheduler). sizes_of g (packets_of (sent_by r)) ++ (flow_at k g).queue) e same)

-- The same over any number of departures.
pub departures_queue : (n : ℕ) (s : Scheduler) → Rules s → (g : ℕ)
    → (flow_at s g).queue ≡ sizes_of g (packets_of (departures n s).sent) ++ (flow_at (departures n s).state g).queue
unfolding departures and_then sizes_of
departures_queue zero s R g = refl
departures_queue (suc n) s R g = by (departed s).reply refl (departures_queue n (departed s).state (departed_keeps s R) g)
  where
    t : Scheduler
    t = (departed s).state

    by : (reply : Reply) → (departed s).reply ≡ reply
        → (flow_at t g).queue ≡ sizes_of g (packets_of (departures n t).sent) ++ (flow_at (departures n t).state g).queue
        → (flow_at s g).queue ≡ sizes_of g (packets_of (and_then reply t (departures n t)).sent) ++ (flow_at (and_then reply t (departures n t)).state g).queue
    by (Departure d) e ih =
        departed_queue s R g
        ∙ ap₂ (λ (r : Reply) (l : List ℕ). sizes_of g (packets_of (sent_by r)) ++ l) e ih
        ∙ sym (append_assoc (sizes_of g (packets_of (d ∷ []))) (sizes_of g (packets_of (departures n t).sent)) (flow_at (departures n t).state g).queue)
        ∙ ap (λ (l : List ℕ). l ++ (flow_at (departures n t).state g).queue) (sym (sizes_append g (packets_of (d ∷ [])) (packets_of (departures n t).sent)))
    by Idle e ih = departed_queue s R g ∙ ap (λ (r : Reply). sizes_of g (packets_of (sent_by r)) ++ (flow_at t g).queue) e
    by (Refused k) e ih = departed_queue s R g ∙ ap (λ (r : Reply). sizes_of g (packets_of (sent_by r)) ++ (flow_at t g).queue) e

-- Opening a flow leaves every queue.
pub opened_queue : (s : Scheduler) (f weight : ℕ) → Rules s → (g : ℕ) → (flow_at (opened s f weight).state g).queue ≡ (flow_at s g).queue
unfolding opened unless_refused
opened_queue s f weight R g =
    ok_has (λ t. (flow_at t g).queue ≡ (flow_at s g).queue) (open_answer f weight (flow_at s f)) (put s f (open_flow weight) s.round) s
    (λ e. effect (may_open f weight (flow_at s f) e)) refl
  where
    effect : MayOpen f weight (flow_at s f) → (flow_at (put s f (open_flow weight) s.round) g).queue ≡ (flow_at s g).queue
    effect may =
        same_or_other (λ h. (flow_at (put s f (open_flow weight) s.round) h).queue ≡ (flow_at s h).queue) f g
        (ap (λ (y : Flow). y.queue) (here_now s R may.flow_in_range (open_flow weight) s.round)
        ∙ sym ((R.flow_rules f).open_if_waiting may.not_open))
        (λ d. ap (λ (y : Flow). y.queue) (at_others s f (open_flow weight) s.round g d))

-- An accepted packet joins the end of its flow's queue.
pub offered_queue : (s : Scheduler) (f size : ℕ) → Rules s → (g : ℕ)
    → (flow_at (offered s f size).state g).queue ≡ (flow_at s g).queue ++ sizes_of g (taken_by (offered s f size).reply (record { flow = f; size = size }))
unfolding offered unless_refused packet_joined sizes_of
offered_queue s f size R g = by (offer_answer f size (flow_at s f)) refl
  where
    x : Flow
    x = packet_joined (flow_at s f) size

    r : Round
    r = flow_lined s.round f (flow_at s f)

    nothing : sizes_of g [] ≡ []
    nothing = refl

    by : (a : Answer) → offer_answer f size (flow_at s f) ≡ a
        → (flow_at (if_ok a (put s f x r) s) g).queue ≡ (flow_at s g).queue ++ sizes_of g (taken_by a (record { flow = f; size = size }))
    by (Ok tt) e =
        same_or_other (λ h. (flow_at (put s f x r) h).queue ≡ (flow_at s h).queue ++ sizes_of h (record { flow = f; size = size } ∷ [])) f g
        (ap (λ (y : Flow). y.queue) (here_now s R (may_offer f size (flow_at s f) e).flow_in_range x r)
        ∙ ap (λ (l : List ℕ). (flow_at s f).queue ++ l) (sym (its_own f size)))
        (λ d.
        ap (λ (y : Flow). y.queue) (at_others s f x r g d)
        ∙ sym (append-nil (flow_at s g).queue)
        ∙ ap (λ (l : List ℕ). (flow_at s g).queue ++ l) (sym (anothers g f size d)))
    by (Err n) e = sym (ap (λ (l : List ℕ). (flow_at s g).queue ++ l) nothing ∙ append-nil (flow_at s g).queue)
