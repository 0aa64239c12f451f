-- Each call of the code does what the model's call does, on the scheduler that its state stands for.
use Prim.Native.Nat.{ℕ, zero, suc, ◌≤◌}
use mathlib.Core.Path.{◌≡◌, refl, sym, ap, ◌∙◌, subst}
use mathlib.Core.List.{List, [], ◌∷◌, ◌++◌}
use Rattle.model.specs.Model.{Scheduler, new_scheduler, flow_at}
use Rattle.model.specs.Choose.{ok_with}
use Rattle.steps.specs.Places.{joining_place, end_place}
use Rattle.model.specs.Rules.{Rules, count, standing}
use Rattle.model.specs.Replies.{Answer, Count, of_answer, of_reply, of_count, sent_by, taken_by, made_by}
use Rattle.model.specs.Calls.{opened, offered, unless_refused, offer_answer, departed, departures, and_then, burst}
use Rattle.model.specs.Chain.{Seen, seen_reset, seen_asking, seen_departing}
use Rattle.model.specs.OrderCalls.{Call, Packet, resetting, opening, offering, departing, bursting, does, order_calls}
use Rattle.model.specs.declared.Reply.{Reply}
use Rattle.model.specs.declared.Reply.TheVariants.{Departure, Idle, Refused}
use Rattle.model.specs.declared.Sent.{Sent}
use Rattle.model.proofs.Keeps.{new_keeps, every_call_keeps, opened_keeps, offered_keeps, departed_keeps, burst_keeps}
use Rattle.model.proofs.Standing.{never_twice}
use Rattle.model.proofs.Following.{Follows}
use Rattle.model.proofs.Chains.{SendsNothing, Still, still_after}
use Rattle.order.specs.Encoding.{encode, view, Sound}
use Rattle.order.specs.Promised.{NewGives, DepartGives, answered_as, offered_as, departed_as, counted_as}
use Rattle.order.specs.Runs.{Singles, none, one_more, Does, resets, opens, offers, departs, bursts}
use Rattle.order.specs.State.{State}
use Rattle.std.specs.Prelude.{Result, Ok, Err}
use Rattle.order.specs.declared.Departed.{Departed}
use Rattle.steps.specs.declared.Place.{Place}
use Rattle.model.specs.declared.Outcome.{Outcome}
use Rattle.model.specs.declared.Refusal.{Refusal}
use Rattle.order.proofs.StateLaws.{seen_as, sound_of}

-- A state stands for a scheduler that keeps the rules.
pub record Stands (c : State) (s : Scheduler) : Type 0 where
  pub form : c ≡ encode s
  pub rules : Rules s

pub new_stands : {c : State} → NewGives c → Stands c new_scheduler
new_stands g = record { form = g.outcome; rules = new_keeps }

pub stands_for : {c : State} {s : Scheduler} → Stands c s → view c ≡ s
stands_for S = seen_as S.rules S.form

-- It meets the premise of every call.
pub sound_of_standing : {c : State} {s : Scheduler} → Stands c s → Sound c
sound_of_standing {c} {s} S = subst Sound (sym S.form) (sound_of s S.rules)

-- One scheduler has one form.
pub same_form : {c d : State} {s : Scheduler} → Stands c s → Stands d s → c ≡ d
same_form S T = S.form ∙ sym T.form

-- ---- single departure calls make the departures of the model

record Made (n : ℕ) (s : Scheduler) (sent : List Sent) (t : State) : Type 0 where
  sent_made : sent ≡ (departures n s).sent
  leads_to : t ≡ encode (departures n s).state

-- After one call that replied so, on what the others make.
made_behind : (n : ℕ) (s t : Scheduler) (reply : Reply) (sent : List Sent) (c : State) → (SendsNothing reply → Still n t) → Made n t sent c
    → (sent_by reply ++ sent ≡ (and_then reply t (departures n t)).sent) × (c ≡ encode (and_then reply t (departures n t)).state)
unfolding and_then
made_behind n s t (Departure d) sent c still M = (ap (λ (l : List Sent). d ∷ l) M.sent_made, M.leads_to)
made_behind n s t Idle sent c still M = (M.sent_made ∙ (still tt).nothing_sent, M.leads_to ∙ ap encode (still tt).state_stays)
made_behind n s t (Refused k) sent c still M = (M.sent_made ∙ (still tt).nothing_sent, M.leads_to ∙ ap encode (still tt).state_stays)

singles_made : {n : ℕ} {c t : State} {sent : List Sent} → Singles n c sent t → (s : Scheduler) → Stands c s → Made n s sent t
unfolding departures departed_as
singles_made none s S = record { sent_made = refl; leads_to = S.form }
singles_made (one_more {n} {c} {t} {r} {sent} g more) s S =
    let reply_is : r.reply.reply ≡ (departed s).reply = ap (λ (d : Outcome State Departed). d.reply.reply) g.outcome ∙ ap (λ (k : Scheduler). (departed k).reply) (stands_for S) in
    let then : Stands r.state (departed s).state =
    record {
      form = ap (λ (d : Outcome State Departed). d.state) g.outcome ∙ ap (λ (k : Scheduler). encode (departed k).state) (stands_for S);
      rules = departed_keeps s S.rules;
    } in
    let both = made_behind n s (departed s).state (departed s).reply sent t (still_after n s) (singles_made more (departed s).state then) in
    record { sent_made = ap (λ (k : Reply). sent_by k ++ sent) reply_is ∙ both.0; leads_to = both.1 }

-- ---- every call

-- An answer with a place says and takes what the answer does.
asked_as : (a : Answer) (place : Place) (p : Packet)
    → ◌≡◌ {A = Seen Packet Sent} (seen_asking (of_answer (ok_with a place)) (taken_by (ok_with a place) p)) (seen_asking (of_answer a) (taken_by a p))
asked_as (Ok done) place p = refl
asked_as (Err r) place p = refl

pub follows : (c : State) (s : Scheduler) (call : Call) (t : State) (e : Seen Packet Sent) → Stands c s → Does c call t e → Follows order_calls Does Stands s call t e
unfolding does answered_as offered_as departed_as counted_as offered unless_refused
follows c s call t e S (resets g) = record { stands_then = new_stands g; seen_same = refl }
follows c s call t e S (opens {f} {weight} g) =
    record {
      stands_then =
          record {
            form = ap (λ (a : Outcome State Answer). a.state) g.outcome ∙ ap (λ (k : Scheduler). encode (opened k f weight).state) (stands_for S);
            rules = every_call_keeps s (opening f weight) S.rules;
          };
      seen_same =
          ap (λ (a : Outcome State Answer). seen_asking (of_answer a.reply) []) g.outcome
          ∙ ap (λ (k : Scheduler). seen_asking (of_answer (opened k f weight).reply) []) (stands_for S);
    }
follows c s call t e S (offers {f} {size} g) =
    record {
      stands_then =
          record {
            form = ap (λ (a : Outcome State (Result Place Refusal)). a.state) g.outcome ∙ ap (λ (k : Scheduler). encode (offered k f size).state) (stands_for S);
            rules = every_call_keeps s (offering f size) S.rules;
          };
      seen_same =
          ap (λ (a : Outcome State (Result Place Refusal)). seen_asking (of_answer a.reply) (taken_by a.reply (record { flow = f; size = size }))) g.outcome
          ∙ ap (λ (k : Scheduler). seen_asking (of_answer (joining_place k f size)) (taken_by (joining_place k f size) (record { flow = f; size = size }))) (stands_for S)
          ∙ asked_as (offer_answer f size (flow_at s f)) (end_place f (flow_at s f) size) (record { flow = f; size = size });
    }
follows c s call t e S (departs g) =
    record {
      stands_then =
          record {
            form = ap (λ (a : Outcome State Departed). a.state) g.outcome ∙ ap (λ (k : Scheduler). encode (departed k).state) (stands_for S);
            rules = every_call_keeps s departing S.rules;
          };
      seen_same =
          ap (λ (a : Outcome State Departed). seen_departing (of_reply a.reply.reply) [] [] (sent_by a.reply.reply)) g.outcome
          ∙ ap (λ (k : Scheduler). seen_departing (of_reply (departed k).reply) [] [] (sent_by (departed k).reply)) (stands_for S);
    }
follows c s call t e S (bursts {n} {before} {list} {r} {sent} g singles) =
    let counted : r.reply ≡ (burst s n before).reply = ap (λ (a : Outcome State Count). a.reply) g.outcome ∙ ap (λ (k : Scheduler). (burst k n before).reply) (stands_for S) in
    let written : list ≡ (burst s n before).list = g.written ∙ ap (λ (k : Scheduler). (burst k n before).list) (stands_for S) in
    let made : sent ≡ (departures n s).sent = (singles_made singles s S).sent_made in
    record {
      stands_then =
          record {
            form = ap (λ (a : Outcome State Count). a.state) g.outcome ∙ ap (λ (k : Scheduler). encode (burst k n before).state) (stands_for S);
            rules = every_call_keeps s (bursting n before) S.rules;
          };
      seen_same = λ i. seen_departing (of_count (counted i)) before (written i) (made_by (counted i) (made i));
    }

-- A burst that is not refused gives back the state that as many single calls lead to.
pub singles_lead : {n : ℕ} {c t : State} {sent : List Sent} → Singles n c sent t → (s : Scheduler) → Stands c s → t ≡ encode (departures n s).state
singles_lead singles s S = (singles_made singles s S).leads_to

-- The old chooser's fault is impossible: in the line as the code keeps it no flow stands twice, nor does it while it has the turn.
pub no_controller_in_line_twice : {c : State} {s : Scheduler} → Stands c s → (f : ℕ) → count f (standing (view c).round) ≤ 1
no_controller_in_line_twice {c} S f = never_twice (view c) (sound_of_standing S).rules f

-- ---- every call has an outcome

singles_exist : (n : ℕ) (c : State) (s : Scheduler) → Stands c s → (sent : List Sent) × (t : State) × Singles n c sent t
unfolding departed_as
singles_exist zero c s S = ([], c, none)
singles_exist (suc n) c s S =
    let r : Outcome State Departed = departed_as (view c) in
    let g : DepartGives c r = record { outcome = refl; sound = sound_of (departed (view c)).state (departed_keeps (view c) (sound_of_standing S).rules) } in
    let more = singles_exist n r.state (departed (view c)).state (record { form = refl; rules = departed_keeps (view c) (sound_of_standing S).rules }) in
    (sent_by r.reply.reply ++ more.0, more.1, one_more g more.2)

pub has_outcome : (c : State) (s : Scheduler) → Stands c s → (call : Call) → (t : State) × (e : Seen Packet Sent) × Does c call t e
unfolding answered_as offered_as departed_as counted_as
has_outcome c s S resetting = (encode new_scheduler, seen_reset, resets (record { outcome = refl; sound = sound_of new_scheduler new_keeps }))
has_outcome c s S (opening f weight) =
    (_, _, opens {r = answered_as (opened (view c) f weight)} (record { outcome = refl; sound = sound_of _ (opened_keeps (view c) f weight (sound_of_standing S).rules) }))
has_outcome c s S (offering f size) =
    (_, _, offers {r = offered_as (view c) f size} (record { outcome = refl; sound = sound_of _ (offered_keeps (view c) f size (sound_of_standing S).rules) }))
has_outcome c s S departing =
    (_, _, departs {r = departed_as (view c)} (record { outcome = refl; sound = sound_of _ (departed_keeps (view c) (sound_of_standing S).rules) }))
has_outcome c s S (bursting n list) =
    let singles = singles_exist n c s S in (
      _,
      _,
      bursts {r = counted_as (burst (view c) n list)}
          (record { outcome = refl; written = refl; sound = sound_of _ (burst_keeps (view c) n list (sound_of_standing S).rules) }) singles.2,
    )
