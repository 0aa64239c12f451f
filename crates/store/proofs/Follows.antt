-- Each call of the code does what the definitions' call does, on the scheduler that the site stands for and the same store.
use Prim.Native.Nat.{ℕ}
use mathlib.Core.Path.{◌≡◌, refl, sym, ap, ap₂, ◌∙◌, subst}
use mathlib.Core.List.{List, []}
use Rattle.model.specs.Model.{Scheduler, new_scheduler}
use Rattle.model.specs.Rules.{Rules}
use Rattle.model.specs.Replies.{Answer, of_answer, of_reply, taken_by}
use Rattle.model.specs.Calls.{opened}
use Rattle.model.specs.Chain.{Seen, seen_asking, seen_departing}
use Rattle.model.proofs.Keeps.{new_keeps, opened_keeps}
use Rattle.model.proofs.Following.{Follows}
use Rattle.order.proofs.StateLaws.{seen_as, sound_of}
use Rattle.store.specs.Calls.{AfterOffer, AfterDeparture, store_offer, store_depart}
use Rattle.store.specs.Promised.{scheduler_of, SoundSite, site_of, answered_as, departed_as, NewGives, OfferGives, DepartGives}
use Rattle.store.specs.StoreCalls.{StoreCall, resetting, opening, offering, departing, WithStore, lent, back, Packet, put_out, does, store_calls}
use Rattle.store.specs.Runs.{Does, resets, opens, offers, departs}
use Rattle.store.specs.Site.{Site}
use Rattle.model.specs.declared.Outcome.{Outcome}
use Rattle.model.specs.declared.Reply.{Reply}
use Rattle.store.proofs.CallLaws.{offer_keeps, depart_keeps}
use Rattle.store.proofs.SiteLaws.{rules_of_site}

-- A site stands for a scheduler that keeps the rules, and the stores are the same.
pub record Stands (s : WithStore Site) (m : WithStore Scheduler) : Type 0 where
  pub form : s.keeper ≡ site_of m.keeper
  pub rules : Rules m.keeper
  pub store_same : s.store ≡ m.store

pub new_stands : {s : WithStore Site} → NewGives s.keeper → Stands s (record { keeper = new_scheduler; store = s.store })
new_stands g = record { form = g.outcome; rules = new_keeps; store_same = refl }

stands_for : {s : WithStore Site} {m : WithStore Scheduler} → Stands s m → scheduler_of s.keeper ≡ m.keeper
unfolding scheduler_of site_of
stands_for S = seen_as S.rules (ap (λ (k : Site). k.order) S.form)

-- It meets the premise of every call.
pub sound_of_standing : {s : WithStore Site} {m : WithStore Scheduler} → Stands s m → SoundSite s.keeper
unfolding site_of
sound_of_standing {s} {m} S = subst SoundSite (sym S.form) (sound_of m.keeper S.rules)

-- One scheduler and one store have one form.
pub same_form : {s t : WithStore Site} {m : WithStore Scheduler} → Stands s m → Stands t m → s ≡ t
same_form S T = ap₂ (λ (k : Site) (l : List ℕ). record { keeper = k; store = l }) (S.form ∙ sym T.form) (S.store_same ∙ sym T.store_same)

-- ---- every call

module _ {s : WithStore Site} {m : WithStore Scheduler} (S : Stands s m) where
  offer_is : {f : ℕ} {packet after : List ℕ} {r : Outcome Site Answer} (n : ℕ) → OfferGives s.keeper f packet (lent n s.store) after r
      → (r ≡ answered_as (store_offer m.keeper f packet (lent n m.store)).state (store_offer m.keeper f packet (lent n m.store)).answer)
      × (after ≡ (store_offer m.keeper f packet (lent n m.store)).store)
  offer_is {f} {packet} {after} {r} n g =
      let same : (o : Scheduler → List ℕ → AfterOffer) → o (scheduler_of s.keeper) s.store ≡ o m.keeper m.store = λ o. ap₂ o (stands_for S) S.store_same in
      let there = same (λ k l. store_offer k f packet (lent n l)) in
      (g.outcome ∙ ap (λ (o : AfterOffer). answered_as o.state o.answer) there, g.stored ∙ ap (λ (o : AfterOffer). o.store) there)

  departure_is : {out after : List ℕ} {r : Outcome Site Reply} (n : ℕ) → DepartGives s.keeper (lent n s.store) out after r
      → (r ≡ departed_as (store_depart m.keeper (lent n m.store) out).state (store_depart m.keeper (lent n m.store) out).reply)
      × (after ≡ (store_depart m.keeper (lent n m.store) out).out)
  departure_is {out} {after} {r} n g =
      let same : (o : Scheduler → List ℕ → AfterDeparture) → o (scheduler_of s.keeper) s.store ≡ o m.keeper m.store = λ o. ap₂ o (stands_for S) S.store_same in
      let there = same (λ k l. store_depart k (lent n l) out) in
      (g.outcome ∙ ap (λ (o : AfterDeparture). departed_as o.state o.reply) there, g.sent ∙ ap (λ (o : AfterDeparture). o.out) there)

pub follows : (s : WithStore Site) (m : WithStore Scheduler) (call : StoreCall) (t : WithStore Site) (e : Seen Packet Packet) → Stands s m → Does s call t e
    → Follows store_calls Does Stands m call t e
unfolding does answered_as departed_as
follows s m call t e S (resets g) = record { stands_then = record { form = g.outcome; rules = new_keeps; store_same = S.store_same }; seen_same = refl }
follows s m call t e S (opens {f} {weight} {r} g) =
    let there = g.outcome ∙ ap (λ (k : Scheduler). answered_as (opened k f weight).state (opened k f weight).reply) (stands_for S) in
    record {
      stands_then =
          record { form = ap (λ (a : Outcome Site Answer). a.state) there; rules = opened_keeps m.keeper f weight S.rules; store_same = S.store_same };
      seen_same = ap (λ (a : Outcome Site Answer). seen_asking (of_answer a.reply) []) there;
    }
follows s m call t e S (offers {f} {n} {packet} {after} {r} g) =
    let there = offer_is S n g in
    record {
      stands_then =
          record {
            form = ap (λ (a : Outcome Site Answer). a.state) there.0;
            rules = offer_keeps m.keeper f packet (lent n m.store) S.rules;
            store_same = ap₂ (λ (l k : List ℕ). back l n k) S.store_same there.1;
          };
      seen_same = ap (λ (a : Outcome Site Answer). seen_asking (of_answer a.reply) (taken_by a.reply (record { flow = f; bytes = packet }))) there.0;
    }
follows s m call t e S (departs {n} {out} {after} {r} g) =
    let there = departure_is S n g in
    record {
      stands_then =
          record {
            form = ap (λ (a : Outcome Site Reply). a.state) there.0;
            rules = depart_keeps m.keeper (lent n m.store) out S.rules;
            store_same = S.store_same;
          };
      seen_same = ap₂ (λ (a : Outcome Site Reply) (l : List ℕ). seen_departing (of_reply a.reply) out l (put_out a.reply l)) there.0 there.1;
    }

-- ---- every call has an outcome

pub has_outcome : (s : WithStore Site) (m : WithStore Scheduler) → Stands s m → (call : StoreCall) → (t : WithStore Site) × (e : Seen Packet Packet) × Does s call t e
unfolding answered_as departed_as site_of
has_outcome s m S resetting = (_, _, resets {r = site_of new_scheduler} (record { outcome = refl; sound = sound_of new_scheduler new_keeps }))
has_outcome s m S (opening f weight) =
    (_, _, opens {r = answered_as _ _} (record { outcome = refl; sound = sound_of _ (opened_keeps (scheduler_of s.keeper) f weight (rules_of_site s.keeper (sound_of_standing S))) }))
has_outcome s m S (offering f packet n) = (
  _,
  _,
  offers {n = n} {r = answered_as _ _}
      (record { outcome = refl; stored = refl; sound = sound_of _ (offer_keeps (scheduler_of s.keeper) f packet (lent n s.store) (rules_of_site s.keeper (sound_of_standing S))) }),
)
has_outcome s m S (departing n out) = (
  _,
  _,
  departs {n = n} {r = departed_as _ _}
      (record { outcome = refl; sent = refl; sound = sound_of _ (depart_keeps (scheduler_of s.keeper) (lent n s.store) out (rules_of_site s.keeper (sound_of_standing S))) }),
)
