-- From what the order layer's calls give to what a site's calls promise.
use Prim.Native.Nat.{ℕ, ◌≤◌, ◌<◌}
use mathlib.Core.Path.{◌≡◌, refl, sym, ap, ap₂, ◌∙◌, subst}
use mathlib.Core.List.{List, ◌++◌}
use mathlib.Core.Bool.{Bool, true, false, cond}
use lib.Dec.{eqb}
use borrow.Author.Tests.{eqb-true, eqb-false}
use native.Mathlib.Omega.{arith}
use lib.ListN.{length, get_or, take, drop}
use lib.Seq.{take_all}
use Rattle.model.specs.Limits.{flow_limit, queue_limit, size_limit}
use Rattle.model.specs.Model.{Scheduler, flow_at}
use Rattle.std.specs.Prelude.{Result, Ok, Err}
use Rattle.model.specs.Choose.{if_ok, ok_with}
use Rattle.model.specs.Replies.{Answer}
use Rattle.model.specs.Steps.{next_slot_of, whose}
use Rattle.model.specs.Calls.{offer_answer, offered, unless_refused, departed}
use Rattle.model.specs.Rules.{Rules}
use Rattle.model.specs.declared.Outcome.{Outcome}
use Rattle.model.specs.declared.Refusal.{Refusal}
use Rattle.model.specs.declared.Refusal.TheVariants.{StoreWrong}
use Rattle.model.specs.declared.Reply.{Reply}
use Rattle.model.specs.declared.Reply.TheVariants.{Refused}
use Rattle.model.proofs.Departing.{Leaves, departed_leaves, SendsOrStays, sends, stays, sends_or_stays}
use Rattle.model.proofs.Flows.{first_small}
use Rattle.model.proofs.Refusals.{MayOffer, may_offer, not_done}
use Rattle.model.proofs.Standing.{nobody_waits, whose_in_reach}
use Rattle.steps.specs.Places.{end_place, first_place, leaving_place}
use Rattle.order.specs.Promised as order
use Rattle.order.specs.declared.Departed.{Departed}
use Rattle.steps.specs.declared.Place.{Place}
use Rattle.order.specs.State.{State}
use Rattle.store.specs.Slots.{store_length, out_limit, written, held}
use Rattle.store.specs.Calls.{store_offer, store_offer_answer, store_depart, store_depart_answer, sent_out}
use Rattle.store.specs.Promised.{scheduler_of, SoundSite, site_of, answered_as, departed_as, NewGives, OpenGives, OfferGives, DepartGives}
use Rattle.store.specs.Site.{Site}
use Rattle.store.proofs.SlotLaws.{held_nothing}
use Rattle.store.proofs.CallLaws.{offer_wrong_store, offer_state, offer_reply, offer_refused, offer_writes, offer_answered, depart_may, depart_refused, depart_made, sent_departure}

-- A place is one of the store's.
abbrev pub InStore : Place → Type 0
InStore p = (p.flow < flow_limit) × (p.slot < queue_limit) × (p.size ≤ size_limit)

-- The outgoing buffer with the bytes that lie at a place put at its start.
abbrev pub fetched : Place → List ℕ → List ℕ → List ℕ
fetched p store out = held store p.flow p.slot p.size ++ drop p.size out

-- A departure takes its bytes from the place that the order layer tells; of size 0, and so none, where nothing departs.
sent_out_is_fetched : (s : Scheduler) → Rules s → (store out : List ℕ) → sent_out (departed s).reply s store out ≡ fetched (leaving_place s) store out
unfolding sent_out
sent_out_is_fetched s R store out = by (sends_or_stays s)
  where
    by : SendsOrStays s → sent_out (departed s).reply s store out ≡ fetched (leaving_place s) store out
    by (sends d i) =
        let L : Leaves s d (departed s).state = departed_leaves s R d i in
        sent_departure s store out (departed s).reply d i
        ∙ ap (λ (n : ℕ). fetched (record { flow = d.flow; slot = (flow_at s d.flow).slot; size = n }) store out)
        (sym (ap (λ (q : List ℕ). get_or q 0 0) L.first_in_queue))
        ∙ ap (λ (k : ℕ). fetched (first_place k (flow_at s k)) store out) L.had_the_turn
    by (stays i same t l) =
        ap (λ (r : Reply). sent_out r s store out) i
        ∙ ap (λ (b : List ℕ). b ++ out) (sym (held_nothing store (whose s.round) (flow_at s (whose s.round)).slot))
        ∙ ap (λ (q : List ℕ). fetched (record { flow = whose s.round; slot = (flow_at s (whose s.round)).slot; size = get_or q 0 0 }) store out)
        (sym (nobody_waits s R t l (whose s.round)))

pub new_law : (o : State) → order.NewGives o → NewGives (record { order = o })
unfolding site_of
new_law o g = record { outcome = ap (λ (k : State). record { order = k }) g.outcome; sound = g.sound }

pub open_law : (site : Site) (f weight : ℕ) (a : Outcome State Answer) → order.OpenGives site.order f weight a
    → OpenGives site f weight (record { state = record { order = a.state }; reply = a.reply })
unfolding answered_as site_of scheduler_of order.answered_as
open_law site f weight a g =
    record {
      outcome = ap (λ (k : Outcome State Answer). record { state = record { order = k.state }; reply = k.reply }) g.outcome;
      sound = g.sound;
    }

module _ (site : Site) (S : SoundSite site) where
  abbrev s : Scheduler
  s = scheduler_of site

  -- A site is the form of the scheduler that it stands for.
  pub site_form : site ≡ site_of s
  unfolding site_of scheduler_of
  site_form = ap (λ (o : State). record { order = o }) S.form

  pub rules_of_site : Rules s
  unfolding scheduler_of
  rules_of_site = S.rules

  module _ (f : ℕ) (packet store : List ℕ) where
    -- What the lengths lent refuse is refused; what they do not, leaves the store its length.
    module _ (a : Answer) (e : a ≡ cond (eqb (length store) store_length) (Ok tt) (Err StoreWrong)) where
      pub offer_lengths_right : a ≡ Ok tt → length store ≡ store_length
      offer_lengths_right z = by (eqb (length store) store_length) refl
        where
          by : (b : Bool) → eqb (length store) store_length ≡ b → length store ≡ store_length
          by true t = eqb-true (length store) store_length t
          by false t = absurd (not_done StoreWrong (sym (e ∙ ap {B = Answer} (λ (k : Bool). cond k (Ok tt) (Err StoreWrong)) t) ∙ z))

      pub refused_offer : (r : Refusal) → a ≡ Err r → OfferGives site f packet store store (record { state = site; reply = Err r })
      unfolding answered_as
      refused_offer r z = by (eqb (length store) store_length) refl
        where
          by : (b : Bool) → eqb (length store) store_length ≡ b → OfferGives site f packet store store (record { state = site; reply = Err r })
          by true t = absurd (not_done r (sym z ∙ e ∙ ap {B = Answer} (λ (k : Bool). cond k (Ok tt) (Err StoreWrong)) t))
          by false t =
              let wrong : store_offer_answer s f packet store ≡ Err StoreWrong = offer_wrong_store s f packet store (eqb-false (length store) store_length t) in
              let kept = offer_refused s f packet store StoreWrong wrong in
              record {
                outcome =
                    ap₂ (λ (k : Site) (m : Answer). record { state = k; reply = m }) site_form (sym z ∙ e ∙ ap {B = Answer} (λ (k : Bool). cond k (Ok tt) (Err StoreWrong)) t)
                    ∙ sym (ap₂ answered_as kept.0 (offer_answered s f packet store ∙ wrong));
                stored = sym kept.1;
                sound = S;
              }

    -- The order layer's answer decides, and with it where the packet lies.
    abbrev answer : Answer
    answer = offer_answer f (length packet) (flow_at s f)

    abbrev place : Place
    place = end_place f (flow_at s f) (length packet)

    place_fits : answer ≡ Ok tt → InStore place
    place_fits e =
        let may : MayOffer f (length packet) (flow_at s f) = may_offer f (length packet) (flow_at s f) e in
        (may.flow_in_range, omega arith, may.size_small)

    -- The store with the packet's bytes, so many as the place says, at the place that is told; none where the packet is refused.
    abbrev pub stored_at : Result Place Refusal → List ℕ
    stored_at (Ok p) = written store p.flow p.slot (take p.size packet)
    stored_at (Err r) = store

    -- So it has the packet in the slot that the flow's next packet takes, or nothing new.
    pub written_there : (a : Answer) → stored_at (ok_with a place) ≡ if_ok a (written store f (next_slot_of (flow_at s f)) packet) store
    written_there (Ok tt) = ap (λ (l : List ℕ). written store f (next_slot_of (flow_at s f)) l) (take_all (length packet) packet (omega arith))
    written_there (Err r) = refl

    module _ (all : length store ≡ store_length) where
      -- Where the store has its length, state and answer are what the order layer gives.
      outcome_is : {a : Outcome State (Result Place Refusal)} → order.OfferGives site.order f (length packet) a → (k : Answer) → k ≡ answer
          → record { state = record { order = a.state }; reply = k } ≡ answered_as (store_offer s f packet store).state (store_offer s f packet store).answer
      unfolding answered_as site_of scheduler_of order.offered_as offered unless_refused
      outcome_is g k e =
          ap₂ (λ (t : State) (j : Answer). record { state = record { order = t }; reply = j }) (ap (λ (q : Outcome State (Result Place Refusal)). q.state) g.outcome) e
          ∙ sym (ap₂ answered_as (offer_state s f packet store all) (offer_reply s f packet store all))

      placed : {a : Outcome State (Result Place Refusal)} → order.OfferGives site.order f (length packet) a → a.reply ≡ ok_with answer place
      unfolding scheduler_of order.offered_as
      placed g = ap (λ (q : Outcome State (Result Place Refusal)). q.reply) g.outcome

      -- What is stored where the order layer tells is what the call stores.
      stored_as_told : {a : Outcome State (Result Place Refusal)} → order.OfferGives site.order f (length packet) a → (reply : Result Place Refusal) → a.reply ≡ reply
          → stored_at reply ≡ (store_offer s f packet store).store
      stored_as_told g reply e = ap stored_at (sym e ∙ placed g) ∙ written_there answer ∙ sym (offer_writes s f packet store all)

      -- Accepted: the packet is written in the slot that the flow's next packet takes.
      module _ (a : Outcome State (Result Place Refusal)) (g : order.OfferGives site.order f (length packet) a) (p : Place) (r : a.reply ≡ Ok p) where
        accepted : answer ≡ Ok tt
        accepted = by answer (sym r ∙ placed g)
          where
            by : (a : Answer) → ◌≡◌ {A = Result Place Refusal} (Ok p) (ok_with a place) → a ≡ Ok tt
            by (Ok tt) e = refl
            by (Err r) e = let z : ◌≡◌ {A = ℕ} 0 1 = ap {B = ℕ} (λ (q : Result Place Refusal). if_ok q 0 1) e in absurd (omega arith)

        place_is : p ≡ place
        place_is = ap {B = Place} (λ (q : Result Place Refusal). or_else q) (sym r ∙ placed g ∙ ap (λ (a : Answer). ok_with a place) accepted)
          where
            or_else : Result Place Refusal → Place
            or_else (Ok q) = q
            or_else (Err r) = p

        pub into_fits : InStore p
        into_fits = subst InStore (sym place_is) (place_fits accepted)

        pub packet_small : length packet ≤ size_limit
        packet_small = (may_offer f (length packet) (flow_at s f) accepted).size_small

        as_long : p.size ≡ length packet
        as_long = ap (λ (q : Place). q.size) place_is

        pub stored_there : (after : List ℕ) → after ≡ written store p.flow p.slot packet
            → OfferGives site f packet store after (record { state = record { order = a.state }; reply = Ok tt })
        stored_there after w =
            record {
              outcome = outcome_is g (Ok tt) (sym accepted);
              stored = w ∙ ap (written store p.flow p.slot) (sym (take_all p.size packet (omega (arith, as_long)))) ∙ stored_as_told g (Ok p) r;
              sound = g.sound;
            }

      -- Refused: nothing is written.
      pub refused_there : (a : Outcome State (Result Place Refusal)) → order.OfferGives site.order f (length packet) a → (r : Refusal) → a.reply ≡ Err r
          → OfferGives site f packet store store (record { state = record { order = a.state }; reply = Err r })
      refused_there a g r e =
          record {
            outcome = outcome_is g (Err r) (sym refused);
            stored = stored_as_told g (Err r) e;
            sound = g.sound;
          }
        where
          refused : answer ≡ Err r
          refused = by answer (sym e ∙ placed g)
            where
              by : (a : Answer) → ◌≡◌ {A = Result Place Refusal} (Err r) (ok_with a place) → a ≡ Err r
              by (Ok tt) e = let z : ◌≡◌ {A = ℕ} 0 1 = ap {B = ℕ} (λ (q : Result Place Refusal). if_ok q 1 0) e in absurd (omega arith)
              by (Err j) e = sym (ap {B = Answer} (λ (q : Result Place Refusal). ok_with q tt) e)

  module _ (store out : List ℕ) where
    pub refused_departure : (r : Refusal) → store_depart_answer store out ≡ Err r → DepartGives site store out out (record { state = site; reply = Refused r })
    unfolding departed_as
    refused_departure r e =
        let kept = depart_refused s store out r e in
        record {
          outcome = ap (λ (k : Site). record { state = k; reply = Refused r }) site_form ∙ sym (ap₂ departed_as kept.0 kept.2);
          sent = sym kept.1;
          sound = S;
        }

    module _ (all : length store ≡ store_length) (room : out_limit ≤ length out) (a : Outcome State Departed) (g : order.DepartGives site.order a) where
      may : store_depart_answer store out ≡ Ok tt
      may = depart_may s store out all room

      from_is : a.reply.from ≡ leaving_place s
      unfolding scheduler_of order.departed_as
      from_is = ap (λ (k : Outcome State Departed). k.reply.from) g.outcome

      -- Where the packet lay is a place in the store.
      pub from_fits : InStore a.reply.from
      from_fits =
          subst InStore (sym from_is)
          (whose_in_reach s rules_of_site, (rules_of_site.flow_rules (whose s.round)).slot_in_range, first_small (rules_of_site.flow_rules (whose s.round)).sizes_in_range)

      departure_outcome : record { state = record { order = a.state }; reply = a.reply.reply }
          ≡ departed_as (store_depart s store out).state (store_depart s store out).reply
      unfolding departed_as site_of scheduler_of order.departed_as
      departure_outcome =
          ap (λ (k : Outcome State Departed). record { state = record { order = k.state }; reply = k.reply.reply }) g.outcome
          ∙ sym (ap₂ departed_as (depart_made s store out may).0 (depart_made s store out may).2)

      pub sent_from_there : (after : List ℕ) → after ≡ fetched a.reply.from store out
          → DepartGives site store out after (record { state = record { order = a.state }; reply = a.reply.reply })
      sent_from_there after w =
          record {
            outcome = departure_outcome;
            sent =
                w
                ∙ ap (λ (p : Place). fetched p store out) from_is
                ∙ sym ((depart_made s store out may).1 ∙ sent_out_is_fetched s rules_of_site store out);
            sound = g.sound;
          }
