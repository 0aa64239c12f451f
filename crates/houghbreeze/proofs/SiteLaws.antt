-- From what a call on sizes leaves of an image, and the bytes moved beside it, to what a call on bytes promises.
use Prim.Native.Nat.{ℕ}
use mathlib.Core.Path.{◌≡◌, ap, sym, ◌∙◌}
use mathlib.Core.List.{List}
use mathlib.Core.Bool.{cond}
use lib.Dec.{eqb}
use native.Mathlib.Omega.{arith}
use lib.ListN.{length}
use Rattle.std.specs.Prelude.{Result, Ok, Err, ◌≤◌}
use Rattle.model.specs.Choose.{if_ok, ok_with}
use Rattle.model.specs.Model.{Scheduler, flow_at}
use Rattle.model.specs.Replies.{Answer, number_of}
use Rattle.model.specs.Calls.{offer_answer}
use Rattle.model.specs.declared.Outcome.{Outcome}
use Rattle.model.specs.declared.Refusal.{Refusal}
use Rattle.model.specs.declared.Refusal.TheVariants.{StoreWrong}
use Rattle.model.specs.declared.Reply.TheVariants.{Refused}
use Rattle.steps.specs.Places.{end_place}
use Rattle.steps.specs.declared.Place.{Place}
use Rattle.order.specs.Encoding.{view}
use Rattle.order.specs.Promised as Order
use Rattle.order.specs.declared.Departed.{Departed}
use Rattle.order.specs.State.{State}
use Rattle.store.specs.Slots.{store_length, out_limit, written}
use Rattle.store.specs.Calls.{store_depart_answer}
use Rattle.store.proofs.SiteLaws.{fetched, open_law, refused_offer, stored_there, refused_there, refused_departure, sent_from_there}
use Rattle.image.specs.Image.{state_in, SoundImage}
use Rattle.houghbreeze.specs.Promised.{Leaves, OpenGives, site_in, SiteOpenGives, SiteOfferGives, SiteDepartGives}
use Rattle.image.specs.Replies.{reply, refused_kind, of_answer, of_offer, of_reply}
use Rattle.image.specs.declared.HbReply.{HbReply}
use Rattle.houghbreeze.proofs.SizesLaws.{passes}

pub site_open_passes : (image : List ℕ) (f weight : ℕ) {after : List ℕ} {r : HbReply} → OpenGives image f weight after r → SiteOpenGives image f weight after r
site_open_passes image f weight g =
    let a : Outcome State Answer = g.given in
    passes (record { state = record { order = a.state }; reply = a.reply }) (open_law (site_in image) f weight a g.promise) g.promise.sound g.image g.says

-- An offer that is accepted tells the slot of its place.
slot_told : (p place : Place) (a : Answer) → ◌≡◌ {A = Result Place Refusal} (Ok p) (ok_with a place) → of_offer (Ok p) ≡ of_answer {T = Unit {0}} (Ok tt) place.slot
slot_told p place (Ok tt) e = ap of_offer e
slot_told p place (Err r) e = let z : ◌≡◌ {A = ℕ} 0 1 = ap {B = ℕ} (λ (q : Result Place Refusal). if_ok q 0 1) e in absurd (omega arith)

module _ (image : List ℕ) (S : SoundImage image) where
  abbrev s : Scheduler
  s = view (state_in image)

  module _ (f : ℕ) (packet store : List ℕ) where
    pub site_offer_refused : (a : Answer) → a ≡ cond (eqb (length store) store_length) (Ok tt) (Err StoreWrong) → (k : Refusal) → a ≡ Err k
        → {r : HbReply} → r ≡ reply refused_kind (number_of k) → SiteOfferGives image f packet store store image r
    site_offer_refused a e k z says =
        passes (record { state = site_in image; reply = Err k }) (refused_offer (site_in image) S.sound f packet store a e k z) S.sound S.form says

    module _ (all : length store ≡ store_length) (after : List ℕ) (o : Result Place Refusal) (left : Leaves (Order.OfferGives (state_in image) f (length packet)) after o) where
      abbrev given : Outcome State (Result Place Refusal)
      given = record { state = state_in after; reply = o }

      placed : o ≡ ok_with (offer_answer f (length packet) (flow_at s f)) (end_place f (flow_at s f) (length packet))
      unfolding Order.offered_as
      placed = ap (λ (q : Outcome State (Result Place Refusal)). q.reply) left.promise.outcome

      pub site_offer_written : (p : Place) → o ≡ Ok p → {then : List ℕ} → then ≡ written store p.flow p.slot packet → {r : HbReply} → r ≡ of_offer (Ok p)
          → SiteOfferGives image f packet store then after r
      site_offer_written p e {then} w says =
          passes (record { state = record { order = state_in after }; reply = Ok tt })
          (stored_there (site_in image) S.sound f packet store all given left.promise p e then w)
          left.promise.sound left.sound.form
          (says ∙ slot_told p (end_place f (flow_at s f) (length packet)) (offer_answer f (length packet) (flow_at s f)) (sym e ∙ placed))

      pub site_offer_not_written : (k : Refusal) → o ≡ Err k → {r : HbReply} → r ≡ reply refused_kind (number_of k) → SiteOfferGives image f packet store store after r
      site_offer_not_written k e says =
          passes (record { state = record { order = state_in after }; reply = Err k })
          (refused_there (site_in image) S.sound f packet store all given left.promise k e)
          left.promise.sound left.sound.form says

  module _ (store out : List ℕ) where
    pub site_departure_refused : (k : Refusal) → store_depart_answer store out ≡ Err k → {r : HbReply} → r ≡ reply refused_kind (number_of k)
        → SiteDepartGives image store out out image r
    site_departure_refused k e says =
        passes (record { state = site_in image; reply = Refused k }) (refused_departure (site_in image) S.sound store out k e) S.sound S.form says

    pub site_departure_passes : (length store ≡ store_length) × (out_limit ≤ length out) → (after : List ℕ) (d : Departed)
        → Leaves (Order.DepartGives (state_in image)) after d → {then : List ℕ} → then ≡ fetched d.from store out
        → {r : HbReply} → r ≡ of_reply d.reply d.from.slot → SiteDepartGives image store out then after r
    unfolding Order.departed_as
    site_departure_passes right after d left {then} w says =
        passes (record { state = record { order = state_in after }; reply = d.reply })
        (sent_from_there (site_in image) S.sound store out right.0 right.1 (record { state = state_in after; reply = d }) left.promise then w)
        left.promise.sound left.sound.form
        (says ∙ ap (λ (q : Outcome State Departed). of_reply d.reply q.reply.from.slot) left.promise.outcome)
