-- A call for firmware does what its layer's call does on the state that its image stands for, and what C reads is what that call says; and the other way.
use Prim.Native.Nat.{ℕ, suc}
use mathlib.Core.Path.{◌≡◌, refl, sym, ap, ap₂, ◌∙◌, subst}
use mathlib.Core.List.{List, [], ◌++◌, map}
use lib.ListN.{take}
use Rattle.std.specs.Prelude.{Result, Ok, Err}
use Rattle.model.specs.Chain.{Seen, seen_asking, seen_departing}
use Rattle.model.specs.OrderCalls.{Call}
use Rattle.model.specs.OrderCalls as Sizes
use Rattle.model.specs.Replies as Says
use Rattle.model.specs.Model.{flow_at}
use Rattle.model.specs.Steps.{next_slot_of}
use Rattle.model.specs.Replies.{Count, Said, sent_by, taken_by, made_by}
use Rattle.model.specs.declared.Refusal.{Refusal}
use Rattle.model.specs.declared.Reply.{Reply}
use Rattle.model.specs.declared.Reply.TheVariants.{Departure, Idle, Refused}
use Rattle.model.specs.declared.Sent.{Sent}
use Rattle.steps.specs.Places.{leaving_place}
use Rattle.steps.specs.declared.Place.{Place}
use Rattle.order.specs.Encoding.{view}
use Rattle.order.specs.Promised as Order
use Rattle.order.specs.Runs as OrderCode
use Rattle.order.specs.State.{State}
use Rattle.store.specs.Runs as StoreCode
use Rattle.store.specs.StoreCalls.{StoreCall, WithStore, with_store, back, put_out}
use Rattle.store.specs.StoreCalls as Bytes
use Rattle.store.specs.Site.{Site}
use Rattle.image.specs.Image.{image_of, state_in, SoundImage}
use Rattle.houghbreeze.specs.Promised.{site_in}
use Rattle.image.specs.Replies.{heard, of_answer, of_offer, of_reply, of_count}
use Rattle.houghbreeze.specs.Runs.{taken_if, sent_told, made_told, Singles, none, one_more, Does, resets, opens, offers, departs, bursts, SiteDoes}
use Rattle.houghbreeze.specs.Runs as Firmware
use Rattle.image.specs.declared.HbReply.{HbReply}
use Rattle.image.proofs.ImageLaws.{state_read, image_sound}
use Rattle.houghbreeze.proofs.SizesLaws.{passes}

-- ---- what C reads

answer_heard : {T : Type 0} (a : Result T Refusal) (slot : ℕ) → heard (of_answer a slot) ≡ Says.of_answer a
unfolding heard
answer_heard (Ok done) slot = refl
answer_heard (Err r) slot = refl

answer_taken : {T A : Type 0} (a : Result T Refusal) (slot : ℕ) (packet : A) → taken_if (of_answer a slot) packet ≡ taken_by a packet
answer_taken (Ok done) slot packet = refl
answer_taken (Err r) slot packet = refl

offer_heard : (o : Result Place Refusal) → heard (of_offer o) ≡ Says.of_answer o
unfolding heard
offer_heard (Ok place) = refl
offer_heard (Err r) = refl

offer_taken : {A : Type 0} (o : Result Place Refusal) (packet : A) → taken_if (of_offer o) packet ≡ taken_by o packet
offer_taken (Ok place) packet = refl
offer_taken (Err r) packet = refl

reply_heard : (d : Reply) (slot : ℕ) → heard (of_reply d slot) ≡ Says.of_reply d
unfolding heard
reply_heard (Departure d) slot = refl
reply_heard Idle slot = refl
reply_heard (Refused r) slot = refl

reply_sent : (d : Reply) (slot : ℕ) → sent_told (of_reply d slot) ≡ sent_by d
reply_sent (Departure d) slot = refl
reply_sent Idle slot = refl
reply_sent (Refused r) slot = refl

count_heard : (c : Count) → heard (of_count c) ≡ Says.of_count c
unfolding heard
count_heard (Ok n) = refl
count_heard (Err r) = refl

count_made : {A : Type 0} (c : Count) (sent : List A) → made_told (of_count c) sent ≡ made_by c sent
count_made (Ok n) sent = refl
count_made (Err r) sent = refl

-- ---- on sizes

-- A layer's call on the state that an image stands for, which leaves the image of what it gives back.
pub record InPlace (i : List ℕ) (c : Call) (j : List ℕ) (e : Seen Sizes.Packet Sent) : Type 0 where
  pub given : State
  pub does : OrderCode.Does (state_in i) c given e
  pub image : j ≡ image_of given

singles_as_order : {n : ℕ} {i : List ℕ} {sent : List Sent} → Singles n i sent → (c : State) → c ≡ state_in i → (t : State) × OrderCode.Singles n c sent t
singles_as_order none c e = (c, OrderCode.none)
singles_as_order (one_more {n} {i} {j} {r} {sent} g more) c e =
    let step = g.given in
    let promise : Order.DepartGives c step = subst (λ k. Order.DepartGives k step) (sym e) g.promise in
    let rest = singles_as_order more step.state (sym (ap state_in g.image ∙ state_read step.state g.promise.sound)) in
    (rest.0, subst (λ (l : List Sent). OrderCode.Singles (suc n) c (l ++ sent) rest.0) (sym (ap sent_told g.says ∙ reply_sent step.reply.reply step.reply.from.slot)) (OrderCode.one_more promise rest.1))

pub as_order : {i j : List ℕ} {c : Call} {e : Seen Sizes.Packet Sent} → Does i c j e → InPlace i c j e
as_order (resets g) = record { given = g.given; does = OrderCode.resets g.promise; image = g.image }
as_order (opens {i} {f = f} {weight = weight} {r = r} g) =
    record {
      given = g.given.state;
      does = subst (λ (s : Said). OrderCode.Does (state_in i) (Sizes.opening f weight) g.given.state (seen_asking s [])) (sym (ap heard g.says ∙ answer_heard g.given.reply 0)) (OrderCode.opens g.promise);
      image = g.image;
    }
as_order (offers {i} {f = f} {size = size} {r = r} g) =
    let a = g.given in
    let p : Sizes.Packet = record { flow = f; size = size } in
    let same : seen_asking {D = Sent} (Says.of_answer a.reply) (taken_by a.reply p) ≡ seen_asking (heard r) (taken_if r p) =
    sym (ap (λ (k : HbReply). seen_asking (heard k) (taken_if k p)) g.says ∙ ap₂ seen_asking (offer_heard a.reply) (offer_taken a.reply p)) in
    record { given = a.state; does = subst (λ (e : Seen Sizes.Packet Sent). OrderCode.Does (state_in i) (Sizes.offering f size) a.state e) same (OrderCode.offers g.promise); image = g.image }
as_order (departs {i} {r = r} g) =
    let a = g.given in
    let same : seen_departing {P = Sizes.Packet} (Says.of_reply a.reply.reply) [] [] (sent_by a.reply.reply) ≡ seen_departing (heard r) [] [] (sent_told r) =
    sym (ap (λ (k : HbReply). seen_departing (heard k) [] [] (sent_told k)) g.says ∙ ap₂ (λ (s : Said) (l : List Sent). seen_departing s [] [] l) (reply_heard a.reply.reply a.reply.from.slot) (reply_sent a.reply.reply a.reply.from.slot)) in
    record { given = a.state; does = subst (λ (e : Seen Sizes.Packet Sent). OrderCode.Does (state_in i) Sizes.departing a.state e) same (OrderCode.departs g.promise); image = g.image }
as_order (bursts {i} {j} {n} {before} {list} {r} {sent} g singles) =
    let a = g.given in
    let same : seen_departing {P = Sizes.Packet} (Says.of_count a.reply) before list (made_by a.reply sent) ≡ seen_departing (heard r) before list (made_told r sent) =
    sym (ap (λ (k : HbReply). seen_departing (heard k) before list (made_told k sent)) g.says ∙ ap₂ (λ (s : Said) (l : List Sent). seen_departing s before list l) (count_heard a.reply) (count_made a.reply sent)) in
    record {
      given = a.state;
      does = subst (λ (e : Seen Sizes.Packet Sent). OrderCode.Does (state_in i) (Sizes.bursting n before) a.state e) same (OrderCode.bursts g.promise (singles_as_order singles (state_in i) refl).1);
      image = g.image;
    }

singles_from_order : {n : ℕ} {c t : State} {sent : List Sent} → OrderCode.Singles n c sent t → (i : List ℕ) → state_in i ≡ c → Singles n i sent
singles_from_order OrderCode.none i e = none
singles_from_order (OrderCode.one_more {n} {c} {t} {r} {sent} g more) i e =
    subst (λ (l : List Sent). Singles (suc n) i (l ++ sent)) (reply_sent r.reply.reply r.reply.from.slot)
    (one_more {r = of_reply r.reply.reply r.reply.from.slot} (passes r (subst (λ (k : State). Order.DepartGives k r) (sym e) g) g.sound refl refl)
    (singles_from_order more (image_of r.state) (state_read r.state g.sound)))

pub from_order : {i j : List ℕ} {c : Call} {e : Seen Sizes.Packet Sent} → InPlace i c j e → Does i c j e
from_order {i} {j} p = by p.does p.image
  where
    by : {c : Call} {k : State} {e : Seen Sizes.Packet Sent} → OrderCode.Does (state_in i) c k e → j ≡ image_of k → Does i c j e
    by (OrderCode.resets {r = r} g) m = resets (record { given = r; promise = g; image = m; sound = subst SoundImage (sym m) (image_sound r g.sound) })
    by (OrderCode.opens {f = f} {weight = weight} {r = r} g) m =
        subst (λ (s : Said). Does i (Sizes.opening f weight) j (seen_asking s [])) (answer_heard r.reply 0) (opens {r = of_answer r.reply 0} (passes r g g.sound m refl))
    by (OrderCode.offers {f = f} {size = size} {r = r} g) m =
        subst (λ (e : Seen Sizes.Packet Sent). Does i (Sizes.offering f size) j e)
        (ap₂ seen_asking (offer_heard r.reply) (offer_taken r.reply (record { flow = f; size = size })))
        (offers {r = of_offer r.reply} (passes r g g.sound m refl))
    by (OrderCode.departs {r = r} g) m =
        subst (λ (e : Seen Sizes.Packet Sent). Does i Sizes.departing j e)
        (ap₂ (λ (s : Said) (l : List Sent). seen_departing s [] [] l) (reply_heard r.reply.reply r.reply.from.slot) (reply_sent r.reply.reply r.reply.from.slot))
        (departs {r = of_reply r.reply.reply r.reply.from.slot} (passes r g g.sound m refl))
    by (OrderCode.bursts {n = n} {before = before} {list = list} {r = r} {sent = sent} g singles) m =
        subst (λ (e : Seen Sizes.Packet Sent). Does i (Sizes.bursting n before) j e)
        (ap₂ (λ (s : Said) (l : List Sent). seen_departing s before list l) (count_heard r.reply) (count_made r.reply sent))
        (bursts {r = of_count r.reply} (passes r g g.sound m refl) (singles_from_order singles i refl))

-- ---- on bytes

-- The image and the store stand for a site and its store.
abbrev pub site_with : WithStore (List ℕ) → WithStore Site
site_with s = with_store (site_in s.keeper) s.store

abbrev pub image_with : WithStore Site → WithStore (List ℕ)
image_with s = with_store (image_of s.keeper.order) s.store

pub record SiteInPlace (i : WithStore (List ℕ)) (c : StoreCall) (j : WithStore (List ℕ)) (e : Seen Bytes.Packet Bytes.Packet) : Type 0 where
  pub given : WithStore Site
  pub does : StoreCode.Does (site_with i) c given e
  pub image : j ≡ image_with given

put_out_is : (d : Reply) (slot : ℕ) (then : List ℕ) → map (λ (k : Sent). record { flow = k.flow; bytes = take k.size then }) (sent_told (of_reply d slot)) ≡ put_out d then
unfolding put_out
put_out_is d slot then = ap (map (λ (k : Sent). record { flow = k.flow; bytes = take k.size then })) (reply_sent d slot)

pub as_store : {i j : WithStore (List ℕ)} {c : StoreCall} {e : Seen Bytes.Packet Bytes.Packet} → SiteDoes i c j e → SiteInPlace i c j e
as_store (Firmware.SiteDoes.resets {s} g) =
    record {
      given = with_store (record { order = g.given }) s.store;
      does = StoreCode.resets g.promise;
      image = ap (λ (k : List ℕ). with_store k s.store) g.image;
    }
as_store (Firmware.SiteDoes.opens {s} {f = f} {weight = weight} {r = r} g) =
    let a = g.given in
    record {
      given = with_store a.state s.store;
      does =
          subst (λ (k : Said). StoreCode.Does (site_with s) (Bytes.opening f weight) (with_store a.state s.store) (seen_asking k []))
          (sym (ap heard g.says ∙ answer_heard a.reply 0)) (StoreCode.opens g.promise);
      image = ap (λ (k : List ℕ). with_store k s.store) g.image;
    }
as_store (Firmware.SiteDoes.offers {s} {f = f} {n = n} {packet = packet} {then = then} {r = r} g) =
    let a = g.given in
    let p : Bytes.Packet = record { flow = f; bytes = packet } in
    let same : seen_asking {D = Bytes.Packet} (Says.of_answer a.reply) (taken_by a.reply p) ≡ seen_asking (heard r) (taken_if r p) =
    sym (ap (λ (k : HbReply). seen_asking (heard k) (taken_if k p)) g.says ∙ ap₂ seen_asking (answer_heard a.reply _) (answer_taken a.reply _ p)) in
    record {
      given = with_store a.state (back s.store n then);
      does = subst (λ (e : Seen Bytes.Packet Bytes.Packet). StoreCode.Does (site_with s) (Bytes.offering f packet n) (with_store a.state (back s.store n then)) e) same (StoreCode.offers g.promise);
      image = ap (λ (k : List ℕ). with_store k (back s.store n then)) g.image;
    }
as_store (Firmware.SiteDoes.departs {s} {n = n} {out = out} {then = then} {r = r} g) =
    let a = g.given in
    let same : seen_departing {P = Bytes.Packet} (Says.of_reply a.reply) out then (put_out a.reply then)
    ≡ seen_departing (heard r) out then (map (λ (d : Sent). record { flow = d.flow; bytes = take d.size then }) (sent_told r)) =
    sym (ap (λ (k : HbReply). seen_departing (heard k) out then (map (λ (d : Sent). record { flow = d.flow; bytes = take d.size then }) (sent_told k))) g.says
    ∙ ap₂ (λ (k : Said) (l : List Bytes.Packet). seen_departing k out then l) (reply_heard a.reply _) (put_out_is a.reply _ then)) in
    record {
      given = with_store a.state s.store;
      does = subst (λ (e : Seen Bytes.Packet Bytes.Packet). StoreCode.Does (site_with s) (Bytes.departing n out) (with_store a.state s.store) e) same (StoreCode.departs g.promise);
      image = ap (λ (k : List ℕ). with_store k s.store) g.image;
    }

pub from_store : {i j : WithStore (List ℕ)} {c : StoreCall} {e : Seen Bytes.Packet Bytes.Packet} → SiteInPlace i c j e → SiteDoes i c j e
from_store {i} {j} {c} {e} p = subst (λ (k : WithStore (List ℕ)). SiteDoes i c k e) (sym p.image) (by p.does)
  where
    by : {c : StoreCall} {k : WithStore Site} {e : Seen Bytes.Packet Bytes.Packet} → StoreCode.Does (site_with i) c k e → SiteDoes i c (image_with k) e
    by (StoreCode.resets {r = r} g) =
        Firmware.SiteDoes.resets (record { given = r.order; promise = g; image = refl; sound = image_sound r.order g.sound })
    by (StoreCode.opens {f = f} {weight = weight} {r = r} g) =
        subst (λ (k : Said). SiteDoes i (Bytes.opening f weight) (with_store (image_of r.state.order) i.store) (seen_asking k [])) (answer_heard r.reply 0)
        (Firmware.SiteDoes.opens {r = of_answer r.reply 0} (passes r g g.sound refl refl))
    by (StoreCode.offers {f = f} {n = n} {packet = packet} {after = after} {r = r} g) =
        let slot : ℕ = next_slot_of (flow_at (view (state_in i.keeper)) f) in
        subst (λ (e : Seen Bytes.Packet Bytes.Packet). SiteDoes i (Bytes.offering f packet n) (with_store (image_of r.state.order) (back i.store n after)) e)
        (ap₂ seen_asking (answer_heard r.reply slot) (answer_taken r.reply slot (record { flow = f; bytes = packet })))
        (Firmware.SiteDoes.offers {r = of_answer r.reply slot} (passes r g g.sound refl refl))
    by (StoreCode.departs {n = n} {out = out} {after = after} {r = r} g) =
        let slot : ℕ = (leaving_place (view (state_in i.keeper))).slot in
        subst (λ (e : Seen Bytes.Packet Bytes.Packet). SiteDoes i (Bytes.departing n out) (with_store (image_of r.state.order) i.store) e)
        (ap₂ (λ (k : Said) (l : List Bytes.Packet). seen_departing k out after l) (reply_heard r.reply slot) (put_out_is r.reply slot after))
        (Firmware.SiteDoes.departs {r = of_reply r.reply slot} (passes r g g.sound refl refl))
