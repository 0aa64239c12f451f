-- The theorems. A reader who believes the definitions that these statements reach (tools/believed lists them) need not look at any proof.
use Prim.Native.Nat.{ℕ, ◌≤◌, ◌%◌}
use Rattle.std.specs.Prelude.{Result, Err}
use mathlib.Core.Path.{◌≡◌, refl, sym, ap, ◌∙◌, subst}
use mathlib.Core.List.{List, [], ◌∷◌, ◌++◌}
use lib.ListN.{length, drop}
use Rattle.model.specs.Limits.{queue_limit}
use Rattle.model.specs.Model.{Scheduler, flow_at, new_scheduler}
use Rattle.model.specs.Steps.{next_slot_of}
use Rattle.model.specs.Calls.{burst, flow_numbers}
use Rattle.model.specs.Replies.{Answer, Count, number_of, told}
use Rattle.model.specs.Rules.{count, standing}
use Rattle.model.specs.Chain.{Seen, begin, chain}
use Rattle.model.specs.OrderCalls.{Call, Packet, departing, bursting, order_calls}
use Rattle.model.specs.declared.Outcome.{Outcome}
use Rattle.model.specs.declared.Refusal.{Refusal}
use Rattle.model.specs.declared.Reply.{Reply}
use Rattle.model.specs.declared.Reply.TheVariants.{Refused}
use Rattle.model.specs.declared.Sent.{Sent}
use Rattle.model.proofs.Demand2.{nothing_lost, every_state_keeps_the_rules}
use Rattle.model.proofs.Departing.{never_refused}
use Rattle.model.proofs.Standing.{never_twice}
use Rattle.model.proofs.Unchanged as OnSizes
use Rattle.model.proofs.Refusals.{number_positive}
use Rattle.model.proofs.Bursting.{BurstShows, burst_shows, none_asked, burst_state}
use Rattle.order.specs.Encoding.{encode, view}
use Rattle.order.specs.Promised.{departed_as, counted_as, OpenGives, OfferGives, DepartGives, BurstGives}
use Rattle.order.specs.Runs.{Singles, Does}
use Rattle.order.specs.State.{State}
use Rattle.order.specs.declared.Departed.{Departed}
use Rattle.steps.specs.declared.Place.{Place}
use Rattle.order.proofs.Follows as Order
use Rattle.account.proofs.Theorems.{account, exact_bound, pair_bound}
use Rattle.store.specs.Slots.{store_length, written}
use Rattle.store.specs.StoreCalls.{WithStore, StoreCall, offering, store_calls, bytes_of}
use Rattle.store.specs.StoreCalls as OnBytes
use Rattle.store.specs.Promised as Store
use Rattle.store.specs.Runs as StoreCode
use Rattle.store.specs.Site.{Site}
use Rattle.store.proofs.Follows as Site
use Rattle.store.proofs.Kept.{bytes_kept, every_history_kept}
use Rattle.store.proofs.Unchanged as Kept
use Rattle.store.proofs.Balances.{accepted_is_stored}
use Rattle.site_account.proofs.Slots.{store_slots_in_turn}
use Rattle.site_account.proofs.Theorems.{store_account, store_exact_bound, store_pair_bound}
use Rattle.demands.specs.Demands.{Reached, CodeHistory, SeenOf, Demand1, Demand2, Demand3}
use Rattle.demands.specs.Layers.{order_layer, store_layer, firmware_order_layer, firmware_store_layer}
use Rattle.demands.proofs.Faces.{Facing, grounds}
use Rattle.image.specs.Image.{image_of, state_in, SoundImage}
use Rattle.houghbreeze.specs.Runs as Firmware
use Rattle.image.proofs.ImageLaws.{state_read, new_image}
use Rattle.houghbreeze.proofs.AsLayers.{as_order, from_order, site_with, image_with, as_store, from_store}
use Rattle.order.proofs.StateLaws.{new_gives}
use Rattle.store.proofs.SiteLaws.{new_law}
use Rattle.demands.proofs.Argument.{Grounds, beside, seen_same, unchanged, demand1, demand2, demand3}

-- ---- why

order_grounds : Grounds order_layer
order_grounds =
    record {
      Stands = Order.Stands;
      begins = λ c s new. subst (Order.Stands c) (sym new.1) (Order.new_stands new.0);
      follows = Order.follows;
      same_form = λ c d s. Order.same_form;
      premise = λ c s. Order.sound_of_standing;
      outcome = Order.has_outcome;
      refused_leaves = OnSizes.refused_unchanged;
      balanced = λ c s new calls f. rw new.1 (nothing_lost calls f);
      account = account;
      pair_bound = pair_bound;
      exact_bound = exact_bound;
    }

store_grounds : Grounds store_layer
store_grounds =
    record {
      Stands = Site.Stands;
      begins = λ c s new. subst (Site.Stands c) (sym new.1) (Site.new_stands new.0);
      follows = Site.follows;
      same_form = λ c d s. Site.same_form;
      premise = λ c s. Site.sound_of_standing;
      outcome = Site.has_outcome;
      refused_leaves = Kept.refused_unchanged;
      balanced = λ c s new calls f. rw new.1 (bytes_kept c.store new.2 calls f);
      account = store_account;
      pair_bound = store_pair_bound;
      exact_bound = store_exact_bound;
    }

firmware_order_faces : Facing order_layer order_grounds (List ℕ) Firmware.Does firmware_order_layer.New SoundImage state_in image_of
firmware_order_faces =
    record {
      starts = λ i m new. (encode new_scheduler, (new_gives, new.1), new.0 ∙ new_image);
      as_layer = λ d. let p = as_order d in (p.given, p.does, p.image);
      from_layer = λ {i} {c} {s} {e} d. from_order (record { given = s; does = d; image = refl });
      read_again = state_read;
      premise = λ i form sound. record { form = form; sound = sound };
    }

firmware_store_faces : Facing store_layer store_grounds (WithStore (List ℕ)) Firmware.SiteDoes firmware_store_layer.New (λ i. SoundImage i.keeper) site_with image_with
firmware_store_faces =
    record {
      starts = λ i m new.
          (OnBytes.with_store (record { order = encode new_scheduler }) i.store, (new_law (encode new_scheduler) new_gives, new.1, new.2), ap (λ (k : List ℕ). OnBytes.with_store k i.store) (new.0 ∙ new_image));
      as_layer = λ d. let p = as_store d in (p.given, p.does, p.image);
      from_layer = λ {i} {c} {s} {e} d. from_store (record { given = s; does = d; image = refl });
      read_again = λ s sound. ap (λ (k : State). OnBytes.with_store (record { order = k }) s.store) (state_read s.keeper.order sound);
      premise = λ i form sound. record { form = ap (λ (k : WithStore (List ℕ)). k.keeper) form; sound = sound };
    }

firmware_order_grounds : Grounds firmware_order_layer
firmware_order_grounds = grounds order_layer order_grounds _ _ _ _ _ _ firmware_order_faces

firmware_store_grounds : Grounds firmware_store_layer
firmware_store_grounds = grounds store_layer store_grounds _ _ _ _ _ _ firmware_store_faces

-- ---- the three demands

pub order_keeps_demand_1 : Demand1 order_layer
order_keeps_demand_1 = demand1 order_layer order_grounds

pub order_keeps_demand_2 : Demand2 order_layer
order_keeps_demand_2 = demand2 order_layer order_grounds

pub order_keeps_demand_3 : Demand3 order_layer
order_keeps_demand_3 = demand3 order_layer order_grounds

pub store_keeps_demand_1 : Demand1 store_layer
store_keeps_demand_1 = demand1 store_layer store_grounds

pub store_keeps_demand_2 : Demand2 store_layer
store_keeps_demand_2 = demand2 store_layer store_grounds

pub store_keeps_demand_3 : Demand3 store_layer
store_keeps_demand_3 = demand3 store_layer store_grounds

-- The same of the calls for firmware, on images.
pub firmware_order_keeps_demand_1 : Demand1 firmware_order_layer
firmware_order_keeps_demand_1 = demand1 firmware_order_layer firmware_order_grounds

pub firmware_order_keeps_demand_2 : Demand2 firmware_order_layer
firmware_order_keeps_demand_2 = demand2 firmware_order_layer firmware_order_grounds

pub firmware_order_keeps_demand_3 : Demand3 firmware_order_layer
firmware_order_keeps_demand_3 = demand3 firmware_order_layer firmware_order_grounds

pub firmware_store_keeps_demand_1 : Demand1 firmware_store_layer
firmware_store_keeps_demand_1 = demand1 firmware_store_layer firmware_store_grounds

pub firmware_store_keeps_demand_2 : Demand2 firmware_store_layer
firmware_store_keeps_demand_2 = demand2 firmware_store_layer firmware_store_grounds

pub firmware_store_keeps_demand_3 : Demand3 firmware_store_layer
firmware_store_keeps_demand_3 = demand3 firmware_store_layer firmware_store_grounds

-- The old chooser's fault: after any calls no flow stands in line twice, nor in line while it has the turn.
pub no_controller_in_line_twice : (calls : List Call) (f : ℕ) → count f (standing (chain order_calls (begin new_scheduler) calls).state.round) ≤ 1
no_controller_in_line_twice calls f = never_twice (chain order_calls (begin new_scheduler) calls).state (every_state_keeps_the_rules calls) f

-- ---- idle

-- Idle changes neither state nor store nor outgoing buffer: no departure call does with which nothing leaves.
pub order_idle_changes_nothing : {first : Scheduler} {calls : List Call} {h : CodeHistory order_layer} {seen : List (SeenOf order_layer)} {s : State} {e : SeenOf order_layer}
    → Reached order_layer first calls h seen → Does h.state departing s e → e.sends ≡ [] → s ≡ h.state
order_idle_changes_nothing {first} {calls} R d none =
    (unchanged order_layer order_grounds R d
    (OnSizes.unsent_departure_unchanged (chain order_calls (begin first) calls).state (sym (ap (λ (k : SeenOf order_layer). k.sends) (seen_same order_layer order_grounds R d)) ∙ none))
    ).0

pub store_idle_changes_nothing : {first : WithStore Scheduler} {calls : List StoreCall} {h : CodeHistory store_layer} {seen : List (SeenOf store_layer)} {n : ℕ} {out : List ℕ}
    {s : WithStore Site} {e : SeenOf store_layer} → Reached store_layer first calls h seen → StoreCode.Does h.state (OnBytes.departing n out) s e → e.sends ≡ []
    → (s ≡ h.state) × (e.back ≡ e.lent)
store_idle_changes_nothing {first} {calls} {h} {seen} {n} {out} R d none =
    unchanged store_layer store_grounds R d
    (Kept.unsent_departure_unchanged (chain store_calls (begin first) calls).state n out (sym (ap (λ (k : SeenOf store_layer). k.sends) (seen_same store_layer store_grounds R d)) ∙ none))

-- So do the calls for firmware leave image, store and outgoing buffer.
pub firmware_order_idle_changes_nothing : {first : Scheduler} {calls : List Call} {h : CodeHistory firmware_order_layer} {seen : List (SeenOf firmware_order_layer)} {j : List ℕ}
    {e : SeenOf firmware_order_layer} → Reached firmware_order_layer first calls h seen → Firmware.Does h.state departing j e → e.sends ≡ [] → j ≡ h.state
firmware_order_idle_changes_nothing {first} {calls} R d none =
    (unchanged firmware_order_layer firmware_order_grounds R d
    (OnSizes.unsent_departure_unchanged (chain order_calls (begin first) calls).state
    (sym (ap (λ (k : SeenOf firmware_order_layer). k.sends) (seen_same firmware_order_layer firmware_order_grounds R d)) ∙ none))
    ).0

pub firmware_store_idle_changes_nothing : {first : WithStore Scheduler} {calls : List StoreCall} {h : CodeHistory firmware_store_layer} {seen : List (SeenOf firmware_store_layer)} {n : ℕ}
    {out : List ℕ} {s : WithStore (List ℕ)} {e : SeenOf firmware_store_layer} → Reached firmware_store_layer first calls h seen
    → Firmware.SiteDoes h.state (OnBytes.departing n out) s e → e.sends ≡ [] → (s ≡ h.state) × (e.back ≡ e.lent)
firmware_store_idle_changes_nothing {first} {calls} {h} {seen} {n} {out} R d none =
    unchanged firmware_store_layer firmware_store_grounds R d
    (Kept.unsent_departure_unchanged (chain store_calls (begin first) calls).state n out
    (sym (ap (λ (k : SeenOf firmware_store_layer). k.sends) (seen_same firmware_store_layer firmware_store_grounds R d)) ∙ none))

-- ---- burst

module _ {first : Scheduler} {calls : List Call} {h : CodeHistory order_layer} {seen : List (SeenOf order_layer)} (R : Reached order_layer first calls h seen) where
  shown : {c : Call} {s : State} {e : Seen Packet Sent} → Does h.state c s e
      → (s ≡ encode (order_calls.does (chain order_calls (begin first) calls).state c).state) × (e ≡ (order_calls.does (chain order_calls (begin first) calls).state c).seen)
  unfolding order_grounds
  shown {c} {s} {e} d =
      let F = Order.follows h.state (chain order_calls (begin first) calls).state c s e (beside order_layer order_grounds R).stands d in
      (F.stands_then.form, F.seen_same)

  -- Burst's reply carries the number of departures made, at most the number asked for; it writes one byte, the flow number, per departure into the list
  -- from its start, and the rest of the list is unchanged.
  pub burst_counts_and_writes : {n : ℕ} {list : List ℕ} {s : State} {e : Seen Packet Sent} → Does h.state (bursting n list) s e → e.says.refusal ≡ 0
      → (e.says ≡ told (length e.sends ∷ [])) × (length e.sends ≤ n) × (e.back ≡ flow_numbers e.sends ++ drop (length e.sends) list)
  burst_counts_and_writes {n} {list} {s} {e} d accepted =
      let same = (shown d).1 in
      let B : BurstShows n list e =
      subst (BurstShows n list) (sym same)
      (burst_shows (chain order_calls (begin first) calls).state n list (sym (ap (λ (k : Seen Packet Sent). k.says.refusal) same) ∙ accepted)) in
      (B.counts, B.at_most, B.writes)

  -- It gives back the state that as many single calls lead to.
  pub burst_leads_as_single_calls : {n : ℕ} {before list : List ℕ} {r : Outcome State Count} {sent : List Sent} {t : State} → BurstGives h.state n before list r
      → Singles n h.state sent t → n ≤ length before → r.state ≡ t
  unfolding counted_as order_grounds
  burst_leads_as_single_calls {n} {before} {list} {r} g singles enough =
      let S = (beside order_layer order_grounds R).stands in
      ap (λ (k : Outcome State Count). k.state) g.outcome
      ∙ ap (λ (k : Scheduler). encode (burst k n before).state) (Order.stands_for S)
      ∙ ap encode (burst_state (chain order_calls (begin first) calls).state n before enough)
      ∙ sym (Order.singles_lead singles (chain order_calls (begin first) calls).state S)

  -- N = 0 changes nothing, and neither does a burst at idle.
  pub burst_of_none : {list : List ℕ} {s : State} {e : Seen Packet Sent} → Does h.state (bursting 0 list) s e
      → (s ≡ h.state) × (e.back ≡ list) × (e.says ≡ told (0 ∷ []))
  unfolding order_grounds
  burst_of_none {list} d =
      let none = none_asked (chain order_calls (begin first) calls).state list in
      let same = (shown d).1 ∙ none.1 in (
        (shown d).0 ∙ ap encode none.0 ∙ sym (beside order_layer order_grounds R).stands.form,
        ap (λ (k : Seen Packet Sent). k.back) same,
        ap (λ (k : Seen Packet Sent). k.says) same,
      )

  pub burst_at_idle : {n : ℕ} {list : List ℕ} {s : State} {e : Seen Packet Sent} → Does h.state (bursting n list) s e → e.sends ≡ []
      → (s ≡ h.state) × (e.back ≡ e.lent)
  burst_at_idle {n} {list} d none =
      unchanged order_layer order_grounds R d
      (OnSizes.unsent_burst_unchanged (chain order_calls (begin first) calls).state n list (sym (ap (λ (k : Seen Packet Sent). k.sends) (shown d).1) ∙ none))

-- ---- slots

-- A flow's first packet since reset takes slot 0; each later one takes the next slot, 7 being followed by 0. Only the packet's own bytes are written.
pub slots_in_turn : {first : WithStore Scheduler} {calls : List StoreCall} {h : CodeHistory store_layer} {seen : List (SeenOf store_layer)} {f n : ℕ} {packet : List ℕ}
    {s : WithStore Site} {e : SeenOf store_layer} → Reached store_layer first calls h seen → StoreCode.Does h.state (offering f packet n) s e → e.says.refusal ≡ 0
    → s.store ≡ written h.state.store f (length (bytes_of f h.accepted) % queue_limit) packet
unfolding OnBytes.does store_grounds
slots_in_turn {first} {calls} {h} {seen} {f} {n} {packet} {s} {e} R d accepted =
    let m : WithStore Scheduler = (chain store_calls (begin first) calls).state in
    let B = beside store_layer store_grounds R in
    let F = Site.follows h.state m (offering f packet n) s e B.stands d in
    F.stands_then.store_same
    ∙ accepted_is_stored m.keeper B.stands.rules m.store (length_then R) f packet n (sym (ap (λ (k : SeenOf store_layer). k.says.refusal) F.seen_same) ∙ accepted)
    ∙ ap (λ (l : List ℕ). written l f (next_slot_of (flow_at m.keeper f)) packet) (sym B.stands.store_same)
    ∙ ap (λ (k : ℕ). written h.state.store f k packet) (slot_then R f ∙ ap (λ (l : List OnBytes.Packet). length (bytes_of f l) % queue_limit) (sym B.accepted_same))
  where
    whole : {first : WithStore Scheduler} {calls : List StoreCall} {h : CodeHistory store_layer} {seen : List (SeenOf store_layer)} → Reached store_layer first calls h seen
        → length first.store ≡ store_length
    whole R = ap (λ (k : WithStore Scheduler). length k.store) R.new.1 ∙ R.new.2

    length_then : {first : WithStore Scheduler} {calls : List StoreCall} {h : CodeHistory store_layer} {seen : List (SeenOf store_layer)} → Reached store_layer first calls h seen
        → length (chain store_calls (begin first) calls).state.store ≡ store_length
    length_then {first} {calls} R =
        rw R.new.1 (every_history_kept R.code.store R.new.2 calls).whole

    slot_then : {first : WithStore Scheduler} {calls : List StoreCall} {h : CodeHistory store_layer} {seen : List (SeenOf store_layer)} → Reached store_layer first calls h seen → (f : ℕ)
        → next_slot_of (flow_at (chain store_calls (begin first) calls).state.keeper f) ≡ length (bytes_of f (chain store_calls (begin first) calls).accepted) % queue_limit
    slot_then {first} {calls} R f = rw R.new.1 (store_slots_in_turn R.code.store R.new.2 calls f)

-- ---- numbers

-- No refusal has number 0: where the number that a definition gives is 0, nothing is refused.
pub open_not_refused_with_0 : {c : State} {f weight : ℕ} {r : Outcome State Answer} → OpenGives c f weight r → (k : Refusal) → r.reply ≡ Err k → 1 ≤ number_of k
open_not_refused_with_0 g k e = number_positive k

pub offer_not_refused_with_0 : {c : State} {f size : ℕ} {r : Outcome State (Result Place Refusal)} → OfferGives c f size r → (k : Refusal) → r.reply ≡ Err k
    → 1 ≤ number_of k
offer_not_refused_with_0 g k e = number_positive k

pub departure_never_refused : {c : State} {r : Outcome State Departed} {k : Refusal} → DepartGives c r → r.reply.reply ≡ Refused k → ⊥
unfolding departed_as
departure_never_refused {c} {r} {k} g e = never_refused (view c) k (sym (ap (λ (o : Outcome State Departed). o.reply.reply) g.outcome) ∙ e)

pub burst_not_refused_with_0 : {c : State} {n : ℕ} {before list : List ℕ} {r : Outcome State Count} → BurstGives c n before list r → (k : Refusal) → r.reply ≡ Err k
    → 1 ≤ number_of k
burst_not_refused_with_0 g k e = number_positive k

pub store_open_not_refused_with_0 : {c : Site} {f weight : ℕ} {r : Outcome Site Answer} → Store.OpenGives c f weight r → (k : Refusal) → r.reply ≡ Err k
    → 1 ≤ number_of k
store_open_not_refused_with_0 g k e = number_positive k

pub store_offer_not_refused_with_0 : {c : Site} {f : ℕ} {packet store after : List ℕ} {r : Outcome Site Answer} → Store.OfferGives c f packet store after r
    → (k : Refusal) → r.reply ≡ Err k → 1 ≤ number_of k
store_offer_not_refused_with_0 g k e = number_positive k

pub store_departure_not_refused_with_0 : {c : Site} {store out after : List ℕ} {r : Outcome Site Reply} → Store.DepartGives c store out after r
    → (k : Refusal) → r.reply ≡ Refused k → 1 ≤ number_of k
store_departure_not_refused_with_0 g k e = number_positive k
