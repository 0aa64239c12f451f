-- Each call balances on bytes: for each flow, what waited and what the call accepts are what leaves and what waits then.
use Prim.Native.Nat.{ℕ, ◌≤◌, ◌<◌}
use mathlib.Core.Path.{◌≡◌, refl, sym, ap, ap₂, ◌∙◌}
use mathlib.Core.List.{List, [], ◌∷◌, ◌++◌, map, append-nil}
use native.Mathlib.Omega.{arith}
use native.Mathlib.Decide.{dec_lt}
use lib.ListN.{length, take, drop}
use lib.Seq.{take_at}
use Rattle.model.specs.Limits.{flow_limit, queue_limit, size_limit}
use Rattle.model.specs.Model.{Flow, Scheduler, flow_at, new_scheduler}
use Rattle.model.specs.Steps.{packet_joined, flow_lined, next_slot_of}
use Rattle.model.specs.Calls.{put, open_flow, opened, open_answer, offered, offer_answer, departed, unless_refused}
use Rattle.model.specs.Replies.{of_answer, sent_by, taken_by}
use Rattle.model.specs.Rules.{Rules}
use Rattle.model.specs.declared.Reply.{Reply}
use Rattle.model.specs.declared.Reply.TheVariants.{Departure, Idle, Refused}
use Rattle.model.specs.declared.Sent.{Sent}
use Rattle.model.proofs.Flows.{at_others, first_in_range, here_now, beyond_closed}
use Rattle.model.proofs.Refusals.{MayOpen, may_open, MayOffer, may_offer}
use Rattle.store.specs.Slots.{store_length, written, held}
use Rattle.store.specs.Calls.{AfterOffer, AfterDeparture, store_offer, store_offer_answer, store_depart, store_depart_answer}
use Rattle.store.specs.StoreCalls.{lent, back, Packet, put_out, bytes_of, held_from, waiting_bytes}
use Rattle.store.proofs.SlotLaws.{held_length, written_length}
use Rattle.store.proofs.CallLaws.{offer_may, offer_state, offer_refused, offer_stores, offer_answered, departs, depart_refused, depart_made, sent_departure}
use Rattle.model.proofs.Departing.{Leaves, departed_leaves, idle_stays, never_refused}
use Rattle.std.specs.Prelude.{Ok, Err}
use Rattle.model.specs.Replies.{Answer}
use Rattle.model.proofs.Choosing.{ok_chosen, ok_has}
use Rattle.model.proofs.Refusals.{no_number}
use Rattle.model.proofs.Keeps.{new_closed}
use Rattle.model.proofs.Line.{same_or_other}
use Rattle.store.proofs.Lending.{lent_length, lent_whole, back_whole, back_untouched}
use Rattle.store.proofs.WaitingLaws.{waiting_over_another_flow, waiting_with_one_more, bytes_of_own, bytes_of_another}

-- The packet that a departure puts out, if it does.
abbrev pub taken : AfterDeparture → List Packet
taken o = put_out o.reply o.out

-- What waits depends on a flow's slot and queue alone.
same_flow : (s t : Scheduler) (store : List ℕ) (g : ℕ) → flow_at s g ≡ flow_at t g → waiting_bytes s store g ≡ waiting_bytes t store g
unfolding waiting_bytes
same_flow s t store g e = ap (λ (x : Flow). held_from store g x.slot x.queue) e

nobody : (s : Scheduler) (store : List ℕ) (g : ℕ) → (flow_at s g).queue ≡ [] → waiting_bytes s store g ≡ []
unfolding waiting_bytes held_from
nobody s store g e = ap (held_from store g (flow_at s g).slot) e

-- A flow of a new scheduler has nothing waiting.
pub new_waits_for_nothing : (store : List ℕ) (f : ℕ) → waiting_bytes new_scheduler store f ≡ []
new_waits_for_nothing store f = nobody new_scheduler store f (ap (λ (x : Flow). x.queue) (new_closed f))

-- A call balances where what waited, with what it accepts, is what leaves, followed by what waits then.
abbrev pub Balances : Scheduler → List ℕ → List Packet → List Packet → Scheduler → List ℕ → Type 0
Balances s store accepted left s' store' =
    (g : ℕ) → waiting_bytes s store g ++ bytes_of g accepted ≡ bytes_of g left ++ waiting_bytes s' store' g

nothing_moves : (s s' : Scheduler) (store store' : List ℕ) → s' ≡ s → store' ≡ store → Balances s store [] [] s' store'
unfolding bytes_of
nothing_moves s s' store store' a b g = append-nil (waiting_bytes s store g) ∙ sym (ap₂ (λ (t : Scheduler) (l : List ℕ). waiting_bytes t l g) a b)

-- The state once a flow is opened, once a packet has joined, and the store then.
abbrev opened_in : Scheduler → ℕ → ℕ → Scheduler
opened_in s f weight = put s f (open_flow weight) s.round

abbrev joined_in : Scheduler → ℕ → ℕ → Scheduler
joined_in s f size = put s f (packet_joined (flow_at s f) size) (flow_lined s.round f (flow_at s f))

abbrev stored_in : Scheduler → List ℕ → ℕ → List ℕ → List ℕ
stored_in s store f packet = written store f (next_slot_of (flow_at s f)) packet

-- Opening a flow: nothing waits there before or after.
module _ (s : Scheduler) (R : Rules s) (store : List ℕ) (f weight : ℕ) where
  open_waits : MayOpen f weight (flow_at s f) → (g : ℕ) → waiting_bytes (opened_in s f weight) store g ≡ waiting_bytes s store g
  open_waits may g =
      same_or_other (λ h. waiting_bytes (opened_in s f weight) store h ≡ waiting_bytes s store h) f g here
      (λ d. same_flow (opened_in s f weight) s store g (at_others s f (open_flow weight) s.round g d))
    where
      opened_empty : (flow_at (opened_in s f weight) f).queue ≡ []
      opened_empty = ap (λ (x : Flow). x.queue) (here_now s R may.flow_in_range (open_flow weight) s.round)

      here : waiting_bytes (opened_in s f weight) store f ≡ waiting_bytes s store f
      here = nobody (opened_in s f weight) store f opened_empty ∙ sym (nobody s store f ((R.flow_rules f).open_if_waiting may.not_open))

  pub open_balances : Balances s store [] [] (opened s f weight).state store
  unfolding opened unless_refused bytes_of
  open_balances g =
      append-nil (waiting_bytes s store g)
      ∙ sym (ok_has (λ t. waiting_bytes t store g ≡ waiting_bytes s store g) (open_answer f weight (flow_at s f)) (opened_in s f weight) s
      (λ e. open_waits (may_open f weight (flow_at s f) e) g) refl)

-- An accepted packet is written in the slot behind its flow's last, and joins its queue.
module _ (s : Scheduler) (R : Rules s) (store : List ℕ) (whole : length store ≡ store_length) (f : ℕ) (packet : List ℕ)
    (may : MayOffer f (length packet) (flow_at s f)) where
  abbrev slot_taken : ℕ
  slot_taken = next_slot_of (flow_at s f)

  next_in_reach : slot_taken < queue_limit
  next_in_reach = omega arith

  flow_joined : flow_at (joined_in s f (length packet)) f ≡ packet_joined (flow_at s f) (length packet)
  flow_joined =
      here_now s R may.flow_in_range (packet_joined (flow_at s f) (length packet)) (flow_lined s.round f (flow_at s f))

  join_own : waiting_bytes (joined_in s f (length packet)) (stored_in s store f packet) f ≡ waiting_bytes s store f ++ (packet ∷ [])
  unfolding waiting_bytes packet_joined
  join_own =
      ap (λ (x : Flow). held_from (stored_in s store f packet) f x.slot x.queue) flow_joined
      ∙ waiting_with_one_more store packet whole may.size_small f slot_taken may.flow_in_range next_in_reach
      (flow_at s f).slot (R.flow_rules f).slot_in_range (R.flow_rules f).sizes_in_range may.has_room refl

  -- The packets of another flow lie where they lay; a number that no flow has stands for a flow with none.
  beyond : (g : ℕ) → flow_limit ≤ g → (flow_at s g).queue ≡ []
  beyond g h = ap (λ (x : Flow). x.queue) (beyond_closed s R.all_flows g h)

  others_lie : (g : ℕ) → (g ≡ f → ⊥) → waiting_bytes s (stored_in s store f packet) g ≡ waiting_bytes s store g
  unfolding waiting_bytes
  others_lie g d =
      elim (dec_lt g flow_limit) [
        | yes b ↦
            waiting_over_another_flow store packet whole may.size_small f slot_taken may.flow_in_range next_in_reach g b d
            (flow_at s g).slot (R.flow_rules g).slot_in_range (R.flow_rules g).sizes_in_range
        | no b ↦ nobody s (stored_in s store f packet) g (beyond g (omega arith)) ∙ sym (nobody s store g (beyond g (omega arith)))
      ]

  join_another : (g : ℕ) → (g ≡ f → ⊥) → waiting_bytes (joined_in s f (length packet)) (stored_in s store f packet) g ≡ waiting_bytes s store g
  join_another g d =
      same_flow (joined_in s f (length packet)) s (stored_in s store f packet) g
      (at_others s f (packet_joined (flow_at s f) (length packet)) (flow_lined s.round f (flow_at s f)) g d)
      ∙ others_lie g d

  join_waits : (g : ℕ) → waiting_bytes s store g ++ bytes_of g (record { flow = f; bytes = packet } ∷ [])
      ≡ waiting_bytes (joined_in s f (length packet)) (stored_in s store f packet) g
  join_waits g =
      same_or_other
      (λ h. waiting_bytes s store h ++ bytes_of h (record { flow = f; bytes = packet } ∷ []) ≡ waiting_bytes (joined_in s f (length packet)) (stored_in s store f packet) h)
      f g
      (ap (λ (l : List (List ℕ)). waiting_bytes s store f ++ l) (bytes_of_own f packet) ∙ sym join_own)
      (λ d.
      ap (λ (l : List (List ℕ)). waiting_bytes s store g ++ l) (bytes_of_another f g packet d)
      ∙ append-nil (waiting_bytes s store g)
      ∙ sym (join_another g d))

  join_balances : Balances s store (record { flow = f; bytes = packet } ∷ []) [] (joined_in s f (length packet)) (stored_in s store f packet)
  unfolding bytes_of
  join_balances g = join_waits g

-- An offer, whatever is lent.
module _ (s : Scheduler) (R : Rules s) (store : List ℕ) (whole : length store ≡ store_length) (f : ℕ) (packet : List ℕ) (n : ℕ) where
  abbrev offer_made : AfterOffer
  offer_made = store_offer s f packet (lent n store)

  -- Where it is accepted, all of the store was lent, and no more.
  module _ (e : store_offer_answer s f packet (lent n store) ≡ Ok tt) where
    all_lent : n ≡ length store
    all_lent = omega (arith, lent_length n store, (offer_may s f packet (lent n store) e).0)

    may_join : MayOffer f (length packet) (flow_at s f)
    may_join = may_offer f (length packet) (flow_at s f) (offer_may s f packet (lent n store) e).1

    state_joined : offer_made.state ≡ joined_in s f (length packet)
    unfolding offered unless_refused
    state_joined = offer_state s f packet (lent n store) (offer_may s f packet (lent n store) e).0 ∙ ok_chosen (offer_answer f (length packet) (flow_at s f)) _ s (offer_may s f packet (lent n store) e).1

    store_joined : back store n offer_made.store ≡ stored_in s store f packet
    store_joined =
        ap (back store n) (offer_stores s f packet (lent n store) e ∙ ap (λ (l : List ℕ). written l f (next_slot_of (flow_at s f)) packet) (lent_whole n store all_lent))
        ∙ back_whole n store (stored_in s store f packet) all_lent
        (written_length store packet whole may_join.size_small f (next_slot_of (flow_at s f)) may_join.flow_in_range (omega arith) ∙ sym whole)

  pub offer_balances : Balances s store (taken_by offer_made.answer (record { flow = f; bytes = packet })) [] offer_made.state (back store n offer_made.store)
  offer_balances =
      rw (offer_answered s f packet (lent n store)) (by (store_offer_answer s f packet (lent n store)) refl)
    where
      by : (m : Answer) → store_offer_answer s f packet (lent n store) ≡ m
          → Balances s store (taken_by m (record { flow = f; bytes = packet })) [] offer_made.state (back store n offer_made.store)
      by (Ok tt) e g =
          join_balances s R store whole f packet (may_join e) g
          ∙ ap (λ (l : List (List ℕ)). bytes_of g [] ++ l) (sym (ap₂ (λ (t : Scheduler) (l : List ℕ). waiting_bytes t l g) (state_joined e) (store_joined e)))
      by (Err r) e g =
          let kept = offer_refused s f packet (lent n store) r e in
          nothing_moves s offer_made.state store (back store n offer_made.store) kept.0 (ap (back store n) kept.1 ∙ back_untouched n store) g

  -- Where it says no refusal, the store has the packet in the flow's next slot.
  pub accepted_is_stored : (of_answer offer_made.answer).refusal ≡ 0 → back store n offer_made.store ≡ stored_in s store f packet
  accepted_is_stored none =
      store_joined (no_number (store_offer_answer s f packet (lent n store)) (sym (ap (λ (a : Answer). (of_answer a).refusal) (offer_answered s f packet (lent n store))) ∙ none))

-- The bytes that a flow's first slot held.
abbrev first_held : Scheduler → List ℕ → Sent → List ℕ
first_held s store d = held store d.flow (flow_at s d.flow).slot d.size

-- A packet that leaves was the first of its flow's queue, and its bytes are those that the flow's first slot held.
module _ (s : Scheduler) (store : List ℕ) (d : Sent) (t : Scheduler) (L : Leaves s d t) where
  leave_own : waiting_bytes s store d.flow ≡ first_held s store d ∷ waiting_bytes t store d.flow
  unfolding waiting_bytes held_from
  leave_own =
      ap (held_from store d.flow (flow_at s d.flow).slot) L.first_in_queue
      ∙ ap (λ (k : ℕ). first_held s store d ∷ held_from store d.flow k (flow_at t d.flow).queue) (sym L.slot_moves_on)

  leave_waits : (g : ℕ) → waiting_bytes s store g ≡ bytes_of g (record { flow = d.flow; bytes = first_held s store d } ∷ []) ++ waiting_bytes t store g
  leave_waits g =
      same_or_other (λ h. waiting_bytes s store h ≡ bytes_of h (record { flow = d.flow; bytes = first_held s store d } ∷ []) ++ waiting_bytes t store h) d.flow g
      (leave_own ∙ ap (λ (l : List (List ℕ)). l ++ waiting_bytes t store d.flow) (sym (bytes_of_own d.flow (first_held s store d))))
      (λ n.
      same_flow s t store g (sym (L.others_stay g n))
      ∙ ap (λ (l : List (List ℕ)). l ++ waiting_bytes t store g) (sym (bytes_of_another d.flow g (first_held s store d) n)))

  leave_balances : Balances s store [] (record { flow = d.flow; bytes = first_held s store d } ∷ []) t store
  unfolding bytes_of
  leave_balances g = append-nil (waiting_bytes s store g) ∙ leave_waits g

-- A departure, whatever is lent.
module _ (s : Scheduler) (R : Rules s) (store : List ℕ) (whole : length store ≡ store_length) (n : ℕ) (out : List ℕ) where
  abbrev depart_outcome : AfterDeparture
  depart_outcome = store_depart s (lent n store) out

  pub none_taken : (o : AfterDeparture) → sent_by o.reply ≡ [] → taken o ≡ []
  unfolding put_out
  none_taken o e = ap (map (λ (d : Sent). record { flow = d.flow; bytes = take d.size o.out })) e

  one_taken : (o : AfterDeparture) (d : Sent) → o.reply ≡ Departure d → taken o ≡ record { flow = d.flow; bytes = take d.size o.out } ∷ []
  unfolding put_out
  one_taken o d e = ap (λ (r : Reply). map (λ (d : Sent). record { flow = d.flow; bytes = take d.size o.out }) (sent_by r)) e

  -- Where a packet leaves, all of the store was lent, and the outgoing buffer begins with what the flow's first slot held.
  module _ (z : store_depart_answer (lent n store) out ≡ Ok tt) (d : Sent) (e : (departed s).reply ≡ Departure d) where
    first_leaves : Leaves s d (departed s).state
    first_leaves = departed_leaves s R d e

    size_small : d.size ≤ size_limit
    size_small = (first_in_range (rw first_leaves.first_in_queue at (R.flow_rules d.flow).sizes_in_range)).1

    whole_lent : lent n store ≡ store
    whole_lent = lent_whole n store (omega (arith, lent_length n store, (departs s (lent n store) out z).0))

    pub as_many_held : length (first_held s store d) ≡ d.size
    as_many_held =
        held_length store d.flow (flow_at s d.flow).slot d.size whole first_leaves.in_reach (R.flow_rules d.flow).slot_in_range size_small

    first_sent : take d.size depart_outcome.out ≡ first_held s store d
    first_sent =
        ap (take d.size) ((depart_made s (lent n store) out z).1 ∙ sent_departure s (lent n store) out (departed s).reply d e)
        ∙ ap (λ (l : List ℕ). take d.size (first_held s l d ++ drop d.size out)) whole_lent
        ∙ take_at (first_held s store d) (drop d.size out) d.size as_many_held

    pub first_taken : taken depart_outcome ≡ record { flow = d.flow; bytes = first_held s store d } ∷ []
    first_taken =
        one_taken depart_outcome d ((depart_made s (lent n store) out z).2 ∙ e)
        ∙ ap (λ (b : List ℕ). record { flow = d.flow; bytes = b } ∷ []) first_sent

    departure_balances : Balances s store [] (taken depart_outcome) depart_outcome.state store
    departure_balances g =
        leave_balances s store d (departed s).state first_leaves g
        ∙ ap₂ (λ (l : List Packet) (t : Scheduler). bytes_of g l ++ waiting_bytes t store g) (sym first_taken) (sym (depart_made s (lent n store) out z).0)

  none_balances : depart_outcome.state ≡ s → sent_by depart_outcome.reply ≡ [] → Balances s store [] (taken depart_outcome) depart_outcome.state store
  none_balances a b g =
      nothing_moves s depart_outcome.state store store a refl g
      ∙ ap (λ (l : List Packet). bytes_of g l ++ waiting_bytes depart_outcome.state store g) (sym (none_taken depart_outcome b))

  pub depart_balances : Balances s store [] (taken depart_outcome) depart_outcome.state store
  depart_balances = by (store_depart_answer (lent n store) out) refl
    where
      reply_by : (r : Reply) → (departed s).reply ≡ r → store_depart_answer (lent n store) out ≡ Ok tt → Balances s store [] (taken depart_outcome) depart_outcome.state store
      reply_by (Departure d) e z = departure_balances z d e
      reply_by Idle e z = none_balances ((depart_made s (lent n store) out z).0 ∙ idle_stays s e) (ap sent_by ((depart_made s (lent n store) out z).2 ∙ e))
      reply_by (Refused k) e z = absurd (never_refused s k e)

      by : (m : Answer) → store_depart_answer (lent n store) out ≡ m → Balances s store [] (taken depart_outcome) depart_outcome.state store
      by (Ok tt) e = reply_by (departed s).reply refl e
      by (Err m) e = none_balances (depart_refused s (lent n store) out m e).0 (ap sent_by (depart_refused s (lent n store) out m e).2)
