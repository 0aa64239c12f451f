-- From what a call in place gives on the bytes of an image to what it leaves of the image, and what C may then be told.
use Prim.Native.Nat.{ℕ, ◌<◌}
use mathlib.Core.Path.{◌≡◌, refl, sym, ap, ◌∙◌, subst}
use mathlib.Core.List.{List, ◌++◌}
use native.Mathlib.Omega.{arith}
use lib.ListN.{length, set, take, drop}
use lib.Seq.{take_at, drop_at, set_at}
use lib.Dec.{ltb}
use Rattle.std.specs.Prelude.{Result, Ok, Err}
use Rattle.model.specs.Choose.{ok_with}
use Rattle.model.specs.Model.{Scheduler, flow_at}
use Rattle.model.specs.Calls.{Burst, put, unless_refused, offer_answer, offered, departures, burst, burst_made}
use Rattle.model.specs.Replies.{Answer, Count}
use Rattle.model.specs.Steps.{packet_joined, flow_lined, whose}
use Rattle.model.specs.declared.Outcome.{Outcome}
use Rattle.model.specs.declared.Refusal.{Refusal}
use Rattle.model.specs.declared.Refusal.TheVariants.{ListShort}
use Rattle.model.proofs.Choosing.{ok_has, tested_has}
use Rattle.model.proofs.Waiting.{made_at_most}
use Rattle.steps.specs.Places.{end_place}
use Rattle.steps.specs.declared.Place.{Place}
use Rattle.steps.specs.declared.RoundCell.{RoundCell}
use Rattle.layout.specs.Layout.{cells_length}
use Rattle.order.specs.Encoding.{encode, view, Sound, state_with}
use Rattle.order.specs.Promised.{OpenGives, OfferGives, DepartGives, BurstGives, left_by, offered_as, departed_as, counted_as}
use Rattle.order.specs.State.{State}
use Rattle.order.specs.declared.Departed.{Departed}
use Rattle.order.proofs.StateLaws.{bytes_count}
use Rattle.image.specs.Image.{round_bytes, image_of, round_start, round_in, state_in, SoundImage}
use Rattle.houghbreeze.specs.Promised.{Gives, Leaves}
use Rattle.image.specs.Replies.{CountFits, SlotFits}
use Rattle.image.specs.declared.HbReply.{HbReply}
use Rattle.image.proofs.ImageLaws.{state_read, image_sound}

-- What a call of the layer gives, with its image and its reply.
pub passes : {R : Type 0} {Promise : R → Type 0} {state_of : R → State} {saying : R → HbReply} (given : R) → Promise given → Sound (state_of given)
    → {after : List ℕ} → after ≡ image_of (state_of given) → {r : HbReply} → r ≡ saying given → Gives Promise state_of saying after r
passes {state_of = state_of} given promise S {after} e says =
    record { given = given; promise = promise; image = e; says = says; sound = subst SoundImage (sym e) (image_sound (state_of given) S) }

-- What a call in place leaves, in an image.
leaves : {A : Type 0} {Promise : Outcome State A → Type 0} (c : State) (reply : A) → Promise (record { state = c; reply = reply }) → Sound c
    → {after : List ℕ} → after ≡ image_of c → Leaves Promise after reply
leaves {A} {Promise} c reply promise S {after} e =
    record {
      promise = subst (λ (k : State). Promise (record { state = k; reply = reply })) (sym (ap state_in e ∙ state_read c S)) promise;
      sound = subst SoundImage (sym e) (image_sound c S);
    }

-- Of the round an offer changes the line's length only.
abbrev with_length : RoundCell → ℕ → RoundCell
with_length r n = record r { length = n }

abbrev LengthOnly : State → Scheduler → Type 0
LengthOnly c s = (encode s).round ≡ with_length c.round (encode s).round.length

offer_changes_length : (c : State) (f size : ℕ) (bytes : List ℕ) (then : RoundCell) (o : Result Place Refusal) → OfferGives c f size (left_by bytes then o)
    → then ≡ with_length c.round then.length
unfolding encode view offered offered_as unless_refused put flow_lined
offer_changes_length c f size bytes then o g =
    let x = flow_at (view c) f in
    let given : then ≡ (encode (offered (view c) f size).state).round = ap (λ (a : Outcome State (Result Place Refusal)). a.state.round) g.outcome in
    given
    ∙ ok_has (LengthOnly c) (offer_answer f size x) (put (view c) f (packet_joined x size) (flow_lined (view c).round f x)) (view c) (λ z. refl) refl
    ∙ ap (λ (q : RoundCell). with_length c.round q.length) (sym given)

slot_fits : (a : Answer) (place : Place) → place.slot < 65536 → SlotFits (ok_with a place)
slot_fits (Ok done) place h = h
slot_fits (Err r) place h = tt

module _ (image : List ℕ) (S : SoundImage image) where
  pub cells_lent : length (take cells_length image) ≡ cells_length
  cells_lent = bytes_count (state_in image) S.sound

  -- What is told fits the fields of a reply.
  pub offer_slot : {f size : ℕ} {r : Outcome State (Result Place Refusal)} → OfferGives (state_in image) f size r → SlotFits r.reply
  unfolding offered_as
  offer_slot {f} {size} g =
      let x = flow_at (view (state_in image)) f in
      rw (ap (λ (a : Outcome State (Result Place Refusal)). a.reply) g.outcome) (slot_fits (offer_answer f size x) (end_place f x size) (omega arith))

  pub departure_slot : {r : Outcome State Departed} → DepartGives (state_in image) r → r.reply.from.slot < 65536
  unfolding departed_as
  departure_slot g =
      rw (ap (λ (a : Outcome State Departed). a.reply.from) g.outcome) (omega (arith, (S.sound.rules.flow_rules (whose (view (state_in image)).round)).slot_in_range))

  pub burst_count : {n : ℕ} {before list : List ℕ} {r : Outcome State Count} → BurstGives (state_in image) n before list r → CountFits r.reply
  unfolding counted_as burst burst_made
  burst_count {n} {before} g =
      let s = view (state_in image) in
      rw (ap (λ (a : Outcome State Count). a.reply) g.outcome)
      (tested_has (λ (b : Burst). CountFits b.reply) (ltb (length before) n) (record { state = s; list = before; reply = Err ListShort }) (burst_made before (departures n s))
      tt (λ z. omega (arith, made_at_most n s S.sound.rules)))

  round_lies : drop cells_length image ≡ round_bytes (round_in image)
  unfolding image_of
  round_lies = ap (drop cells_length) S.form ∙ drop_at (take cells_length image) (round_bytes (round_in image)) cells_length cells_lent

  -- The round is read off the image, and the call made on the state's bytes, which come back as `bytes`.
  module _ (r : RoundCell) (e : r ≡ round_in image) where
    pub open_passes : (f weight : ℕ) (bytes : List ℕ) (a : Answer) → OpenGives (state_with (take cells_length image) r) f weight (left_by bytes r a)
        → Leaves (OpenGives (state_in image) f weight) (bytes ++ drop cells_length image) a
    unfolding image_of
    open_passes f weight bytes a g =
        leaves (state_with bytes (round_in image)) a (subst (λ (q : RoundCell). OpenGives (state_with (take cells_length image) q) f weight (left_by bytes q a)) e g)
        (subst (λ (q : RoundCell). Sound (state_with bytes q)) e g.sound) (ap (λ (l : List ℕ). bytes ++ l) round_lies)

    module _ (f size : ℕ) (bytes : List ℕ) (after : RoundCell) (o : Result Place Refusal)
        (g : OfferGives (state_with (take cells_length image) r) f size (left_by bytes after o)) where
      pub offer_passes : Leaves (OfferGives (state_in image) f size) (set (bytes ++ drop cells_length image) round_start after.length) o
      unfolding image_of round_bytes
      offer_passes =
          let kept : after ≡ with_length (round_in image) after.length =
          offer_changes_length _ f size bytes after o g ∙ ap (λ (q : RoundCell). with_length q after.length) e in
          leaves (state_with bytes after) o (subst (λ (q : RoundCell). OfferGives (state_with (take cells_length image) q) f size (left_by bytes after o)) e g) g.sound
          (ap (λ (l : List ℕ). set (bytes ++ l) round_start after.length) round_lies
          ∙ set_at bytes (round_in image).length _ after.length round_start (bytes_count _ g.sound)
          ∙ ap (λ (q : RoundCell). bytes ++ round_bytes q) (sym kept))

    module _ (bytes : List ℕ) (after : RoundCell) (T : Sound (state_with bytes after)) where
      -- What putting the round back gives.
      round_put : {then : List ℕ} → then ≡ take cells_length (bytes ++ drop cells_length image) ++ round_bytes after → then ≡ image_of (state_with bytes after)
      unfolding image_of
      round_put p = p ∙ ap (λ (l : List ℕ). l ++ round_bytes after) (take_at bytes (drop cells_length image) cells_length (bytes_count (state_with bytes after) T))

    module _ (bytes : List ℕ) (after : RoundCell) (d : Departed) (g : DepartGives (state_with (take cells_length image) r) (left_by bytes after d)) where
      pub depart_passes : {then : List ℕ} → then ≡ take cells_length (bytes ++ drop cells_length image) ++ round_bytes after
          → Leaves (DepartGives (state_in image)) then d
      depart_passes p =
          leaves (state_with bytes after) d (subst (λ (q : RoundCell). DepartGives (state_with (take cells_length image) q) (left_by bytes after d)) e g) g.sound
          (round_put bytes after g.sound p)

    module _ (n : ℕ) (before list bytes : List ℕ) (after : RoundCell) (k : Count)
        (g : BurstGives (state_with (take cells_length image) r) n before list (left_by bytes after k)) where
      pub burst_passes : {then : List ℕ} → then ≡ take cells_length (bytes ++ drop cells_length image) ++ round_bytes after
          → Leaves (BurstGives (state_in image) n before list) then k
      burst_passes p =
          leaves (state_with bytes after) k (subst (λ (q : RoundCell). BurstGives (state_with (take cells_length image) q) n before list (left_by bytes after k)) e g) g.sound
          (round_put bytes after g.sound p)
