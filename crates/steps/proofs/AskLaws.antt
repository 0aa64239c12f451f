-- Open and offer, refused or not, on the two parts that they concern.
use Prim.Native.Nat.{ℕ}
use mathlib.Core.Path.{◌≡◌, sym, ap, ◌∙◌}
use native.Mathlib.Omega.{arith}
use Rattle.std.specs.Prelude.{Result, Ok, Err}
use Rattle.model.specs.Choose.{if_ok, ok_with}
use Rattle.model.specs.Replies.{Answer}
use Rattle.model.specs.Steps.{packet_joined, flow_lined}
use Rattle.model.specs.Calls.{open_answer, offer_answer, open_flow}
use Rattle.model.specs.declared.Refusal.{Refusal}
use Rattle.model.proofs.Refusals.{MayOffer, may_offer}
use Rattle.steps.specs.Cells.{packed, encode_flow, view_flow}
use Rattle.steps.specs.Places.{end_place}
use Rattle.steps.specs.Premises.{RoundInPlace, encode_round, view_round, FlowReady, RoundReady, HasRoom, OpenInPlace, OfferInPlace, opened_parts, offered_parts}
use Rattle.steps.specs.declared.FlowCell.{FlowCell}
use Rattle.steps.specs.declared.Place.{Place}
use Rattle.steps.proofs.Encoded.{waiting_is}

same_opened : {x x' : FlowCell} {d d' : Answer} → x ≡ x' → d ≡ d' → ◌≡◌ {A = OpenInPlace} (record { flow = x; answer = d }) (record { flow = x'; answer = d' })
same_opened a b = λ i. record { flow = a i; answer = b i }

same_offered : {r r' : RoundInPlace} {x x' : FlowCell} {d d' : Result Place Refusal} → r ≡ r' → x ≡ x' → d ≡ d'
    → ◌≡◌ {A = OfferInPlace} (record { round = r; flow = x; reply = d }) (record { round = r'; flow = x'; reply = d' })
same_offered a b c = λ i. record { round = a i; flow = b i; reply = c i }

module _ (x : FlowCell) (f : ℕ) (ready : FlowReady x) where
  module _ (weight : ℕ) where
    pub opened_law : Ok tt ≡ open_answer f weight (view_flow x)
        → record { flow = record { weight = weight; surplus = 0; slot = 0; waiting = 0; sizes = 0 }; answer = Ok tt }
        ≡ opened_parts x f weight
    unfolding opened_parts encode_flow packed
    opened_law e = same_opened (ap (λ (a : Answer). encode_flow (if_ok a (open_flow weight) (view_flow x))) e) e

    pub open_refused_law : (r : Refusal) → Err r ≡ open_answer f weight (view_flow x) → record { flow = x; answer = Err r } ≡ opened_parts x f weight
    unfolding opened_parts
    open_refused_law r e = same_opened (ready.form ∙ ap (λ (a : Answer). encode_flow (if_ok a (open_flow weight) (view_flow x))) e) e

  module _ (size : ℕ) where
    pub may_offer_here : Ok tt ≡ offer_answer f size (view_flow x) → MayOffer f size (view_flow x)
    may_offer_here e = may_offer f size (view_flow x) (sym e)

    pub has_room_here : Ok tt ≡ offer_answer f size (view_flow x) → HasRoom x size
    has_room_here e =
        record {
          ready = ready;
          room = omega (arith, waiting_is x ready.form, (may_offer_here e).has_room);
          size_positive = (may_offer_here e).size_positive;
          size_small = (may_offer_here e).size_small;
        }

    pub offered_law : (r line : RoundInPlace) (queue : FlowCell) (end : Place) → Ok tt ≡ offer_answer f size (view_flow x)
        → line ≡ encode_round (flow_lined (view_round r) f (view_flow x)) → queue ≡ encode_flow (packet_joined (view_flow x) size) → end ≡ end_place f (view_flow x) size
        → record { round = line; flow = queue; reply = Ok end } ≡ offered_parts r x f size
    unfolding offered_parts
    offered_law r line queue end e a b p =
        same_offered
        (a ∙ ap (λ (k : Answer). encode_round (if_ok k (flow_lined (view_round r) f (view_flow x)) (view_round r))) e)
        (b ∙ ap (λ (k : Answer). encode_flow (if_ok k (packet_joined (view_flow x) size) (view_flow x))) e)
        (ap (λ (k : Place). Ok k) p ∙ ap (λ (k : Answer). ok_with k (end_place f (view_flow x) size)) e)

    pub offer_refused_law : (r : RoundInPlace) → RoundReady r → (k : Refusal) → Err k ≡ offer_answer f size (view_flow x)
        → record { round = r; flow = x; reply = Err k } ≡ offered_parts r x f size
    unfolding offered_parts
    offer_refused_law r round k e =
        same_offered
        (round.form ∙ ap (λ (q : Answer). encode_round (if_ok q (flow_lined (view_round r) f (view_flow x)) (view_round r))) e)
        (ready.form ∙ ap (λ (q : Answer). encode_flow (if_ok q (packet_joined (view_flow x) size) (view_flow x))) e)
        (ap (λ (q : Answer). ok_with q (end_place f (view_flow x) size)) e)
