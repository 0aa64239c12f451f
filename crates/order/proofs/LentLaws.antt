-- A call in place lends the line as the end of the state's bytes, and stores the flow once the line is back.
use Prim.Native.Nat.{ℕ, ◌-◌, ◌≤◌, ◌<◌}
use mathlib.Core.Path.{◌≡◌, sym, ap, ap₂, ◌∙◌, subst}
use mathlib.Core.List.{List, [], ◌∷◌, ◌++◌, append-nil}
use mathlib.Core.Bool.{cond}
use native.Mathlib.Omega.{arith}
use lib.ListN.{length, get_or, take, drop, length-append, length-drop, drop_of_length-le}
use lib.Seq.{take_all, length-take-le, get_or-drop}
use lib.Dec.{ltb}
use Rattle.std.specs.Prelude.{Result, Ok, Err}
use Rattle.model.specs.declared.Refusal.{Refusal}
use Rattle.model.specs.declared.Reply.{Reply}
use Rattle.model.specs.Replies.{Answer}
use Rattle.steps.specs.declared.RoundCell.{RoundCell}
use Rattle.model.specs.Limits.{flow_limit, mark_limit}
use Rattle.model.specs.Choose.{if_empty}
use Rattle.model.specs.Model.{Flow}
use Rattle.model.specs.Steps.{visit, whose, packet_joined}
use Rattle.model.specs.Calls.{open_answer, offer_answer, open_flow, departed, next_visit}
use Rattle.model.proofs.Choosing.{ok_has}
use Rattle.model.proofs.Flows.{here_now}
use Rattle.model.proofs.Keeps.{departed_keeps}
use Rattle.model.proofs.Refusals.{may_open}
use Rattle.steps.specs.Cells.{encode_flow, view_flow}
use Rattle.steps.specs.Places.{first_place}
use Rattle.steps.specs.Premises.{OpenInPlace, OfferInPlace, in_place, view_round, FlowReady, RoundReady, open_in_place, offer_in_place, offered_parts, opened_parts}
use Rattle.steps.specs.declared.FlowCell.{FlowCell}
use Rattle.steps.specs.declared.Place.{Place}
use Rattle.turns.specs.Visits.{MayVisit, VisitInPlace, encode_visit, visit_in_place}
use Rattle.layout.specs.Bytes.{byte_limit}
use Rattle.layout.specs.Layout.{cells_length, flow_in, line_in, line_start, with_flow, with_opened}
use Rattle.layout.proofs.Laws.{with_flow_length}
use Rattle.order.specs.Encoding.{view, Sound, state_with}
use Rattle.order.specs.Promised.{OpenGives, OfferGives, DepartGives, left_by}
use Rattle.order.specs.State.{State}
use Rattle.order.proofs.StateLaws.{round_of, round_of_sound, bytes_count, cell_ready, at_in_reach, may_visit, visit_seen, departed_gives, index_in_reach, opened_gives, open_refused_gives, may_offer_to, offered_gives, offer_refused_gives}

-- A state's bytes are lent whole.
pub bytes_lent : (bytes : List ℕ) {r : RoundCell} → Sound (state_with bytes r) → length bytes ≡ cells_length
bytes_lent bytes {r} S = bytes_count (state_with bytes r) S

-- The line as it is lent, and the bytes with a line that has come back.
abbrev pub lent_line : List ℕ → List ℕ
lent_line bytes = take (length bytes - line_start) (drop line_start bytes)

abbrev pub line_back : List ℕ → List ℕ → List ℕ
line_back bytes line = take line_start bytes ++ (line ++ drop (length bytes - line_start) (drop line_start bytes))

lent_line_is : (bytes : List ℕ) → lent_line bytes ≡ line_in bytes
lent_line_is bytes = take_all (length bytes - line_start) (drop line_start bytes) (omega (arith, length-drop line_start bytes))

line_back_is : (bytes line : List ℕ) → line_back bytes line ≡ take line_start bytes ++ line
line_back_is bytes line =
    ap (λ (l : List ℕ). take line_start bytes ++ (line ++ l)) (drop_of_length-le (drop line_start bytes) {i = length bytes - line_start} (omega (arith, length-drop line_start bytes)))
    ∙ ap (λ (l : List ℕ). take line_start bytes ++ l) (append-nil line)

joined_surplus : (x : Flow) (size : ℕ) → x.surplus ≤ mark_limit → (packet_joined x size).surplus ≤ mark_limit
unfolding packet_joined
joined_surplus x size h = go x.queue
  where
    go : (q : List ℕ) → if_empty q 0 x.surplus ≤ mark_limit
    go [] = omega arith
    go (p ∷ q) = h

module _ (c : State) (S : Sound c) where
  -- A line of the same length leaves as many bytes.
  pub back_count : (line : List ℕ) → length line ≡ length (lent_line c.cells) → length (line_back c.cells line) ≡ cells_length
  back_count line e =
      ap length (line_back_is c.cells line)
      ∙ omega
      (arith, length-append (take line_start c.cells) line, length-take-le line_start c.cells (omega (arith, bytes_count c S)), e, ap length (lent_line_is c.cells), length-drop line_start c.cells, bytes_count c S)

  -- So does a flow stored then.
  pub put_length : (at : ℕ) (x : FlowCell) {bytes : List ℕ} (line : List ℕ) → length line ≡ length (lent_line c.cells) → bytes ≡ with_flow (line_back c.cells line) at x
      → length bytes ≡ cells_length
  put_length at x line e stored = ap length stored ∙ with_flow_length (line_back c.cells line) at x ∙ back_count line e

  -- The flow whose turn it is, as the code finds it by the line's first cell.
  pub whose_seen : (at : ℕ)
      → ((line : List ℕ) → RoundReady (in_place line c.round) → get_or c.cells line_start 0 ≡ get_or line 0 0 → at ≡ whose (view_round (in_place line c.round)))
      → at ≡ whose (view_round (round_of c))
  whose_seen at found = found (line_in c.cells) (round_of_sound c S) (sym (get_or-drop line_start c.cells 0 0))

  module _ (at : ℕ) (e : at ≡ whose (view_round (round_of c))) (x : FlowCell) (k : x ≡ flow_in c.cells at) where
    pub lent_may_visit : MayVisit (in_place (lent_line c.cells) c.round) x
    lent_may_visit = rw (lent_line_is c.cells, k) (may_visit c S at e)

    module _ (then : RoundCell) (left : FlowCell) (reply : Reply) (line : List ℕ) (g : visit_in_place line then left reply ≡ encode_visit (visit (view_round (in_place (lent_line c.cells) c.round)) (view_flow x))) where
      pub whole_line : visit_in_place line then left reply ≡ encode_visit (visit (view_round (round_of c)) (view_flow (flow_in c.cells at)))
      whole_line = g ∙ ap₂ (λ (l : List ℕ) (y : FlowCell). encode_visit (visit (view_round (in_place l c.round)) (view_flow y))) (lent_line_is c.cells) k

      visited_surplus : left.surplus < byte_limit
      unfolding encode_visit encode_flow departed view view_round
      visited_surplus =
          omega
          (arith, ap (λ (j : VisitInPlace). j.flow.surplus) (visit_seen c S at e then left reply line whole_line), ap (λ (y : Flow). y.surplus) (here_now (view c) S.rules {f = whose (view c).round} (rw (sym e) (at_in_reach c S at e)) (next_visit (view c)).flow (next_visit (view c)).round), ((departed_keeps (view c) S.rules).flow_rules (whose (view c).round)).surplus_in_range)

      -- The flow may be stored once the line is back.
      pub lent_may_put : length line ≡ length (lent_line c.cells) → (length (line_back c.cells line) ≡ cells_length) × ((at < flow_limit) × (left.surplus < byte_limit))
      lent_may_put same = (back_count line same, (at_in_reach c S at e, visited_surplus))

      pub lent_departed_gives : (from : Place) → (FlowReady x → from ≡ first_place at (view_flow x))
          → DepartGives c (left_by (with_flow (line_back c.cells line) at left) then (record { reply = reply; from = from }))
      lent_departed_gives from lay =
          subst (λ (l : List ℕ). DepartGives c (left_by (with_flow l at left) then (record { reply = reply; from = from })))
          (sym (line_back_is c.cells line))
          (departed_gives c S at e then left reply line whole_line from (subst (λ (y : FlowCell). FlowReady y → from ≡ first_place at (view_flow y)) k lay))

  module _ (f at : ℕ) (e : at ≡ cond (ltb f flow_limit) f 0) (x : FlowCell) (k : x ≡ flow_in c.cells at) where
    pub lent_ready : FlowReady x
    lent_ready = rw k (cell_ready c S at (index_in_reach c S f at e))

    pub lent_may_offer : RoundReady (in_place (lent_line c.cells) c.round) × (FlowReady x × (f < flow_limit → x.waiting ≡ 0 → c.round.length < flow_limit))
    lent_may_offer = rw (lent_line_is c.cells, k) (may_offer_to c S f at e)

    surplus_small : (view_flow x).surplus ≤ mark_limit
    surplus_small = lent_ready.rules.surplus_in_range

    module _ (weight : ℕ) (y : FlowCell) (a : Answer) (g : open_in_place y a ≡ opened_parts x f weight) where
      opened_small : (y.weight < byte_limit) × (y.surplus < byte_limit)
      unfolding opened_parts encode_flow
      opened_small =
          rw (ap (λ (j : OpenInPlace). j.flow) g)
          (ok_has (λ (y : Flow). (y.weight < byte_limit) × (y.surplus < byte_limit)) (open_answer f weight (view_flow x)) (open_flow weight) (view_flow x)
          (λ z. (omega (arith, (may_open f weight (view_flow x) z).weight_small), omega arith)) (omega (arith, lent_ready.rules.weight_in_range), omega (arith, surplus_small)))

      pub may_put_opened : (length c.cells ≡ cells_length) × ((at < flow_limit) × ((y.weight < byte_limit) × (y.surplus < byte_limit)))
      may_put_opened = (bytes_count c S, (index_in_reach c S f at e, opened_small))

      whole_flow : open_in_place y a ≡ opened_parts (flow_in c.cells at) f weight
      whole_flow = g ∙ ap (λ (z : FlowCell). opened_parts z f weight) k

    module _ (weight : ℕ) (y : FlowCell) where
      pub lent_opened_gives : open_in_place y (Ok tt) ≡ opened_parts x f weight → OpenGives c f weight (left_by (with_opened c.cells at y) c.round (Ok tt))
      lent_opened_gives g = opened_gives c S f at e weight y (whole_flow weight y (Ok tt) g)

      pub lent_open_refused_gives : (r : Refusal) → open_in_place y (Err r) ≡ opened_parts x f weight → OpenGives c f weight (left_by c.cells c.round (Err r))
      lent_open_refused_gives r g = open_refused_gives c S f at e weight y r (whole_flow weight y (Err r) g)

    module _ (size : ℕ) (then : RoundCell) (y : FlowCell) (line : List ℕ) where
      module _ (reply : Result Place Refusal) (g : offer_in_place line then y reply ≡ offered_parts (in_place (lent_line c.cells) c.round) x f size) where
        offered_surplus : y.surplus < byte_limit
        unfolding offered_parts encode_flow
        offered_surplus =
            omega
            (arith, ap (λ (j : OfferInPlace). j.flow.surplus) g, ok_has (λ (y : Flow). y.surplus ≤ mark_limit) (offer_answer f size (view_flow x)) (packet_joined (view_flow x) size) (view_flow x) (λ z. joined_surplus (view_flow x) size surplus_small) surplus_small)

        -- The flow may be stored once the line is back.
        pub lent_may_put_offered : length line ≡ length (lent_line c.cells)
            → (length (line_back c.cells line) ≡ cells_length) × ((at < flow_limit) × (y.surplus < byte_limit))
        lent_may_put_offered same = (back_count line same, (index_in_reach c S f at e, offered_surplus))

        whole_parts : offer_in_place line then y reply ≡ offered_parts (round_of c) (flow_in c.cells at) f size
        whole_parts = g ∙ ap₂ (λ (l : List ℕ) (z : FlowCell). offered_parts (in_place l c.round) z f size) (lent_line_is c.cells) k

      pub lent_offered_gives : (place : Place) → offer_in_place line then y (Ok place) ≡ offered_parts (in_place (lent_line c.cells) c.round) x f size
          → OfferGives c f size (left_by (with_flow (line_back c.cells line) at y) then (Ok place))
      lent_offered_gives place g =
          subst (λ (l : List ℕ). OfferGives c f size (left_by (with_flow l at y) then (Ok place))) (sym (line_back_is c.cells line))
          (offered_gives c S f at e size then y line place (whole_parts (Ok place) g))

      pub lent_offer_refused_gives : (r : Refusal) → offer_in_place line then y (Err r) ≡ offered_parts (in_place (lent_line c.cells) c.round) x f size
          → OfferGives c f size (left_by (line_back c.cells line) then (Err r))
      lent_offer_refused_gives r g =
          subst (λ (l : List ℕ). OfferGives c f size (left_by l then (Err r))) (sym (line_back_is c.cells line))
          (offer_refused_gives c S f at e size then y line r (whole_parts (Err r) g))
