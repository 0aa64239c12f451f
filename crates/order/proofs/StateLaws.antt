-- The whole state: it is seen again as it was encoded, its parts are ready for the private functions, and one flow put back with the round is
-- what the model puts.
use Prim.Native.Nat.{ℕ, zero, suc, ◌≤◌, ◌<◌}
use mathlib.Core.Path.{◌≡◌, refl, sym, ap, ap₂, ◌∙◌, subst}
use mathlib.Core.List.{List, [], ◌∷◌, ◌++◌, map}
use mathlib.Core.Bool.{Bool, cond}
use native.Mathlib.Omega.{arith}
use native.Mathlib.Decide.{dec_lt}
use lib.ListN.{length, get_or, set, take, length-map, get_or-map, take-append-drop}
use lib.Dec.{ltb, leb}
use borrow.Author.Tests.{lt-ltb, le-ltb, le-leb}
use Rattle.model.specs.Limits.{flow_limit}
use Rattle.std.specs.Prelude.{Result, Ok, Err}
use Rattle.model.specs.Choose.{if_ok, ok_with}
use Rattle.model.specs.Replies.{Answer}
use Rattle.model.specs.Model.{Flow, Round, Scheduler, closed_flow, flow_at, new_scheduler}
use Rattle.model.specs.Steps.{visit, whose, whose_turn, packet_joined, flow_lined}
use Rattle.model.specs.Calls.{put, unless_refused, open_answer, offer_answer, open_flow, opened, offered, departed, next_visit}
use Rattle.model.specs.Rules.{Sizes, Rules}
use Rattle.model.specs.declared.Outcome.{Outcome}
use Rattle.model.specs.declared.Refusal.{Refusal}
use Rattle.model.specs.declared.Refusal.TheVariants.{NoSuchFlow}
use Rattle.model.specs.declared.Reply.{Reply}
use Rattle.model.specs.declared.Serving.{Serving}
use Rattle.model.specs.declared.Serving.TheVariants.{Turn}
use Rattle.model.proofs.Departing.{visit_weight}
use Rattle.model.proofs.Flows.{none_is_empty}
use Rattle.model.proofs.Keeps.{new_keeps, opened_keeps, offered_keeps, departed_keeps}
use Rattle.model.proofs.Standing.{InRange, TurnFacts, HeadFacts, in_range, room_for_another, turn_facts, head_facts, whose_in_reach}
use Rattle.model.proofs.Choosing.{ok_has}
use Rattle.model.proofs.Refusals.{not_done}
use Rattle.steps.specs.Cells.{cells, line_room, encode_flow, view_flow}
use Rattle.layout.specs.Layout.{bytes_of, cells_length, flow_in, line_in, line_start, with_flow, with_opened}
use Rattle.layout.proofs.Laws.{no_cell, Fits, bytes_length, flow_read, flows_read, line_read, line_stored, flow_stored, opened_stored}
use Rattle.order.specs.Encoding.{encode, view, Sound, state_with}
use Rattle.steps.specs.Places.{end_place, offered_place, joining_place, first_place, leaving_place}
use Rattle.steps.specs.Premises.{RoundInPlace, in_place, numbers_of, encode_round, view_round, FlowReady, RoundReady, HasFirst, OpenInPlace, OfferInPlace, open_in_place, offer_in_place, opened_parts, offered_parts}
use Rattle.turns.specs.Visits.{MayServe, MayBegin, MayVisit, VisitInPlace, encode_visit, visit_in_place}
use Rattle.order.specs.Promised.{answered_as, offered_as, departed_as, NewGives, OpenGives, OfferGives, DepartGives, left_by}
use Rattle.order.specs.declared.Departed.{Departed}
use Rattle.steps.specs.declared.FlowCell.{FlowCell}
use Rattle.steps.specs.declared.Place.{Place}
use Rattle.steps.specs.declared.RoundCell.{RoundCell}
use Rattle.order.specs.State.{State}
use Rattle.steps.proofs.Encoded.{cells_as_long, flow_seen, flow_ready, round_seen, waiting_is, length_is}
use Rattle.steps.proofs.Packed.{packed_fits}

-- The round of a state, as the steps have it.
abbrev pub round_of : State → RoundInPlace
round_of c = in_place (line_in c.cells) c.round

any_default : {A : Type 0} (l : List A) (n : ℕ) (d e : A) → n < length l → get_or l n d ≡ get_or l n e
any_default [] n d e h = absurd (omega arith)
any_default (x ∷ l) zero d e h = refl
any_default (x ∷ l) (suc n) d e h = any_default l n d e (omega arith)

flows_seen : (l : List Flow) → ((f : ℕ) → Sizes (get_or l f closed_flow).queue) → map view_flow (map encode_flow l) ≡ l
flows_seen [] h = refl
flows_seen (x ∷ l) h = ap₂ (λ (y : Flow) (k : List Flow). y ∷ k) (flow_seen x (h 0)) (flows_seen l (λ f. h (suc f)))

-- Whether an answer with a place was good shows in the answer.
passed_with : {A : Type 0} {x : A} (p : A) (a : Answer) → ◌≡◌ {A = Result A Refusal} (Ok x) (ok_with a p) → Ok tt ≡ a
passed_with p (Ok done) e = refl
passed_with {A} {x} p (Err k) e = let z : ◌≡◌ {A = ℕ} 0 1 = ap {B = ℕ} (λ (r : Result A Refusal). if_ok r 0 1) e in absurd (omega arith)

refused_with : {A : Type 0} (p : A) (a : Answer) (k : Refusal) → ◌≡◌ {A = Result A Refusal} (Err k) (ok_with a p) → Err k ≡ a
refused_with {A} p (Ok done) k e = let z : ◌≡◌ {A = ℕ} 0 1 = ap {B = ℕ} (λ (r : Result A Refusal). if_ok r 1 0) e in absurd (omega arith)
refused_with {A} p (Err j) k e = ap {B = Answer} (λ (r : Result A Refusal). ok_with r tt) e

-- The flows that a scheduler's bytes hold.
module _ (s : Scheduler) (R : Rules s) where
  count_of_flows : length (map encode_flow s.flows) ≡ flow_limit
  count_of_flows = length-map s.flows encode_flow ∙ R.all_flows

  cell_of : (f : ℕ) → f < flow_limit → get_or (map encode_flow s.flows) f no_cell ≡ encode_flow (flow_at s f)
  cell_of f h = any_default (map encode_flow s.flows) f no_cell (encode_flow closed_flow) (omega (arith, count_of_flows)) ∙ get_or-map encode_flow s.flows f closed_flow

  cells_fit : (f : ℕ) → f < flow_limit → Fits (get_or (map encode_flow s.flows) f no_cell)
  unfolding encode_flow
  cells_fit f h = rw (cell_of f h) (packed_fits (R.flow_rules f).sizes_in_range (R.flow_rules f).waiting_in_range)

pub seen : (s : Scheduler) → Rules s → view (encode s) ≡ s
unfolding view view_round encode encode_round
seen s R =
    let flows : List FlowCell = map encode_flow s.flows in
    let line : List ℕ = cells line_room s.round.line in
    ap₂ (λ (l : List FlowCell) (k : List ℕ). record { flows = map view_flow l; round = view_round (in_place k (encode s).round) })
    (flows_read flows line (count_of_flows s R) (cells_fit s R))
    (line_read flows line (count_of_flows s R))
    ∙ ap₂ (λ (l : List Flow) (r : Round). record { flows = l; round = r }) (flows_seen s.flows (λ f. (R.flow_rules f).sizes_in_range)) (round_seen s.round)

pub seen_as : {c : State} {s : Scheduler} → Rules s → c ≡ encode s → view c ≡ s
seen_as {c} {s} R e = ap view e ∙ seen s R

-- What the state given back stands for.
module _ {c : State} (S : Sound c) where
  pub open_seen : {f weight : ℕ} {r : Outcome State Answer} → OpenGives c f weight r → view r.state ≡ (opened (view c) f weight).state
  unfolding answered_as
  open_seen {f} {weight} g = seen_as (opened_keeps (view c) f weight S.rules) (ap (λ (a : Outcome State Answer). a.state) g.outcome)

  pub offer_seen : {f size : ℕ} {r : Outcome State (Result Place Refusal)} → OfferGives c f size r → view r.state ≡ (offered (view c) f size).state
  unfolding offered_as
  offer_seen {f} {size} g = seen_as (offered_keeps (view c) f size S.rules) (ap (λ (a : Outcome State (Result Place Refusal)). a.state) g.outcome)

  pub depart_seen : {r : Outcome State Departed} → DepartGives c r → view r.state ≡ (departed (view c)).state
  unfolding departed_as
  depart_seen g = seen_as (departed_keeps (view c) S.rules) (ap (λ (a : Outcome State Departed). a.state) g.outcome)

pub sound_of : (s : Scheduler) → Rules s → Sound (encode s)
sound_of s R = record { form = ap encode (sym (seen s R)); rules = subst Rules (sym (seen s R)) R }

-- A packet that joins changes no weight.
joined_weight : (x : Flow) (size : ℕ) → (packet_joined x size).weight ≡ x.weight
unfolding packet_joined
joined_weight x size = refl

map_set : (l : List Flow) (n : ℕ) (x : Flow) → set (map encode_flow l) n (encode_flow x) ≡ map encode_flow (set l n x)
map_set [] n x = refl
map_set (y ∷ l) zero x = refl
map_set (y ∷ l) (suc n) x = ap (λ (k : List FlowCell). encode_flow y ∷ k) (map_set l n x)

module _ (c : State) (S : Sound c) where
  abbrev flow_cells : List FlowCell
  flow_cells = map encode_flow (view c).flows

  abbrev line_cells : List ℕ
  line_cells = cells line_room (view c).round.line

  bytes_are : c.cells ≡ bytes_of flow_cells line_cells
  unfolding encode
  bytes_are = ap (λ (k : State). k.cells) S.form

  pub bytes_count : length c.cells ≡ cells_length
  bytes_count =
      ap length bytes_are
      ∙ bytes_length flow_cells line_cells (count_of_flows (view c) S.rules)
      (cells_as_long line_room (view c).round.line (omega (arith, (in_range (view c) S.rules).line_in_range)))

  round_form : round_of c ≡ encode_round (view_round (round_of c))
  unfolding encode encode_round view view_round
  round_form =
      ap round_of S.form
      ∙ ap (λ (k : List ℕ). in_place k (encode (view c)).round) (line_read flow_cells line_cells (count_of_flows (view c) S.rules))

  cell_at : (f : ℕ) → f < flow_limit → flow_in c.cells f ≡ encode_flow (flow_at (view c) f)
  cell_at f h =
      ap (λ (k : List ℕ). flow_in k f) bytes_are
      ∙ flow_read flow_cells line_cells (count_of_flows (view c) S.rules) f h (cells_fit (view c) S.rules f h)
      ∙ cell_of (view c) S.rules f h

  pub cell_ready : (f : ℕ) → f < flow_limit → FlowReady (flow_in c.cells f)
  cell_ready f h = subst FlowReady (sym (cell_at f h)) (flow_ready (flow_at (view c) f) (S.rules.flow_rules f))

  pub cell_seen : (f : ℕ) → f < flow_limit → view_flow (flow_in c.cells f) ≡ flow_at (view c) f
  cell_seen f h = ap view_flow (cell_at f h) ∙ flow_seen (flow_at (view c) f) (S.rules.flow_rules f).sizes_in_range

  pub round_of_sound : RoundReady (round_of c)
  unfolding view view_round
  round_of_sound =
      let R : InRange (view c).round = in_range (view c) S.rules in
      record {
        form = round_form;
        line_fits = omega (arith, length_is (round_of c) round_form, R.line_in_range);
        mark_in_range = R.mark_in_range;
        running_in_range = R.running_in_range;
      }

  -- One flow put back, with a round.
  put_law : (bytes : List ℕ) (f : ℕ) (x : FlowCell) (line : List ℕ) (r : RoundCell) (y : Flow) (q : Round) → bytes ≡ bytes_of (set flow_cells f x) line
      → x ≡ encode_flow y → in_place line r ≡ encode_round q → state_with bytes r ≡ encode (put (view c) f y q)
  unfolding encode encode_round put
  put_law bytes f x line r y q stored a b =
      ap (λ (k : List ℕ). state_with k r) stored
      ∙ ap₂ (λ (l : List FlowCell) (k : RoundInPlace). state_with (bytes_of l k.line) (numbers_of k))
      (ap (λ (k : FlowCell). set flow_cells f k) a ∙ map_set (view c).flows f y)
      b

  module _ (f : ℕ) (h : f < flow_limit) (x : FlowCell) where
    same_cell : get_or flow_cells f no_cell ≡ flow_in c.cells f
    same_cell = cell_of (view c) S.rules f h ∙ sym (cell_at f h)

    -- A flow stored behind the line, and a flow stored with its weight.
    stored_behind : (line : List ℕ) → x.weight ≡ (flow_in c.cells f).weight → with_flow (take line_start c.cells ++ line) f x ≡ bytes_of (set flow_cells f x) line
    stored_behind line w =
        ap (λ (k : List ℕ). with_flow (take line_start k ++ line) f x) bytes_are
        ∙ ap (λ (k : List ℕ). with_flow k f x) (line_stored flow_cells line_cells line (count_of_flows (view c) S.rules))
        ∙ flow_stored flow_cells line (count_of_flows (view c) S.rules) f h x (w ∙ ap (λ (k : FlowCell). k.weight) (sym same_cell))

    stored_opened : with_opened c.cells f x ≡ bytes_of (set flow_cells f x) (line_in c.cells)
    stored_opened =
        ap (λ (k : List ℕ). with_opened k f x) bytes_are
        ∙ opened_stored flow_cells line_cells (count_of_flows (view c) S.rules) f h x
        ∙ ap (bytes_of (set flow_cells f x)) (sym (ap line_in bytes_are ∙ line_read flow_cells line_cells (count_of_flows (view c) S.rules)))

  -- The cell of a flow with a packet waiting.
  module _ (f : ℕ) (h : f < flow_limit) where
    weight_is : (flow_in c.cells f).weight ≡ (flow_at (view c) f).weight
    unfolding view_flow
    weight_is = ap (λ (y : Flow). y.weight) (cell_seen f h)

    surplus_is : (flow_in c.cells f).surplus ≡ (flow_at (view c) f).surplus
    unfolding view_flow
    surplus_is = ap (λ (y : Flow). y.surplus) (cell_seen f h)

    count_is : (flow_in c.cells f).waiting ≡ length (flow_at (view c) f).queue
    count_is = waiting_is (flow_in c.cells f) (cell_ready f h).form ∙ ap (λ (y : Flow). length y.queue) (cell_seen f h)

    has_first_at : ((flow_at (view c) f).queue ≡ [] → ⊥) → HasFirst (flow_in c.cells f)
    has_first_at waits =
        record {
          ready = cell_ready f h;
          waits = omega (arith, count_is, some (flow_at (view c) f).queue waits);
        }
      where
        some : (q : List ℕ) → (q ≡ [] → ⊥) → 0 < length q
        some [] d = absurd (d refl)
        some (p ∷ q) d = omega arith

  -- The round and the flow whose turn it is are as a visit wants them.
  module _ (at : ℕ) (e : at ≡ whose (view_round (round_of c))) where
    pub at_in_reach : at < flow_limit
    unfolding view view_round
    at_in_reach = rw e (whose_in_reach (view c) S.rules)

    turn_ready : (f allowed sent : ℕ) → c.round.turn ≡ Turn f allowed sent → TurnFacts (view c) f allowed sent → at ≡ f
        → MayServe (round_of c) (flow_in c.cells at) allowed sent
    unfolding view view_round
    turn_ready f allowed sent t T same =
        record {
          round_ready = round_of_sound;
          has_first = has_first_at at at_in_reach (rw same T.waits);
          weighs = rw (weight_is at at_in_reach, same) T.weighs;
          no_surplus = rw (surplus_is at at_in_reach, same) T.no_surplus;
          line_has_room = omega (arith, length_is (round_of c) round_form, T.line_has_room);
          a_visit_left = T.a_visit_left;
          allowed_in_range = T.allowed_in_range;
          more_may_be_sent = T.more_may_be_sent;
        }

    head_ready : HeadFacts (view c) at → (c.round.length ≡ 0 → ⊥) → MayBegin (round_of c) (flow_in c.cells at)
    unfolding view view_round
    head_ready H d =
        record {
          round_ready = round_of_sound;
          some_in_line = omega arith;
          has_first = has_first_at at at_in_reach H.waits;
          weighs = rw (weight_is at at_in_reach) H.weighs;
          owed = rw (surplus_is at at_in_reach, weight_is at at_in_reach) H.owed;
        }

    pub may_visit : MayVisit (round_of c) (flow_in c.cells at)
    unfolding view view_round
    may_visit =
        record {
          round_ready = round_of_sound;
          flow_ready = cell_ready at at_in_reach;
          in_turn = λ f allowed sent t. turn_ready f allowed sent t (turn_facts (view c) S.rules f allowed sent t) (e ∙ ap (λ (u : Serving). whose_turn u (view c).round.line) t);
          at_head = λ t d. head_ready (rw (e ∙ ap (λ (u : Serving). whose_turn u (view c).round.line) t) (head_facts (view c) S.rules t (omega (arith, length_is (round_of c) round_form)))) d;
        }

    place_seen : first_place at (view_flow (flow_in c.cells at)) ≡ leaving_place (view c)
    unfolding view view_round
    place_seen =
        ap (first_place at) (cell_seen at at_in_reach) ∙ ap (λ (k : ℕ). first_place k (flow_at (view c) k)) e

    module _ (then : RoundCell) (left : FlowCell) (reply : Reply) (line : List ℕ) (g : visit_in_place line then left reply ≡ encode_visit (visit (view_round (round_of c)) (view_flow (flow_in c.cells at)))) where
      pub visit_seen : visit_in_place line then left reply ≡ encode_visit (next_visit (view c))
      unfolding view view_round
      visit_seen =
          g
          ∙ ap (λ (y : Flow). encode_visit (visit (view c).round y)) (cell_seen at at_in_reach)
          ∙ ap (λ (k : ℕ). encode_visit (visit (view c).round (flow_at (view c) k))) e

      weight_kept : left.weight ≡ (flow_in c.cells at).weight
      unfolding encode_visit encode_flow view view_round
      weight_kept =
          ap (λ (k : VisitInPlace). k.flow.weight) visit_seen
          ∙ visit_weight (view c).round (flow_at (view c) (whose (view c).round))
          ∙ ap (λ (k : ℕ). (flow_at (view c) k).weight) (sym e)
          ∙ sym (weight_is at at_in_reach)

      pub departed_state : state_with (with_flow (take line_start c.cells ++ line) at left) then ≡ encode (departed (view c)).state
      unfolding departed encode_visit view view_round
      departed_state =
          put_law (with_flow (take line_start c.cells ++ line) at left) at left line then (next_visit (view c)).flow (next_visit (view c)).round
          (stored_behind at at_in_reach left line weight_kept)
          (ap (λ (k : VisitInPlace). k.flow) visit_seen)
          (ap (λ (k : VisitInPlace). k.round) visit_seen)
          ∙ ap (λ (k : ℕ). encode (put (view c) k (next_visit (view c)).flow (next_visit (view c)).round)) e

      pub departed_reply : reply ≡ (departed (view c)).reply
      unfolding departed encode_visit
      departed_reply = ap (λ (k : VisitInPlace). k.reply) visit_seen

      pub departed_gives : (from : Place) → (FlowReady (flow_in c.cells at) → from ≡ first_place at (view_flow (flow_in c.cells at)))
          → DepartGives c (left_by (with_flow (take line_start c.cells ++ line) at left) then (record { reply = reply; from = from }))
      unfolding departed_as
      departed_gives from lay =
          record {
            outcome = λ i. record { state = departed_state i; reply = record { reply = departed_reply i; from = (lay (cell_ready at at_in_reach) ∙ place_seen) i } };
            sound = subst Sound (sym departed_state) (sound_of (departed (view c)).state (departed_keeps (view c) S.rules));
          }

  -- Open and offer: a number that no flow has is refused whatever flow is looked at.
  module _ (f at : ℕ) (e : at ≡ cond (ltb f flow_limit) f 0) where
    pub index_in_reach : at < flow_limit
    index_in_reach =
        elim (dec_lt f flow_limit) [
          | yes b ↦ rw (e ∙ ap (λ (t : Bool). cond t f 0) (lt-ltb f flow_limit b)) b
          | no b ↦ rw (e ∙ ap (λ (t : Bool). cond t f 0) (le-ltb f flow_limit (omega arith))) (omega arith)
        ]

    index_is : f < flow_limit → at ≡ f
    index_is b = e ∙ ap (λ (t : Bool). cond t f 0) (lt-ltb f flow_limit b)

    -- For a check ρ that refuses numbers that no flow has.
    module _ (ρ : Flow → Answer) (refuses : (y : Flow) → flow_limit ≤ f → ρ y ≡ Err NoSuchFlow) where
      abbrev looked_at : Flow
      looked_at = flow_at (view c) at

      same_answer : ρ looked_at ≡ ρ (flow_at (view c) f)
      same_answer =
          elim (dec_lt f flow_limit) [
            | yes b ↦ ap (λ (k : ℕ). ρ (flow_at (view c) k)) (index_is b)
            | no b ↦ refuses looked_at (omega arith) ∙ sym (refuses (flow_at (view c) f) (omega arith))
          ]

      -- Where nothing refuses, the flow looked at is the one asked for.
      index_passed : Ok tt ≡ ρ looked_at → at ≡ f
      index_passed e =
          elim (dec_lt f flow_limit) [
            | yes b ↦ index_is b
            | no b ↦ absurd (not_done NoSuchFlow (sym (refuses looked_at (omega arith)) ∙ sym e))
          ]

      module _ (x : Flow) (i : x ≡ looked_at) where
        answer_seen : (a : Answer) → a ≡ ρ x → a ≡ ρ (flow_at (view c) f)
        answer_seen a k = k ∙ ap ρ i ∙ same_answer

        -- Accepted: one flow is put anew, with a round.
        passed_state : (flow : Flow → Flow) (round : Flow → Round) (bytes : List ℕ) (cell : FlowCell) (line : List ℕ) (r : RoundCell)
            → bytes ≡ bytes_of (set flow_cells at cell) line → cell ≡ encode_flow (flow x) → in_place line r ≡ encode_round (round x) → Ok tt ≡ ρ x
            → state_with bytes r
            ≡ encode (unless_refused (ρ (flow_at (view c) f)) (view c) (put (view c) f (flow (flow_at (view c) f)) (round (flow_at (view c) f)))).state
        unfolding unless_refused
        passed_state flow round bytes cell line r stored g h k =
            put_law bytes at cell line r (flow x) (round x) stored g h
            ∙ ap (λ (y : Flow). encode (put (view c) at (flow y) (round y))) i
            ∙ ap (λ (j : ℕ). encode (put (view c) j (flow (flow_at (view c) j)) (round (flow_at (view c) j)))) (index_passed (k ∙ ap ρ i))
            ∙ ap (λ (a : Answer). encode (if_ok a (put (view c) f (flow (flow_at (view c) f)) (round (flow_at (view c) f))) (view c))) (answer_seen (Ok tt) k)

        -- Refused: the state is as it was.
        refused_state : (k : Refusal) (t : Scheduler) → Err k ≡ ρ x → c ≡ encode (unless_refused (ρ (flow_at (view c) f)) (view c) t).state
        unfolding unless_refused
        refused_state k t e = S.form ∙ ap (λ (a : Answer). encode (if_ok a t (view c))) (answer_seen (Err k) e)

    no_such_flow : (rest : Answer) → flow_limit ≤ f → cond (leb flow_limit f) (Err NoSuchFlow) rest ≡ Err NoSuchFlow
    no_such_flow rest h = ap (λ (t : Bool). cond t (Err NoSuchFlow) rest) (le-leb flow_limit f h)

    abbrev asked : Flow
    asked = view_flow (flow_in c.cells at)

    module _ (weight : ℕ) where
      opened_outcome : {r : Outcome State Answer} → r ≡ answered_as (opened (view c) f weight) → OpenGives c f weight r
      unfolding answered_as
      opened_outcome e =
          record {
            outcome = e;
            sound = subst (λ (r : Outcome State Answer). Sound r.state) (sym e) (sound_of (opened (view c) f weight).state (opened_keeps (view c) f weight S.rules));
          }

      pub opened_gives : (x : FlowCell) → open_in_place x (Ok tt) ≡ opened_parts (flow_in c.cells at) f weight
          → OpenGives c f weight (left_by (with_opened c.cells at x) c.round (Ok tt))
      unfolding opened_parts view view_round opened answered_as unless_refused
      opened_gives x g =
          let passes : Ok tt ≡ open_answer f weight asked = ap (λ (k : OpenInPlace). k.answer) g in
          opened_outcome
          (ap₂ (λ (t : State) (a : Answer). record { state = t; reply = a })
          (passed_state (open_answer f weight) (λ y h. no_such_flow _ h) asked (cell_seen at index_in_reach) (λ y. open_flow weight) (λ y. (view c).round)
          (with_opened c.cells at x) x (line_in c.cells) c.round (stored_opened at index_in_reach x)
          (ap (λ (k : OpenInPlace). k.flow) g ∙ ap (λ (a : Answer). encode_flow (if_ok a (open_flow weight) asked)) (sym passes))
          round_form passes)
          (answer_seen (open_answer f weight) (λ y h. no_such_flow _ h) asked (cell_seen at index_in_reach) (Ok tt) passes))

      pub open_refused_gives : (x : FlowCell) (k : Refusal) → open_in_place x (Err k) ≡ opened_parts (flow_in c.cells at) f weight
          → OpenGives c f weight (left_by c.cells c.round (Err k))
      unfolding opened_parts opened answered_as unless_refused
      open_refused_gives x k g =
          let refuses : Err k ≡ open_answer f weight asked = ap (λ (k : OpenInPlace). k.answer) g in
          opened_outcome
          (ap₂ (λ (t : State) (a : Answer). record { state = t; reply = a })
          (refused_state (open_answer f weight) (λ y h. no_such_flow _ h) asked (cell_seen at index_in_reach) k _ refuses)
          (answer_seen (open_answer f weight) (λ y h. no_such_flow _ h) asked (cell_seen at index_in_reach) (Err k) refuses))

    room_in_line : f < flow_limit → (flow_in c.cells at).waiting ≡ 0 → c.round.length < flow_limit
    unfolding view view_round
    room_in_line b z =
        omega (arith, length_is (round_of c) round_form, room_for_another (view c) S.rules at index_in_reach (none_is_empty (flow_at (view c) at).queue (sym (count_is at index_in_reach) ∙ z)))

    pub may_offer_to : RoundReady (round_of c)
        × (FlowReady (flow_in c.cells at) × (f < flow_limit → (flow_in c.cells at).waiting ≡ 0 → c.round.length < flow_limit))
    may_offer_to = (round_of_sound, (cell_ready at index_in_reach, room_in_line))

    module _ (size : ℕ) (then : RoundCell) (x : FlowCell) (line : List ℕ) where
      offered_outcome : {r : Outcome State (Result Place Refusal)} → r ≡ offered_as (view c) f size → OfferGives c f size r
      unfolding offered_as
      offered_outcome e =
          record {
            outcome = e;
            sound = subst (λ (r : Outcome State (Result Place Refusal)). Sound r.state) (sym e) (sound_of (offered (view c) f size).state (offered_keeps (view c) f size S.rules));
          }

      pub offered_gives : (place : Place) → offer_in_place line then x (Ok place) ≡ offered_parts (round_of c) (flow_in c.cells at) f size
          → OfferGives c f size (left_by (with_flow (take line_start c.cells ++ line) at x) then (Ok place))
      unfolding offered_parts view view_round offered offered_as encode_flow view_flow
      offered_gives place g =
          offered_outcome
          (ap₂ (λ (t : State) (p : Result Place Refusal). record { state = t; reply = p })
          (passed_state (offer_answer f size) (λ y h. no_such_flow _ h) asked (cell_seen at index_in_reach) (λ y. packet_joined y size) (λ y. flow_lined (view c).round f y)
          (with_flow (take line_start c.cells ++ line) at x) x line then (stored_behind at index_in_reach x line weight_kept)
          (ap (λ (k : OfferInPlace). k.flow) g ∙ ap (λ (a : Answer). encode_flow (if_ok a (packet_joined asked size) asked)) (sym passes))
          (ap (λ (k : OfferInPlace). k.round) g ∙ ap (λ (a : Answer). encode_round (if_ok a (flow_lined (view c).round f asked) (view c).round)) (sym passes))
          passes)
          place_here)
        where
          passes : Ok tt ≡ offer_answer f size asked
          passes = passed_with (end_place f asked size) (offer_answer f size asked) (ap (λ (k : OfferInPlace). k.reply) g)

          weight_kept : x.weight ≡ (flow_in c.cells at).weight
          weight_kept =
              ap (λ (k : OfferInPlace). k.flow.weight) g
              ∙ ok_has (λ (y : Flow). y.weight ≡ asked.weight) (offer_answer f size asked) (packet_joined asked size) asked (λ z. joined_weight asked size) refl

          place_here : ◌≡◌ {A = Result Place Refusal} (Ok place) (joining_place (view c) f size)
          place_here =
              ap (λ (k : OfferInPlace). k.reply) g
              ∙ ap (λ (y : Flow). offered_place f y size) (cell_seen at index_in_reach)
              ∙ ap (λ (k : ℕ). offered_place f (flow_at (view c) k) size)
              (index_passed (offer_answer f size) (λ y h. no_such_flow _ h) (passes ∙ ap (offer_answer f size) (cell_seen at index_in_reach)))
              ∙ ap (λ (k : ℕ). ok_with (offer_answer f size (flow_at (view c) f)) (end_place k (flow_at (view c) f) size)) refl

      pub offer_refused_gives : (k : Refusal) → offer_in_place line then x (Err k) ≡ offered_parts (round_of c) (flow_in c.cells at) f size
          → OfferGives c f size (left_by (take line_start c.cells ++ line) then (Err k))
      unfolding offered_parts view view_round offered offered_as unless_refused
      offer_refused_gives k g =
          offered_outcome
          (ap₂ (λ (t : State) (p : Result Place Refusal). record { state = t; reply = p })
          (same_state ∙ refused_state (offer_answer f size) (λ y h. no_such_flow _ h) asked (cell_seen at index_in_reach) k _ refuses)
          (ap (λ (a : Answer). ok_with a (end_place f (flow_at (view c) f) size))
          (answer_seen (offer_answer f size) (λ y h. no_such_flow _ h) asked (cell_seen at index_in_reach) (Err k) refuses)))
        where
          refuses : Err k ≡ offer_answer f size asked
          refuses = refused_with (end_place f asked size) (offer_answer f size asked) k (ap (λ (q : OfferInPlace). q.reply) g)

          same_round : in_place line then ≡ round_of c
          same_round =
              ap (λ (q : OfferInPlace). q.round) g
              ∙ ap (λ (a : Answer). encode_round (if_ok a (flow_lined (view c).round f asked) (view c).round)) (sym refuses)
              ∙ sym round_form

          same_state : state_with (take line_start c.cells ++ line) then ≡ c
          same_state =
              ap (λ (q : RoundInPlace). state_with (take line_start c.cells ++ q.line) (numbers_of q)) same_round
              ∙ ap (λ (l : List ℕ). state_with l c.round) (take-append-drop line_start c.cells)

pub new_gives : NewGives (encode new_scheduler)
new_gives = record { outcome = refl; sound = sound_of new_scheduler new_keeps }
