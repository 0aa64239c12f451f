-- Step 2 for the flow at the head of the line: its turn may be served, and is what the model's visit serves.
use Prim.Native.Nat.{ℕ, zero, suc, ◌*◌, ◌-◌, ◌≤◌, ◌<◌}
use mathlib.Core.Path.{◌≡◌, refl, sym, ap, ap₂, ◌∙◌, subst}
use mathlib.Core.List.{List, [], ◌∷◌}
use native.Mathlib.Omega.{arith}
use native.Mathlib.Nat.{mul-le-mul}
use lib.ListN.{length, get_or, drop, length-drop}
use Rattle.model.specs.Limits.{flow_limit, weight_limit, mark_limit}
use Rattle.model.specs.Choose.{if_zero}
use Rattle.model.specs.Model.{Flow, Round}
use Rattle.model.specs.Rules.{FlowRules}
use Rattle.model.specs.Steps.{round_started, allowance, head_allowance, turn_opened, surplus_cleared, served, visit_by, visit, whose, whose_turn}
use Rattle.model.specs.declared.Reply.TheVariants.{Idle}
use Rattle.model.specs.declared.Serving.{Serving}
use Rattle.model.specs.declared.Serving.TheVariants.{NoTurn, Turn}
use Rattle.model.proofs.Flows.{cleared_flow_rules, none_is_empty}
use Rattle.model.proofs.Choosing.{chosen_has}
use Rattle.steps.specs.Cells.{line_room, cells, encode_flow, view_flow}
use Rattle.steps.specs.Premises.{RoundInPlace, encode_round, view_round, FlowReady, RoundReady}
use Rattle.turns.specs.Visits.{MayServe, MayBegin, MayVisit, VisitInPlace, begun_by, begun_turn, encode_visit}
use Rattle.steps.specs.declared.FlowCell.{FlowCell}
use Rattle.turns.proofs.TurnLaws.{same_visit}
use Rattle.steps.proofs.Encoded.{flow_seen, flow_ready, round_seen, round_ready, waiting_is, line_is, length_is}

-- The first cell of a line is its head; 0 where the line is empty.
first_cell : (l : List ℕ) → get_or (cells line_room l) 0 0 ≡ get_or l 0 0
unfolding cells
first_cell [] = refl
first_cell (f ∷ l) = refl

head_is : (r : RoundInPlace) → r ≡ encode_round (view_round r) → get_or r.line 0 0 ≡ get_or (view_round r).line 0 0
head_is r form = ap (λ (l : List ℕ). get_or l 0 0) (line_is r form) ∙ first_cell (view_round r).line

begun_of_head : (l : List ℕ) (r : Round) (x : Flow) → 0 < length l → begun_by NoTurn l r x ≡ turn_opened (round_started r) (get_or l 0 0) (head_allowance r x)
unfolding begun_by
begun_of_head [] r x h = absurd (omega arith)
begun_of_head (f ∷ l) r x h = refl

-- Where a round may start, a visit is left.
some_visit : (v n : ℕ) → 0 < n → 1 ≤ if_zero v n v
some_visit zero n h = h
some_visit (suc v) n h = omega arith

module _ (r : RoundInPlace) (x : FlowCell) (h : MayBegin r x) where
  some_stand : 0 < length (view_round r).line
  some_stand = omega (arith, length_is r h.round_ready.form, h.some_in_line)

  line_fits_here : length (view_round r).line ≤ flow_limit
  line_fits_here = omega (arith, length_is r h.round_ready.form, h.round_ready.line_fits)

  started_ready : RoundReady (encode_round (round_started (view_round r)))
  unfolding round_started view_round
  started_ready =
      round_ready (round_started (view_round r)) line_fits_here
      (chosen_has (λ (m : ℕ). m ≤ mark_limit) r.visits r.running r.mark (λ z. h.round_ready.running_in_range) h.round_ready.mark_in_range)
      (chosen_has (λ (m : ℕ). m ≤ mark_limit) r.visits 0 r.running (λ z. omega arith) h.round_ready.running_in_range)

  module _ (now : RoundInPlace) (n : now ≡ encode_round (round_started (view_round r))) where
    now_ready : RoundReady now
    now_ready = subst RoundReady (sym n) started_ready

    now_some : 0 < now.length
    unfolding encode_round round_started
    now_some = rw n some_stand

    pub may_open_turn : RoundReady now × (0 < now.length)
    may_open_turn = (now_ready, now_some)

    mark_is : now.mark ≡ (round_started (view_round r)).mark
    unfolding encode_round
    mark_is = ap (λ (c : RoundInPlace). c.mark) n

    pub may_allow : (x.weight ≤ weight_limit) × (now.mark ≤ mark_limit) × (x.surplus ≤ x.weight * now.mark)
    unfolding view_flow
    may_allow = (h.has_first.ready.rules.weight_in_range, now_ready.mark_in_range, rw mark_is h.owed)

    module _ (allowed : ℕ) (a : allowed ≡ allowance x.weight now.mark x.surplus) (opened : RoundInPlace) (f : ℕ)
        (o : opened ≡ encode_round (turn_opened (view_round now) f allowed)) where
      now_seen : view_round now ≡ round_started (view_round r)
      now_seen = ap view_round n ∙ round_seen (round_started (view_round r))

      one_less : length (drop 1 (view_round now).line) ≡ now.length - 1
      one_less = length-drop 1 (view_round now).line ∙ ap (λ (m : ℕ). m - 1) (sym (length_is now now_ready.form))

      opened_ready : RoundReady opened
      unfolding turn_opened view_round
      opened_ready =
          subst RoundReady (sym o)
          (round_ready (turn_opened (view_round now) f allowed) (omega (arith, one_less, now_ready.line_fits)) now_ready.mark_in_range now_ready.running_in_range)

      visits_are : opened.visits ≡ if_zero r.visits (length (view_round r).line) r.visits
      unfolding encode_round turn_opened view_round round_started
      visits_are = ap (λ (c : RoundInPlace). c.visits) o ∙ ap (λ (c : RoundInPlace). c.visits) n

      -- The round with the head's turn open is what step 2 gives.
      pub head_begun_law : f ≡ get_or r.line 0 0 → opened ≡ encode_round (begun_by NoTurn (view_round r).line (view_round r) (view_flow x))
      unfolding view_flow
      head_begun_law g =
          o ∙ ap encode_round (rw (now_seen, allowed_seen, g ∙ head_is r h.round_ready.form) (sym (begun_of_head (view_round r).line (view_round r) (view_flow x) some_stand)))
        where
          allowed_seen : allowed ≡ head_allowance (view_round r) (view_flow x)
          allowed_seen = a ∙ ap (λ (m : ℕ). allowance x.weight m x.surplus) mark_is

      module _ (clear : FlowCell) (k : clear ≡ encode_flow (surplus_cleared (view_flow x))) where
        clear_rules : FlowRules (surplus_cleared (view_flow x))
        clear_rules = cleared_flow_rules (view_flow x) h.has_first.ready.rules

        clear_ready : FlowReady clear
        clear_ready = subst FlowReady (sym k) (flow_ready (surplus_cleared (view_flow x)) clear_rules)

        pub may_serve : MayServe opened clear allowed 0
        unfolding encode_flow surplus_cleared view_flow encode_round turn_opened
        may_serve =
            record {
              round_ready = opened_ready;
              has_first =
                  record {
                    ready = clear_ready;
                    waits = omega (arith, ap (λ (c : FlowCell). c.waiting) k, waiting_is x h.has_first.ready.form, h.has_first.waits);
                  };
              weighs = omega (arith, ap (λ (c : FlowCell). c.weight) k, h.weighs);
              no_surplus = ap (λ (c : FlowCell). c.surplus) k;
              line_has_room = omega (arith, ap (λ (c : RoundInPlace). c.length) o, one_less, now_some, now_ready.line_fits);
              a_visit_left = omega (arith, visits_are, some_visit r.visits (length (view_round r).line) some_stand);
              allowed_in_range = omega (arith, mul-le-mul may_allow.0 may_allow.1);
              more_may_be_sent = omega (arith, may_allow.2, h.weighs);
            }

-- ---- a turn is open, or one is opened

-- Without a surplus there is nothing to clear.
nothing_to_clear : (x : FlowCell) → FlowReady x → x.surplus ≡ 0 → encode_flow (surplus_cleared (view_flow x)) ≡ x
unfolding surplus_cleared view_flow
nothing_to_clear x R z =
    ap (λ (n : ℕ). encode_flow (record { weight = x.weight; surplus = n; slot = x.slot; queue = (view_flow x).queue })) (sym z) ∙ sym R.form

-- What a turn has, as numbers.
abbrev is_turn : Serving → ℕ
is_turn NoTurn = 0
is_turn (Turn f allowed sent) = 1

abbrev flow_of : Serving → ℕ
flow_of NoTurn = 0
flow_of (Turn f allowed sent) = f

abbrev allowed_of : Serving → ℕ
allowed_of NoTurn = 0
allowed_of (Turn f allowed sent) = allowed

abbrev sent_of : Serving → ℕ
sent_of NoTurn = 0
sent_of (Turn f allowed sent) = sent

module _ (r : RoundInPlace) (x : FlowCell) (h : MayVisit r x) where
  -- A round whose turn is open stays as it is, and so does one with nobody in line.
  pub open_begun_law : (f allowed sent : ℕ) → r.turn ≡ Turn f allowed sent → r ≡ encode_round (begun_turn (view_round r) (view_flow x))
  unfolding begun_turn begun_by view_round
  open_begun_law f allowed sent t =
      h.round_ready.form ∙ ap (λ (u : Serving). encode_round (begun_by u (view_round r).line (view_round r) (view_flow x))) (sym t)

  pub nobody_begun_law : r.turn ≡ NoTurn → r.length ≡ 0 → r ≡ encode_round (begun_turn (view_round r) (view_flow x))
  unfolding begun_turn begun_by view_round
  nobody_begun_law t e =
      h.round_ready.form
      ∙ ap (λ (l : List ℕ). encode_round (begun_by NoTurn l (view_round r) (view_flow x))) (sym (none_is_empty (view_round r).line (sym (length_is r h.round_ready.form) ∙ e)))
      ∙ ap (λ (u : Serving). encode_round (begun_by u (view_round r).line (view_round r) (view_flow x))) (sym t)

  pub somebody_begun_law : {b : RoundInPlace} → r.turn ≡ NoTurn → b ≡ encode_round (begun_by NoTurn (view_round r).line (view_round r) (view_flow x))
      → b ≡ encode_round (begun_turn (view_round r) (view_flow x))
  unfolding begun_turn view_round
  somebody_begun_law t e = e ∙ ap (λ (u : Serving). encode_round (begun_by u (view_round r).line (view_round r) (view_flow x))) (sym t)

  -- With no open turn and nobody in line it is idle.
  idle_law : r.turn ≡ NoTurn → r.length ≡ 0 → record { round = r; flow = x; reply = Idle } ≡ encode_visit (visit (view_round r) (view_flow x))
  unfolding encode_visit visit visit_by view_round
  idle_law t e =
      same_visit h.round_ready.form h.flow_ready.form refl
      ∙ ap (λ (l : List ℕ). encode_visit (visit_by NoTurn l (view_round r) (view_flow x))) (sym (none_is_empty (view_round r).line (sym (length_is r h.round_ready.form) ∙ e)))
      ∙ ap (λ (u : Serving). encode_visit (visit_by u (view_round r).line (view_round r) (view_flow x))) (sym t)

  -- What the turn that is then open gives: it may be served, and serving it is the model's visit.
  pub record Serves (b : RoundInPlace) (f allowed sent : ℕ) (clear : FlowCell) : Type 0 where
    pub may : MayServe b clear allowed sent
    pub visits : visit (view_round r) (view_flow x) ≡ served (view_round b) (view_flow clear) f allowed sent

  module _ (clear : FlowCell) (k : clear ≡ encode_flow (surplus_cleared (view_flow x))) where
    was_open : (f allowed sent : ℕ) → r.turn ≡ Turn f allowed sent → Serves r f allowed sent clear
    unfolding visit visit_by view_round
    was_open f allowed sent t =
        let M : MayServe r x allowed sent = h.in_turn f allowed sent t in
        let same : x ≡ clear = sym (k ∙ nothing_to_clear x h.flow_ready M.no_surplus) in
        record {
          may = subst (λ (y : FlowCell). MayServe r y allowed sent) same M;
          visits =
              ap (λ (u : Serving). visit_by u (view_round r).line (view_round r) (view_flow x)) t
              ∙ ap (λ (y : FlowCell). served (view_round r) (view_flow y) f allowed sent) same;
        }

    at_head : r.turn ≡ NoTurn → (g : ℕ) (l : List ℕ) → (view_round r).line ≡ g ∷ l → (b : RoundInPlace)
        → b ≡ encode_round (turn_opened (round_started (view_round r)) g (head_allowance (view_round r) (view_flow x)))
        → Serves b g (head_allowance (view_round r) (view_flow x)) 0 clear
    unfolding visit visit_by view_round view_flow
    at_head t g l e b o =
        let m : Round = view_round r in
        let B : MayBegin r x = h.at_head t (λ z. omega (arith, length_is r h.round_ready.form, ap length e)) in
        let begins : b ≡ encode_round (turn_opened (view_round (encode_round (round_started m))) g (head_allowance m (view_flow x))) =
        o ∙ ap (λ (q : Round). encode_round (turn_opened q g (head_allowance m (view_flow x)))) (sym (round_seen (round_started m))) in
        record {
          may =
              may_serve r x B (encode_round (round_started m)) refl (head_allowance m (view_flow x))
              (ap (λ (q : Round). allowance x.weight q.mark x.surplus) (sym (round_seen (round_started m)))) b g begins clear k;
          visits =
              ap (λ (u : Serving). visit_by u m.line m (view_flow x)) t
              ∙ ap (λ (j : List ℕ). visit_by NoTurn j m (view_flow x)) e
              ∙ ap₂ (λ (q : Round) (y : Flow). served q y g (head_allowance m (view_flow x)) 0)
              (sym (ap view_round o ∙ round_seen (turn_opened (round_started m) g (head_allowance m (view_flow x)))))
              (sym (ap view_flow k ∙ flow_seen (surplus_cleared (view_flow x)) (cleared_flow_rules (view_flow x) h.flow_ready.rules).sizes_in_range));
        }

    module _ (b : RoundInPlace) (e : b ≡ encode_round (begun_turn (view_round r) (view_flow x))) where
      begun_by_is : (u : Serving) (l : List ℕ) → r.turn ≡ u → (view_round r).line ≡ l → b ≡ encode_round (begun_by u l (view_round r) (view_flow x))
      unfolding begun_turn view_round
      begun_by_is u l t j = e ∙ ap₂ (λ (v : Serving) (k : List ℕ). encode_round (begun_by v k (view_round r) (view_flow x))) t j

      begun_turned : (f allowed sent : ℕ) (l : List ℕ) → r.turn ≡ Turn f allowed sent → (view_round r).line ≡ l → b ≡ encode_round (view_round r)
      unfolding begun_by
      begun_turned f allowed sent l t j = begun_by_is (Turn f allowed sent) l t j

      begun_nobody : r.turn ≡ NoTurn → (view_round r).line ≡ [] → b ≡ encode_round (view_round r)
      unfolding begun_by
      begun_nobody t j = begun_by_is NoTurn [] t j

      begun_headed : (g : ℕ) (l : List ℕ) → r.turn ≡ NoTurn → (view_round r).line ≡ g ∷ l
          → b ≡ encode_round (turn_opened (round_started (view_round r)) g (head_allowance (view_round r) (view_flow x)))
      unfolding begun_by
      begun_headed g l t j = begun_by_is NoTurn (g ∷ l) t j

      turn_of_head : (g : ℕ) (l : List ℕ) → r.turn ≡ NoTurn → (view_round r).line ≡ g ∷ l → b.turn ≡ Turn g (head_allowance (view_round r) (view_flow x)) 0
      unfolding encode_round turn_opened
      turn_of_head g l t j = ap (λ (q : RoundInPlace). q.turn) (begun_headed g l t j)

      unchanged : b ≡ encode_round (view_round r) → b ≡ r
      unchanged j = j ∙ sym h.round_ready.form

      -- By how the round was: with a turn open, with nobody in line, or with a head that opens one.
      by_case : {A : Type 0} → ((f allowed sent : ℕ) → r.turn ≡ Turn f allowed sent → b ≡ r → A)
          → (r.turn ≡ NoTurn → r.length ≡ 0 → b ≡ r → A)
          → (r.turn ≡ NoTurn → (g : ℕ) → b.turn ≡ Turn g (head_allowance (view_round r) (view_flow x)) 0 → Serves b g (head_allowance (view_round r) (view_flow x)) 0 clear → A)
          → A
      by_case {A} turned nobody headed = go r.turn (view_round r).line refl refl
        where
          go : (u : Serving) (l : List ℕ) → r.turn ≡ u → (view_round r).line ≡ l → A
          go (Turn f allowed sent) l t j = turned f allowed sent t (unchanged (begun_turned f allowed sent l t j))
          go NoTurn [] t j = nobody t (length_is r h.round_ready.form ∙ ap length j) (unchanged (begun_nobody t j))
          go NoTurn (g ∷ l) t j = headed t g (turn_of_head g l t j) (at_head t g l j b (begun_headed g l t j))

      pub begun_serves : (f allowed sent : ℕ) → b.turn ≡ Turn f allowed sent → Serves b f allowed sent clear
      begun_serves f allowed sent t =
          by_case
          (λ g a n u same. subst (λ (q : RoundInPlace). Serves q f allowed sent clear) (sym same) (was_open f allowed sent (sym (ap (λ (q : RoundInPlace). q.turn) same) ∙ t)))
          (λ u z same. absurd (omega (arith, ap is_turn (sym u ∙ sym (ap (λ (q : RoundInPlace). q.turn) same) ∙ t))))
          (λ u g opens S.
          let same : Turn g (head_allowance (view_round r) (view_flow x)) 0 ≡ Turn f allowed sent = sym opens ∙ t in
          subst (λ (n : ℕ). Serves b f allowed n clear) (ap sent_of same)
          (subst (λ (n : ℕ). Serves b f n 0 clear) (ap allowed_of same) (subst (λ (n : ℕ). Serves b n (head_allowance (view_round r) (view_flow x)) 0 clear) (ap flow_of same) S)))

      pub begun_served : (f allowed sent : ℕ) → b.turn ≡ Turn f allowed sent → {v : VisitInPlace} → v ≡ encode_visit (served (view_round b) (view_flow clear) f allowed sent)
          → v ≡ encode_visit (visit (view_round r) (view_flow x))
      begun_served f allowed sent t g = g ∙ sym (ap encode_visit (begun_serves f allowed sent t).visits)

      pub begun_idle : b.turn ≡ NoTurn → record { round = b; flow = x; reply = Idle } ≡ encode_visit (visit (view_round r) (view_flow x))
      begun_idle t =
          by_case
          (λ g a n u same. absurd (omega (arith, ap is_turn (sym u ∙ sym (ap (λ (q : RoundInPlace). q.turn) same) ∙ t))))
          (λ u z same. same_visit same refl refl ∙ idle_law u z)
          (λ u g opens S. absurd (omega (arith, ap is_turn (sym opens ∙ t))))

pub whose_turn_is : (r : RoundInPlace) (f allowed sent : ℕ) → r.turn ≡ Turn f allowed sent → f ≡ whose (view_round r)
unfolding view_round
whose_turn_is r f allowed sent t = sym (ap (λ (u : Serving). whose_turn u (view_round r).line) t)

pub whose_head : (r : RoundInPlace) → r ≡ encode_round (view_round r) → r.turn ≡ NoTurn → get_or r.line 0 0 ≡ whose (view_round r)
unfolding view_round
whose_head r form t = head_is r form ∙ sym (ap (λ (u : Serving). whose_turn u (view_round r).line) t)
