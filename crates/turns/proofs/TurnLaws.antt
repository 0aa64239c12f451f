-- From what serving a flow makes of its parts to what the model's steps 3 to 6 say.
use Prim.Native.Nat.{ℕ, ◌+◌, ◌≤◌, ◌<◌}
use mathlib.Core.Path.{◌≡◌, refl, sym, ap, ◌∙◌, subst}
use mathlib.Core.List.{List, [], ◌∷◌}
use mathlib.Core.Bool.{true}
use native.Mathlib.Omega.{arith}
use lib.ListN.{length, drop}
use lib.Dec.{leb}
use borrow.Author.Tests.{le-leb, lt-leb}
use Rattle.model.specs.Model.{Flow}
use Rattle.model.specs.Rules.{FlowRules}
use Rattle.model.specs.Steps.{surplus_cleared, first_size, first_left, turn_ends, turn_kept, turn_closed, excess_kept, settled, served}
use Rattle.model.specs.declared.Reply.{Reply}
use Rattle.model.specs.declared.Reply.TheVariants.{Departure}
use Rattle.model.proofs.Flows.{left_flow_rules}
use Rattle.model.proofs.Choosing.{empty_by_count, waiting_by_count}
use Rattle.steps.specs.Cells.{encode_flow, view_flow}
use Rattle.steps.specs.Premises.{RoundInPlace, encode_round, view_round, FlowReady}
use Rattle.turns.specs.Visits.{MayServe, VisitInPlace, encode_visit}
use Rattle.steps.specs.declared.FlowCell.{FlowCell}
use Rattle.steps.proofs.Encoded.{flow_seen, flow_ready, waiting_is}
use Rattle.steps.proofs.FlowLaws.{nothing_kept}

-- A flow without surplus keeps its rules when its first packet leaves.
left_rules_parts : (w k : ℕ) (q : List ℕ) → FlowRules (record { weight = w; surplus = 0; slot = k; queue = q }) → 0 < length q
    → FlowRules (first_left (record { weight = w; surplus = 0; slot = k; queue = q }))
unfolding first_left
left_rules_parts w k [] R h = absurd (omega arith)
left_rules_parts w k (p ∷ q) R h = left_flow_rules w 0 k p q 0 R (omega arith) (λ e. refl)

left_rules : (x : Flow) → FlowRules x → x.surplus ≡ 0 → 0 < length x.queue → FlowRules (first_left x)
left_rules x R z h =
    let e : x ≡ record { weight = x.weight; surplus = 0; slot = x.slot; queue = x.queue } =
    ap (λ (σ : ℕ). record { weight = x.weight; surplus = σ; slot = x.slot; queue = x.queue }) z in
    subst (λ (y : Flow). FlowRules (first_left y)) (sym e) (left_rules_parts x.weight x.slot x.queue (subst FlowRules e R) h)

-- Two visits with equal parts are equal.
pub same_visit : {r r' : RoundInPlace} {x x' : FlowCell} {d d' : Reply} → r ≡ r' → x ≡ x' → d ≡ d'
    → ◌≡◌ {A = VisitInPlace} (record { round = r; flow = x; reply = d }) (record { round = r'; flow = x'; reply = d' })
same_visit a b c = λ i. record { round = a i; flow = b i; reply = c i }

-- A departure as the code makes it, and as the model tells it.
abbrev departure : ℕ → ℕ → ℕ → ℕ → Reply
departure f size mark allowed = Departure (record { flow = f; size = size; mark = mark; allowance = allowed })

module _ (r : RoundInPlace) (x : FlowCell) (allowed sent : ℕ) (h : MayServe r x allowed sent) where
  left_rules_here : FlowRules (first_left (view_flow x))
  unfolding view_flow
  left_rules_here =
      left_rules (view_flow x) h.has_first.ready.rules h.no_surplus (omega (arith, waiting_is x h.has_first.ready.form, h.has_first.waits))

  module _ (left : FlowCell) (e : left ≡ encode_flow (first_left (view_flow x))) where
    -- What is left is again a flow of a sound state.
    pub left_ready : FlowReady left
    left_ready = subst FlowReady (sym e) (flow_ready (first_left (view_flow x)) left_rules_here)

    left_seen : view_flow left ≡ first_left (view_flow x)
    left_seen = ap view_flow e ∙ flow_seen (first_left (view_flow x)) left_rules_here.sizes_in_range

    pub left_weighs : 1 ≤ left.weight
    unfolding encode_flow first_left view_flow
    left_weighs = rw e h.weighs

    -- Whether the turn ends shows in how many wait and in what is sent.
    ends_with_none : (n : ℕ) → left.waiting ≡ 0 → turn_ends allowed n (view_flow left).queue ≡ true
    ends_with_none n none = empty_by_count (view_flow left).queue true (leb allowed n) (sym (waiting_is left left_ready.form) ∙ none)

    ends_by_allowance : (n : ℕ) → (left.waiting ≡ 0 → ⊥) → turn_ends allowed n (view_flow left).queue ≡ leb allowed n
    ends_by_allowance n some = waiting_by_count (view_flow left).queue true (leb allowed n) (λ e. some (waiting_is left left_ready.form ∙ e))

    module _ (f size : ℕ) (s : size ≡ first_size (view_flow x)) where
      ends_seen : turn_ends allowed (sent + size) (view_flow left).queue ≡ turn_ends allowed (sent + first_size (view_flow x)) (drop 1 (view_flow x).queue)
      unfolding first_left
      ends_seen = rw (left_seen, s)

      ended : (round : RoundInPlace) (flow : FlowCell) → turn_ends allowed (sent + size) (view_flow left).queue ≡ true
          → round ≡ encode_round (turn_closed (view_round r) (view_flow left) f allowed (sent + size))
          → flow ≡ encode_flow (excess_kept (view_flow left) allowed (sent + size))
          → record { round = round; flow = flow; reply = departure f size r.mark allowed }
          ≡ encode_visit (served (view_round r) (view_flow x) f allowed sent)
      unfolding served settled encode_visit view_round
      ended round flow ends a b =
          rw (sym ends_seen ∙ ends)
          (same_visit (a ∙ rw (left_seen, s)) (b ∙ rw (left_seen, s)) (ap (λ (n : ℕ). departure f n r.mark allowed) s))

      -- The turn ends with nothing waiting, with packets waiting, or not yet.
      pub emptied_visit : (round : RoundInPlace) (flow : FlowCell) → left.waiting ≡ 0
          → round ≡ encode_round (turn_closed (view_round r) (view_flow left) f allowed (sent + size))
          → flow ≡ encode_flow (surplus_cleared (view_flow left))
          → record { round = round; flow = flow; reply = departure f size r.mark allowed }
          ≡ encode_visit (served (view_round r) (view_flow x) f allowed sent)
      emptied_visit round flow none a b =
          ended round flow (ends_with_none (sent + size) none) a (b ∙ nothing_kept left left_ready allowed (sent + size) none)

      pub closed_visit : (round : RoundInPlace) (flow : FlowCell) → (left.waiting ≡ 0 → ⊥) → allowed ≤ sent + size
          → round ≡ encode_round (turn_closed (view_round r) (view_flow left) f allowed (sent + size))
          → flow ≡ encode_flow (excess_kept (view_flow left) allowed (sent + size))
          → record { round = round; flow = flow; reply = departure f size r.mark allowed }
          ≡ encode_visit (served (view_round r) (view_flow x) f allowed sent)
      closed_visit round flow some enough a b = ended round flow (ends_by_allowance (sent + size) some ∙ le-leb allowed (sent + size) enough) a b

      pub open_visit : (round : RoundInPlace) → (left.waiting ≡ 0 → ⊥) → (allowed ≤ sent + size → ⊥)
          → round ≡ encode_round (turn_kept (view_round r) f allowed (sent + size))
          → record { round = round; flow = left; reply = departure f size r.mark allowed }
          ≡ encode_visit (served (view_round r) (view_flow x) f allowed sent)
      unfolding served settled encode_visit view_round
      open_visit round some more a =
          rw (sym ends_seen ∙ ends_by_allowance (sent + size) some ∙ lt-leb allowed (sent + size) (omega arith))
          (same_visit (a ∙ rw s) e (ap (λ (n : ℕ). departure f n r.mark allowed) s))
