-- Every call keeps document 01's rules of the state.
use Prim.Native.Nat.{ℕ, zero, suc, ◌+◌, ◌*◌, ◌-◌, ◌≤◌, ◌<◌}
use mathlib.Core.Path.{◌≡◌, refl, sym, ap, ◌∙◌, subst}
use mathlib.Core.List.{List, [], ◌∷◌}
use mathlib.Core.Bool.{Bool, true, false}
use native.Mathlib.Omega.{arith}
use lib.ListN.{length, take, replicate, get_or-replicate, length-replicate, get_or-eq_default}
use native.Mathlib.Decide.{dec_lt}
use lib.Dec.{leb}
use borrow.Author.Tests.{leb-true, leb-false}
use Rattle.model.specs.Limits.{flow_limit, mark_limit}
use Rattle.model.specs.Model.{Flow, Round, Scheduler, flow_at, closed_flow, new_scheduler}
use Rattle.model.specs.Steps.{packet_joined, flow_lined, round_started, turn_opened, surplus_cleared, first_left, turn_kept, turn_closed, excess_kept, settled, served, visit_by, visit, allowance}
use Rattle.model.specs.Calls.{Burst, put, open_flow, opened, offered, departed, departures, and_then, burst, burst_made, unless_refused, open_answer, offer_answer}
use Rattle.model.specs.Rules.{count, activity, FlowRules, LineRules, TurnRules, RoundRules, Rules}
use Rattle.model.specs.declared.Reply.{Reply}
use Rattle.model.specs.declared.Reply.TheVariants.{Departure, Idle, Refused}
use Rattle.model.specs.declared.Serving.{Serving}
use Rattle.model.specs.declared.Serving.TheVariants.{NoTurn, Turn}
use Rattle.model.specs.Choose.{if_empty}
use Rattle.model.specs.OrderCalls.{Call, resetting, opening, offering, departing, bursting, does}
use Rattle.model.proofs.Choosing.{ok_has, tested_has}
use lib.Dec.{ltb}
use Rattle.model.proofs.Parts.{flow_made_of, round_made_of}
use Rattle.model.proofs.Refusals.{MayOpen, may_open, MayOffer, may_offer}
use Rattle.model.proofs.Counts.{count_head}
use Rattle.model.proofs.Rounding.{raised_keeps, raised_covers, raised_at_most}
use Rattle.model.proofs.Line.{OnlyAt, everywhere, same_standing, not_standing, joins_the_line, leaves_the_line, rejoins_the_line, leaves_for_good, round_starts}
use Rattle.model.proofs.Flows.{at_others, put_back, waiting_in_reach, rules_put, closed_flow_rules, open_flow_rules, joined_flow_rules, cleared_flow_rules, first_in_range, left_flow_rules, here_now}

-- An open flow with a packet waiting weighs something.
pub weighs : (x : Flow) → FlowRules x → (x.queue ≡ [] → ⊥) → 1 ≤ x.weight
weighs x R waits = go x.weight refl
  where
    go : (w : ℕ) → x.weight ≡ w → 1 ≤ w
    go zero e = absurd (waits (R.open_if_waiting e))
    go (suc w) e = omega arith

-- Steps 3 to 6: serving the flow f of an open turn keeps the rules. `flow` has f as it is served, `flow'` as serving leaves it.
module _ {flow flow' : ℕ → Flow} (r : Round) (f a n w σ k : ℕ) (only : OnlyAt f flow flow')
    (L : LineRules flow (f ∷ []) r.line r.mark r.running (r.visits - 1)) where
  served_keeps : (q : List ℕ) → FlowRules (flow_made_of w σ k q) → flow f ≡ flow_made_of w σ k q → flow' f ≡ (served r (flow_made_of w σ k q) f a n).flow
      → TurnRules (flow_made_of w σ k q) r.visits r.mark a n → (q ≡ [] → ⊥)
      → FlowRules (served r (flow_made_of w σ k q) f a n).flow
      × RoundRules flow' (served r (flow_made_of w σ k q) f a n).round (served r (flow_made_of w σ k q) f a n).round.turn
  unfolding served settled first_left turn_closed turn_kept excess_kept RoundRules
  served_keeps [] R here there T waits = absurd (waits refl)
  served_keeps (p ∷ []) R here there T waits =
      (left_flow_rules w σ k p [] 0 R (omega arith) (λ e. refl), leaves_for_good only (raised_keeps r.running w a (n + p)) (raised_at_most r.running w a (n + p) mark_limit (weighs _ R waits) L.running_in_range (omega (arith, first_in_range R.sizes_in_range, T.more_may_be_sent))) (ap activity here) (ap activity there) L)
  served_keeps (p ∷ (p' ∷ q)) R here there T waits = go (leb a (n + p)) (Departure (record { flow = f; size = p; mark = r.mark; allowance = a })) refl there
    where
      x : Flow
      x = flow_made_of w σ k (p ∷ (p' ∷ q))

      weight : 1 ≤ w
      weight = weighs x R waits

      top : n + p ≤ a + mark_limit
      top = omega (arith, first_in_range R.sizes_in_range, T.more_may_be_sent)

      go : (b : Bool) (d : Reply) → leb a (n + p) ≡ b → flow' f ≡ (settled b r (first_left x) f a (n + p) d).flow
          → FlowRules (settled b r (first_left x) f a (n + p) d).flow
          × RoundRules flow' (settled b r (first_left x) f a (n + p) d).round (settled b r (first_left x) f a (n + p) d).round.turn
      go true d e there' =
          let enough : a ≤ n + p = leb-true a (n + p) e in (
            left_flow_rules w σ k p (p' ∷ q) (n + p - a) R (omega (arith, top)) (λ z. let u : ◌≡◌ {A = ℕ} 0 1 = cc in absurd (omega arith)),
            rejoins_the_line only
                (raised_keeps r.running w a (n + p))
                (raised_at_most r.running w a (n + p) mark_limit weight L.running_in_range top)
                (rw there' (raised_covers r.running w a (n + p) weight enough))
                (ap activity there' ∙ sym (ap activity here))
                L,
          )
      go false d e there' = (
        left_flow_rules w σ k p (p' ∷ q) σ R R.surplus_in_range (λ z. let u : ◌≡◌ {A = ℕ} 0 1 = cc in absurd (omega arith)),
        (
          same_standing only
              (ap (λ (y : Flow). y.weight) there' ∙ sym (ap (λ (y : Flow). y.weight) here))
              (ap (λ (y : Flow). y.surplus) there' ∙ sym (ap (λ (y : Flow). y.surplus) here))
              (ap activity there' ∙ sym (ap activity here))
              L,
          record {
            counts_a_visit = T.counts_a_visit;
            has_no_surplus = ap (λ (y : Flow). y.surplus) there' ∙ T.has_no_surplus;
            allowed_at_least_weight = rw there' T.allowed_at_least_weight;
            allowed_at_most = rw there' T.allowed_at_most;
            more_may_be_sent = leb-false a (n + p) e;
          },
          omega (arith, first_in_range R.sizes_in_range),
        ),
      )

-- Every flow of a new scheduler is closed.
pub new_closed : (f : ℕ) → flow_at new_scheduler f ≡ closed_flow
unfolding new_scheduler
new_closed f =
    elim (dec_lt f flow_limit) [
      | yes b ↦ get_or-replicate flow_limit f closed_flow closed_flow b
      | no b ↦ get_or-eq_default (replicate flow_limit closed_flow) closed_flow {n = f} (omega (arith, length-replicate flow_limit closed_flow))
    ]

pub new_keeps : Rules new_scheduler
unfolding new_scheduler RoundRules count
new_keeps =
    record {
      all_flows = refl;
      flow_rules = λ f. subst FlowRules (sym (new_closed f)) closed_flow_rules;
      round_rules =
          record {
            mark_in_range = omega arith;
            running_in_range = omega arith;
            stands_once = λ f. sym (ap activity (new_closed f));
            visits_in_line = omega arith;
            owed_this_round = λ f h. absurd (omega arith);
            owed_next_round = λ f h. absurd (omega arith);
          };
    }

-- The rules of a turn speak of its flow's weight and surplus alone.
turn_rules_same : {x y : Flow} {visits mark a n : ℕ} → y.weight ≡ x.weight → y.surplus ≡ x.surplus → TurnRules x visits mark a n
    → TurnRules y visits mark a n
turn_rules_same w σ T =
    record {
      counts_a_visit = T.counts_a_visit;
      has_no_surplus = σ ∙ T.has_no_surplus;
      allowed_at_least_weight = rw w T.allowed_at_least_weight;
      allowed_at_most = rw w T.allowed_at_most;
      more_may_be_sent = T.more_may_be_sent;
    }

module _ {flow flow' : ℕ → Flow} {f : ℕ} (only : OnlyAt f flow flow') (r : Round) where
  -- The flow of an open turn is active, so a flow that is not active is another.
  other_turn : {g : ℕ} {mark running n : ℕ} → LineRules flow (g ∷ []) r.line mark running n → activity (flow f) ≡ 0 → flow' g ≡ flow g
  other_turn {g} L idle =
      only g (λ e. absurd (omega (arith, L.stands_once g, count_head g r.line, ap (λ (h : ℕ). activity (flow h)) e)))

  -- Opening a flow that was not open.
  opening_keeps : (turn : Serving) → activity (flow f) ≡ 0 → activity (flow' f) ≡ 0 → RoundRules flow r turn → RoundRules flow' r turn
  unfolding RoundRules
  opening_keeps NoTurn was is R = not_standing only was is R
  opening_keeps (Turn g a n) was is R =
      (not_standing only was is R.0, rw (other_turn R.0 was) R.1, R.2)

  -- Step 1.
  offering_keeps : (turn : Serving) (w σ k : ℕ) (q : List ℕ) (size : ℕ) → flow f ≡ flow_made_of w σ k q → flow' f ≡ packet_joined (flow_made_of w σ k q) size
      → RoundRules flow r turn → RoundRules flow' (flow_lined r f (flow_made_of w σ k q)) turn
  unfolding RoundRules packet_joined flow_lined
  offering_keeps NoTurn w σ k [] size here there R = joins_the_line only (ap activity here) (ap (λ (y : Flow). y.surplus) there) (ap activity there) R
  offering_keeps NoTurn w σ k (p ∷ q) size here there R =
      same_standing only
      (ap (λ (y : Flow). y.weight) there ∙ sym (ap (λ (y : Flow). y.weight) here))
      (ap (λ (y : Flow). y.surplus) there ∙ sym (ap (λ (y : Flow). y.surplus) here))
      (ap activity there ∙ sym (ap activity here))
      R
  offering_keeps (Turn g a n) w σ k [] size here there R = (
    joins_the_line only (ap activity here) (ap (λ (y : Flow). y.surplus) there) (ap activity there) R.0,
    rw (other_turn R.0 (ap activity here)) R.1,
    R.2,
  )
  offering_keeps (Turn g a n) w σ k (p ∷ q) size here there R =
      let weight : (flow' f).weight ≡ (flow f).weight = ap (λ (y : Flow). y.weight) there ∙ sym (ap (λ (y : Flow). y.weight) here) in
      let surplus : (flow' f).surplus ≡ (flow f).surplus = ap (λ (y : Flow). y.surplus) there ∙ sym (ap (λ (y : Flow). y.surplus) here) in (
        same_standing only weight surplus (ap activity there ∙ sym (ap activity here)) R.0,
        turn_rules_same
            (everywhere (λ h y. y.weight ≡ (flow h).weight) f flow flow' only weight (λ h d. refl) g)
            (everywhere (λ h y. y.surplus ≡ (flow h).surplus) f flow flow' only surplus (λ h d. refl) g)
            R.1,
        R.2,
      )

pub opened_keeps : (s : Scheduler) (f weight : ℕ) → Rules s → Rules (opened s f weight).state
unfolding opened unless_refused
opened_keeps s f weight R =
    ok_has Rules (open_answer f weight (flow_at s f)) (put s f (open_flow weight) s.round) s (λ e. effect (may_open f weight (flow_at s f) e)) R
  where
    effect : MayOpen f weight (flow_at s f) → Rules (put s f (open_flow weight) s.round)
    effect may =
        rules_put s f (open_flow weight) s.round R may.flow_in_range (open_flow_rules weight may.weight_small)
        (opening_keeps (at_others s f (open_flow weight) s.round) s.round s.round.turn
        (ap (λ (q : List ℕ). if_empty q 0 1) ((R.flow_rules f).open_if_waiting may.not_open))
        (ap activity (here_now s R may.flow_in_range (open_flow weight) s.round))
        R.round_rules)

pub offered_keeps : (s : Scheduler) (f size : ℕ) → Rules s → Rules (offered s f size).state
unfolding offered unless_refused flow_lined
offered_keeps s f size R =
    ok_has Rules (offer_answer f size (flow_at s f)) (put s f (packet_joined (flow_at s f) size) (flow_lined s.round f (flow_at s f))) s
    (λ e. effect (may_offer f size (flow_at s f) e)) R
  where
    x : Flow
    x = flow_at s f

    r : Round
    r = flow_lined s.round f x

    effect : MayOffer f size x → Rules (put s f (packet_joined x size) r)
    effect may =
        rules_put s f (packet_joined x size) r R may.flow_in_range
        (joined_flow_rules x.weight x.surplus x.slot x.queue size (R.flow_rules f) may.is_open may.size_positive may.size_small may.has_room)
        (offering_keeps (at_others s f (packet_joined x size) r) s.round s.round.turn x.weight x.surplus x.slot x.queue size refl
        (here_now s R may.flow_in_range (packet_joined x size) r)
        R.round_rules)

-- A flow that stands is active: it has a packet waiting.
pub standing_waits : (x : Flow) → 1 ≤ activity x → x.queue ≡ [] → ⊥
standing_waits x h e = absurd (omega (arith, ap (λ (q : List ℕ). if_empty {A = ℕ} q 0 1) e))

module _ (s : Scheduler) (R : Rules s) where
  -- Steps 3 to 6 in an open turn of f, whose flow is as in the state but for its surplus.
  in_turn_keeps : (r : Round) (f a n w σ k : ℕ) (flow : ℕ → Flow) → OnlyAt f (flow_at s) flow → flow f ≡ flow_made_of w σ k (flow_at s f).queue
      → FlowRules (flow_made_of w σ k (flow_at s f).queue) → LineRules flow (f ∷ []) r.line r.mark r.running (r.visits - 1)
      → TurnRules (flow_made_of w σ k (flow_at s f).queue) r.visits r.mark a n
      → Rules
      (put s f
      (served r (flow_made_of w σ k (flow_at s f).queue) f a n).flow
      (served r (flow_made_of w σ k (flow_at s f).queue) f a n).round)
  in_turn_keeps r f a n w σ k flow only here X L T =
      rules_put s f x' r' R inside both.0 both.1
    where
      q : List ℕ
      q = (flow_at s f).queue

      x' : Flow
      x' = (served r (flow_made_of w σ k q) f a n).flow

      r' : Round
      r' = (served r (flow_made_of w σ k q) f a n).round

      waits : q ≡ [] → ⊥
      waits = standing_waits (flow_made_of w σ k q) (omega (arith, L.stands_once f, count_head f r.line, ap activity here))

      inside : f < flow_limit
      inside = waiting_in_reach s f R.all_flows waits

      both : FlowRules x' × RoundRules (flow_at (put s f x' r')) r' r'.turn
      both =
          served_keeps r f a n w σ k (λ g d. at_others s f x' r' g d ∙ sym (only g d)) L q X here
          (here_now s R inside x' r') T waits

  -- Steps 2 to 6 for the head of the line, once a visit is left.
  begun_keeps : (f : ℕ) (line : List ℕ) (visits mark running : ℕ) → LineRules (flow_at s) [] (f ∷ line) mark running (suc visits)
      → Rules
      (put s f
      (served (turn_opened (round_made_of (f ∷ line) (suc visits) mark running NoTurn) f (allowance (flow_at s f).weight mark (flow_at s f).surplus)) (surplus_cleared (flow_at s f)) f (allowance (flow_at s f).weight mark (flow_at s f).surplus) 0).flow
      (served (turn_opened (round_made_of (f ∷ line) (suc visits) mark running NoTurn) f (allowance (flow_at s f).weight mark (flow_at s f).surplus)) (surplus_cleared (flow_at s f)) f (allowance (flow_at s f).weight mark (flow_at s f).surplus) 0).round)
  unfolding turn_opened surplus_cleared
  begun_keeps f line visits mark running L =
      in_turn_keeps r f (allowance x.weight mark x.surplus) 0 x.weight 0 x.slot (flow_at s') (at_others s f (surplus_cleared x) r) here
      (cleared_flow_rules x (R.flow_rules f))
      (rw counted (leaves_the_line (at_others s f (surplus_cleared x) r) (ap (λ (y : Flow). y.surplus) here) (ap activity here) L))
      (record {
        counts_a_visit = omega arith;
        has_no_surplus = refl;
        allowed_at_least_weight = omega (arith, owed);
        allowed_at_most = omega arith;
        more_may_be_sent = omega (arith, owed, weighs x (R.flow_rules f) waits);
      })
    where
      x : Flow
      x = flow_at s f

      r : Round
      r = turn_opened (round_made_of (f ∷ line) (suc visits) mark running NoTurn) f (allowance x.weight mark x.surplus)

      s' : Scheduler
      s' = put s f (surplus_cleared x) r

      stands : 1 ≤ activity x
      stands = omega (arith, L.stands_once f, count_head f line)

      waits : x.queue ≡ [] → ⊥
      waits = standing_waits x stands

      here : flow_at s' f ≡ surplus_cleared x
      here = here_now s R (waiting_in_reach s f R.all_flows waits) (surplus_cleared x) r

      counted : suc visits - 1 ≡ visits
      counted = omega arith

      owed : x.surplus ≤ x.weight * mark
      owed = L.owed_this_round f (omega (arith, count_head f (take visits line)))

-- The departure call, on a state that is taken apart.
departed_keeps_parts : (flows : List Flow) (line : List ℕ) (visits mark running : ℕ) (turn : Serving)
    → Rules (record { flows = flows; round = round_made_of line visits mark running turn })
    → Rules (departed (record { flows = flows; round = round_made_of line visits mark running turn })).state
unfolding departed visit visit_by round_started RoundRules
departed_keeps_parts flows line visits mark running (Turn f a n) R =
    let s : Scheduler = record { flows = flows; round = round_made_of line visits mark running (Turn f a n) } in
    in_turn_keeps s R s.round f a n (flow_at s f).weight (flow_at s f).surplus (flow_at s f).slot (flow_at s) (λ g d. refl) refl (R.flow_rules f)
    R.round_rules.0 R.round_rules.1
departed_keeps_parts flows [] visits mark running NoTurn R =
    let s : Scheduler = record { flows = flows; round = round_made_of [] visits mark running NoTurn } in
    subst Rules (sym (put_back s 0)) R
departed_keeps_parts flows (f ∷ line) zero mark running NoTurn R =
    begun_keeps (record { flows = flows; round = round_made_of (f ∷ line) 0 mark running NoTurn }) R f line (length line) running 0
    (round_starts R.round_rules)
departed_keeps_parts flows (f ∷ line) (suc visits) mark running NoTurn R =
    begun_keeps (record { flows = flows; round = round_made_of (f ∷ line) (suc visits) mark running NoTurn }) R f line visits mark running
    R.round_rules

pub departed_keeps : (s : Scheduler) → Rules s → Rules (departed s).state
departed_keeps s R =
    departed_keeps_parts s.flows s.round.line s.round.visits s.round.mark s.round.running s.round.turn R

-- What every departure call keeps of a state, any number of departures keep, and so does a burst.
module _ (P : Scheduler → Type 0) (keeps : (s : Scheduler) → P s → P (departed s).state) where
  pub departures_hold : (n : ℕ) (s : Scheduler) → P s → P (departures n s).state
  unfolding departures and_then
  departures_hold zero s p = p
  departures_hold (suc n) s p = by (departed s).reply (keeps s p) (departures_hold n (departed s).state (keeps s p))
    where
      by : (reply : Reply) → P (departed s).state → P (departures n (departed s).state).state
          → P (and_then reply (departed s).state (departures n (departed s).state)).state
      by (Departure d) now then = then
      by Idle now then = now
      by (Refused k) now then = now

  pub burst_holds : (s : Scheduler) (n : ℕ) (list : List ℕ) → P s → P (burst s n list).state
  unfolding burst burst_made
  burst_holds s n list p =
      tested_has (λ (b : Burst). P b.state) (ltb (length list) n) _ (burst_made list (departures n s)) p (λ e. departures_hold n s p)

pub departures_keep : (n : ℕ) (s : Scheduler) → Rules s → Rules (departures n s).state
departures_keep = departures_hold Rules departed_keeps

pub burst_keeps : (s : Scheduler) (n : ℕ) (list : List ℕ) → Rules s → Rules (burst s n list).state
burst_keeps = burst_holds Rules departed_keeps

-- Whatever the call, the state that it gives back keeps the rules.
pub every_call_keeps : (s : Scheduler) (c : Call) → Rules s → Rules (does s c).state
unfolding does
every_call_keeps s resetting R = new_keeps
every_call_keeps s (opening f weight) R = opened_keeps s f weight R
every_call_keeps s (offering f size) R = offered_keeps s f size R
every_call_keeps s departing R = departed_keeps s R
every_call_keeps s (bursting n list) R = burst_keeps s n list R
