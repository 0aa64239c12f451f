-- One argument for both layers: what a layer must bring for the three demands to hold of it.
use Prim.Native.Nat.{ℕ, ◌+◌, ◌*◌, ◌-◌, ◌≤◌}
use mathlib.Core.Path.{◌≡◌, refl, sym, ap, ◌∙◌, subst}
use mathlib.Core.List.{List, ◌++◌}
use lib.ListN.{length}
use Rattle.model.specs.Chain.{Kind, begin, chain}
use Rattle.model.proofs.Following.{Follows, Beside, run_beside, run_seen, one_outcome, left_as_it_was}
use Rattle.account.specs.Stretch.{Stretch, begun, ended, left_over, sent_in, bytes_sent, largest_since_reset, WaitingThroughout, ConsecutiveTurns, weight_of, surplus_before, surplus_after, one_plus_marks}
use Rattle.account.proofs.Sums.{DifferByAtMost, DifferByLessThan}
use Rattle.demands.specs.Demands.{Layer, CodeHistory, SeenOf, Reached, RunOver, Demand1, Demand2, Demand3}

module _ (L : Layer) where
  abbrev K : Kind
  K = L.kind

  -- The definitions' call leaves state and lent bytes.
  abbrev pub Leaves : K.State → K.Call → Type 0
  Leaves m c = ((K.does m c).state ≡ m) × ((K.does m c).seen.back ≡ (K.does m c).seen.lent)

  pub record Grounds : Type 1 where
    -- how the code's states stand for the definitions', and that its calls follow theirs
    pub Stands : L.State → K.State → Type 0
    pub begins : (s : L.State) (m : K.State) → L.New s m → Stands s m
    pub follows : (s : L.State) (m : K.State) (c : K.Call) (t : L.State) (e : SeenOf L) → Stands s m → L.Does s c t e → Follows K L.Does Stands m c t e
    pub same_form : (s t : L.State) (m : K.State) → Stands s m → Stands t m → s ≡ t
    pub premise : (s : L.State) (m : K.State) → Stands s m → L.Premise s
    pub outcome : (s : L.State) (m : K.State) → Stands s m → (c : K.Call) → (t : L.State) × (e : SeenOf L) × L.Does s c t e
    -- what is proved of the definitions' calls
    pub refused_leaves : (m : K.State) (c : K.Call) → 1 ≤ (K.does m c).seen.says.refusal → Leaves m c
    pub balanced : (s : L.State) (m : K.State) → L.New s m → (calls : List K.Call) (f : ℕ)
        → L.accepted f (chain K (begin m) calls).accepted ≡ L.left f (chain K (begin m) calls).left ++ L.waiting f (chain K (begin m) calls).state
    pub account : (x : Stretch K) (f : ℕ) → ConsecutiveTurns K x f → bytes_sent K x f + surplus_before K x f ≡ surplus_after K x f + weight_of K x f * one_plus_marks K x f
    pub pair_bound : (x : Stretch K) (i j : ℕ) → WaitingThroughout K x i → WaitingThroughout K x j → 1 ≤ length (sent_in K (begun K x).state x.calls)
        → DifferByLessThan (weight_of K x j * bytes_sent K x i) (weight_of K x i * bytes_sent K x j) (3 * largest_since_reset K x * (weight_of K x i * weight_of K x j))
    pub exact_bound : (x : Stretch K) (i j : ℕ) → WaitingThroughout K x i → WaitingThroughout K x j
        → DifferByAtMost (weight_of K x j * bytes_sent K x i) (weight_of K x i * bytes_sent K x j)
        (largest_since_reset K x * (weight_of K x i * weight_of K x j) + (largest_since_reset K x - 1) * (weight_of K x i + weight_of K x j))

  module _ (G : Grounds) where
    -- Where calls have led, the code's history lies beside the definitions'.
    pub beside : {first : K.State} {calls : List K.Call} {h : CodeHistory L} {seen : List (SeenOf L)} → Reached L first calls h seen
        → Beside K L.Does G.Stands h (chain K (begin first) calls)
    beside {first} R =
        run_beside K L.Does G.Stands G.follows R.run (begin first)
        (record { stands = G.begins R.code first R.new; accepted_same = refl; left_same = refl })

    -- What is seen of the next call is what the definitions' call shows; and where that leaves all as it was, so does the code's.
    module _ {first : K.State} {calls : List K.Call} {h : CodeHistory L} {seen : List (SeenOf L)} (R : Reached L first calls h seen) {c : K.Call} {s : L.State} {e : SeenOf L}
        (d : L.Does h.state c s e) where
      pub seen_same : e ≡ (K.does (chain K (begin first) calls).state c).seen
      seen_same = (G.follows h.state (chain K (begin first) calls).state c s e (beside R).stands d).seen_same

      pub unchanged : Leaves (chain K (begin first) calls).state c → (s ≡ h.state) × (e.back ≡ e.lent)
      unchanged stays = (
        left_as_it_was K L.Does G.Stands G.follows G.same_form (beside R).stands d stays.0,
        ap (λ (k : SeenOf L). k.back) seen_same ∙ stays.1 ∙ sym (ap (λ (k : SeenOf L). k.lent) seen_same),
      )

    pub demand1 : Demand1 L
    demand1 =
        record {
          premise_holds = λ {first} {calls} {h} R. G.premise h.state (chain K (begin first) calls).state (beside R).stands;
          has_an_outcome = λ {first} {calls} {h} R c. G.outcome h.state (chain K (begin first) calls).state (beside R).stands c;
          refusal_changes_nothing = λ {first} {calls} {h} {seen} {c} {s} {e} R d refused.
              unchanged R d (G.refused_leaves (chain K (begin first) calls).state c (subst (λ (k : SeenOf L). 1 ≤ k.says.refusal) (seen_same R d) refused));
          no_second_outcome = λ R d e. one_outcome K L.Does G.Stands G.follows G.same_form (beside R).stands d e;
        }

    pub demand2 : Demand2 L
    demand2 =
        record {
          as_defined = λ {first} R.
              run_seen K L.Does G.Stands G.follows R.run (begin first)
              (record { stands = G.begins R.code first R.new; accepted_same = refl; left_same = refl });
          nothing_lost = λ {first} {calls} R f.
              ap (L.accepted f) (beside R).accepted_same
              ∙ G.balanced R.code first R.new calls f
              ∙ ap (λ (l : List L.Load). l ++ L.waiting f (chain K (begin first) calls).state) (sym (ap (L.left f) (beside R).left_same));
        }

    pub demand3 : Demand3 L
    demand3 =
        record {
          account_balances = λ {x} R f turns. rw (sent_as R) (G.account x f turns);
          shares_differ_by_less = λ {x} R i j wi wj some. rw (sent_as R, left_as R) (G.pair_bound x i j wi wj (rw (sent_as R) at some)).0;
          shares_differ_by_at_most = λ {x} R i j wi wj. rw (sent_as R, left_as R) (G.exact_bound x i j wi wj).0;
        }
      where
        sent_as : {x : Stretch K} {h : CodeHistory L} {seen : List (SeenOf L)} → RunOver L x h seen → left_over seen ≡ sent_in K (begun K x).state x.calls
        sent_as {x} R = ap left_over (run_seen K L.Does G.Stands G.follows R.to_end (begun K x) (beside R.to_begin))

        left_as : {x : Stretch K} {h : CodeHistory L} {seen : List (SeenOf L)} → RunOver L x h seen → h.left ≡ (ended K x).left
        left_as {x} R = (run_beside K L.Does G.Stands G.follows R.to_end (begun K x) (beside R.to_begin)).left_same
