-- A run of code goes as the chain of the same calls, if each call does: what is seen of it is what the definitions' call shows, and the state that it gives
-- back stands for the one that the definitions' call gives.
use mathlib.Core.Path.{◌≡◌, refl, sym, ap₂, ◌∙◌, subst}
use mathlib.Core.List.{List, ◌∷◌}
use Rattle.model.specs.Chain.{Seen, Kind, History, HistoryOf, moved, next, chain, over, seen_over}
use Rattle.model.specs.Runs.{Run, ends, goes_on}

module _ (K : Kind) {S : Type 0} (Does : S → K.Call → S → Seen K.Packet K.Departure → Type 0) (Stands : S → K.State → Type 0) where
  -- What a call of the code does beside the definitions' call.
  pub record Follows (m : K.State) (c : K.Call) (s : S) (e : Seen K.Packet K.Departure) : Type 0 where
    pub stands_then : Stands s (K.does m c).state
    pub seen_same : e ≡ (K.does m c).seen

  -- Two histories beside each other.
  pub record Beside (h : History S K.Packet K.Departure) (m : HistoryOf K) : Type 0 where
    pub stands : Stands h.state m.state
    pub accepted_same : h.accepted ≡ m.accepted
    pub left_same : h.left ≡ m.left

  module _ (follows : (s : S) (m : K.State) (c : K.Call) (s' : S) (e : Seen K.Packet K.Departure) → Stands s m → Does s c s' e → Follows m c s' e) where
    moved_beside : {h : History S K.Packet K.Departure} {m : HistoryOf K} {c : K.Call} {s : S} {e : Seen K.Packet K.Departure}
        → Beside h m → Follows m.state c s e → Beside (moved h s e) (next K m c)
    unfolding moved next
    moved_beside {h} {m} {c} {s} {e} B F =
        record {
          stands = F.stands_then;
          accepted_same = ap₂ (λ f l. (moved (record { state = s; accepted = l; left = h.left }) s f).accepted) F.seen_same B.accepted_same;
          left_same = ap₂ (λ f l. (moved (record { state = s; accepted = h.accepted; left = l }) s f).left) F.seen_same B.left_same;
        }

    pub run_beside : {h k : History S K.Packet K.Departure} {calls : List K.Call} {seen : List (Seen K.Packet K.Departure)}
        → Run Does h calls k seen → (m : HistoryOf K) → Beside h m → Beside k (chain K m calls)
    unfolding chain
    run_beside ends m B = B
    run_beside (goes_on {h} {k} {c} {calls} {s} {e} does run) m B = run_beside run (next K m c) (moved_beside B (follows h.state m.state c s e B.stands does))

    pub run_seen : {h k : History S K.Packet K.Departure} {calls : List K.Call} {seen : List (Seen K.Packet K.Departure)}
        → Run Does h calls k seen → (m : HistoryOf K) → Beside h m → seen ≡ seen_over K m.state calls
    unfolding over next moved
    run_seen ends m B = refl
    run_seen (goes_on {h} {k} {c} {calls} {s} {e} does run) m B =
        let F = follows h.state m.state c s e B.stands does in
        ap₂ (λ f l. f ∷ l) F.seen_same (run_seen run (next K m c) (moved_beside B F))

    -- One outcome meets the contract, where what stands for a state has one form; and where the definitions' call leaves the state, so does the code's.
    module _ (same_form : (s t : S) (m : K.State) → Stands s m → Stands t m → s ≡ t) where
      pub one_outcome : {s t u : S} {m : K.State} {c : K.Call} {d e : Seen K.Packet K.Departure} → Stands s m → Does s c t d → Does s c u e → (t ≡ u) × (d ≡ e)
      one_outcome {s} {t} {u} {m} {c} {d} {e} S x y =
          let F = follows s m c t d S x in
          let G = follows s m c u e S y in
          (same_form t u (K.does m c).state F.stands_then G.stands_then, F.seen_same ∙ sym G.seen_same)

      pub left_as_it_was : {s t : S} {m : K.State} {c : K.Call} {e : Seen K.Packet K.Departure} → Stands s m → Does s c t e → (K.does m c).state ≡ m → t ≡ s
      left_as_it_was {s} {t} {m} {c} {e} S x stays =
          same_form t s m (subst (Stands t) stays (follows s m c t e S x).stands_then) S
