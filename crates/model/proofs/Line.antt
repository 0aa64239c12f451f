-- What each of document 01's steps does to the rules of the line. `flow` and `flow'` are the flows before and after; they differ at f alone.
use Prim.Native.Nat.{ℕ, suc, ◌+◌, ◌*◌, ◌≤◌, ◌<◌}
use mathlib.Core.Path.{◌≡◌, sym, ◌∙◌, subst}
use mathlib.Core.List.{List, [], ◌∷◌, ◌++◌}
use native.Mathlib.Omega.{arith}
use native.Mathlib.Decide.{ℕ_discrete}
use native.Mathlib.Nat.{mul-le-mul_left}
use lib.ListN.{length, take, drop, length-append}
use lib.Seq.{take-append-le, drop-append-le, take-length, drop-length}
use Rattle.model.specs.Limits.{flow_limit, mark_limit}
use Rattle.model.specs.Choose.{if_empty}
use Rattle.model.specs.Model.{Flow}
use Rattle.model.specs.Rules.{count, activity, LineRules}
use Rattle.model.proofs.Counts.{count_append, count_self, count_other, count_head, count_behind, count_parts, few_stand, fewer_stand}
use Rattle.model.proofs.Choosing.{waiting_by_count}

-- The flows before and after differ at f alone.
abbrev pub OnlyAt : ℕ → (ℕ → Flow) → (ℕ → Flow) → Type 0
OnlyAt f flow flow' = (g : ℕ) → (g ≡ f → ⊥) → flow' g ≡ flow g

-- A statement on f, by whether f is g.
pub same_or_other : (P : ℕ → Type 0) (g f : ℕ) → P g → ((f ≡ g → ⊥) → P f) → P f
same_or_other P g f here there = elim (ℕ_discrete f g) [ yes q ↦ subst P (sym q) here | no q ↦ there q ]

-- What holds of f after, and of every other flow before, holds of every flow after.
pub everywhere : (P : ℕ → Flow → Type 0) (f : ℕ) (flow flow' : ℕ → Flow) → OnlyAt f flow flow' → P f (flow' f)
    → ((g : ℕ) → (g ≡ f → ⊥) → P g (flow g)) → (g : ℕ) → P g (flow' g)
everywhere P f flow flow' only here there g =
    same_or_other (λ k. P k (flow' k)) f g here (λ q. subst (λ (x : Flow). P g x) (sym (only g q)) (there g q))

-- A flow with a packet waiting is active.
pub waiting_is_active : (x : Flow) → 1 ≤ length x.queue → activity x ≡ 1
waiting_is_active x w = waiting_by_count x.queue 0 1 (λ e. omega arith)

pub activity_at_most_one : (x : Flow) → activity x ≤ 1
activity_at_most_one x = go x.queue
  where
    go : (q : List ℕ) → if_empty q 0 1 ≤ 1
    go [] = omega arith
    go (p ∷ q) = omega arith

module _ {f : ℕ} {flow flow' : ℕ → Flow} (only : OnlyAt f flow flow') where
  -- A change of f that leaves its weight, surplus and activity leaves the line's rules.
  pub same_standing : {out line : List ℕ} {mark running n : ℕ} → (flow' f).weight ≡ (flow f).weight → (flow' f).surplus ≡ (flow f).surplus
      → activity (flow' f) ≡ activity (flow f) → LineRules flow out line mark running n → LineRules flow' out line mark running n
  same_standing {out} {line} {mark} {running} {n} w s a L =
      record {
        mark_in_range = L.mark_in_range;
        running_in_range = L.running_in_range;
        stands_once = everywhere (λ g x. count g (out ++ line) ≡ activity x) f flow flow' only (L.stands_once f ∙ sym a) (λ g d. L.stands_once g);
        visits_in_line = L.visits_in_line;
        owed_this_round = everywhere (λ g x. 1 ≤ count g (take n line) → x.surplus ≤ x.weight * mark) f flow flow' only (λ h. rw (w, s) (L.owed_this_round f h)) (λ g d. L.owed_this_round g);
        owed_next_round = everywhere (λ g x. 1 ≤ count g (drop n line) → x.surplus ≤ x.weight * running) f flow flow' only (λ h. rw (w, s) (L.owed_next_round f h)) (λ g d. L.owed_next_round g);
      }

  -- A change of a flow that is active neither before nor after leaves them too: it stands nowhere.
  pub not_standing : {out line : List ℕ} {mark running n : ℕ} → activity (flow f) ≡ 0 → activity (flow' f) ≡ 0
      → LineRules flow out line mark running n → LineRules flow' out line mark running n
  not_standing {out} {line} {mark} {running} {n} was a L =
      record {
        mark_in_range = L.mark_in_range;
        running_in_range = L.running_in_range;
        stands_once = everywhere (λ g x. count g (out ++ line) ≡ activity x) f flow flow' only (L.stands_once f ∙ was ∙ sym a) (λ g d. L.stands_once g);
        visits_in_line = L.visits_in_line;
        owed_this_round =
            everywhere (λ g x. 1 ≤ count g (take n line) → x.surplus ≤ x.weight * mark) f flow flow' only
            (λ h. absurd (omega (arith, count_parts f n line, count_append f out line, L.stands_once f)))
            (λ g d. L.owed_this_round g);
        owed_next_round =
            everywhere (λ g x. 1 ≤ count g (drop n line) → x.surplus ≤ x.weight * running) f flow flow' only
            (λ h. absurd (omega (arith, count_parts f n line, count_append f out line, L.stands_once f)))
            (λ g d. L.owed_next_round g);
      }

  -- Step 1, for a flow that was not active: it goes to the end of the line with surplus 0.
  pub joins_the_line : {out line : List ℕ} {mark running n : ℕ} → activity (flow f) ≡ 0 → (flow' f).surplus ≡ 0 → activity (flow' f) ≡ 1
      → LineRules flow out line mark running n → LineRules flow' out (line ++ (f ∷ [])) mark running n
  joins_the_line {out} {line} {mark} {running} {n} was s a L =
      record {
        mark_in_range = L.mark_in_range;
        running_in_range = L.running_in_range;
        stands_once =
            everywhere (λ g x. count g (out ++ (line ++ (f ∷ []))) ≡ activity x) f flow flow' only
            (omega (arith, counted f, L.stands_once f, count_self f))
            (λ g d. omega (arith, counted g, L.stands_once g, count_other g f d));
        visits_in_line = omega (arith, L.visits_in_line, length-append line (f ∷ []));
        owed_this_round =
            rw (take-append-le n line (f ∷ []) L.visits_in_line)
            (everywhere (λ g x. 1 ≤ count g (take n line) → x.surplus ≤ x.weight * mark) f flow flow' only (λ h. omega (arith, s)) (λ g d. L.owed_this_round g));
        owed_next_round =
            rw (drop-append-le n line (f ∷ []) L.visits_in_line)
            (everywhere (λ g x. 1 ≤ count g (drop n line ++ (f ∷ [])) → x.surplus ≤ x.weight * running) f flow flow' only
            (λ h. omega (arith, s))
            (λ g d h. L.owed_next_round g (omega (arith, count_append g (drop n line) (f ∷ []), count_other g f d))));
      }
    where
      counted : (g : ℕ) → count g (out ++ (line ++ (f ∷ []))) ≡ count g (out ++ line) + count g (f ∷ [])
      counted g =
          omega (arith, count_append g out (line ++ (f ∷ [])), count_append g out line, count_append g line (f ∷ []))

  -- Step 2: the head leaves the line and opens a turn, its surplus becomes 0.
  pub leaves_the_line : {line : List ℕ} {mark running n : ℕ} → (flow' f).surplus ≡ 0 → activity (flow' f) ≡ activity (flow f)
      → LineRules flow [] (f ∷ line) mark running (suc n) → LineRules flow' (f ∷ []) line mark running n
  leaves_the_line {line} {mark} {running} {n} s a L =
      record {
        mark_in_range = L.mark_in_range;
        running_in_range = L.running_in_range;
        stands_once = everywhere (λ g x. count g (f ∷ line) ≡ activity x) f flow flow' only (L.stands_once f ∙ sym a) (λ g d. L.stands_once g);
        visits_in_line = omega (arith, L.visits_in_line);
        owed_this_round =
            everywhere (λ g x. 1 ≤ count g (take n line) → x.surplus ≤ x.weight * mark) f flow flow' only
            (λ h. omega (arith, s))
            (λ g d h. L.owed_this_round g (omega (arith, count_behind g f (take n line) d)));
        owed_next_round =
            everywhere (λ g x. 1 ≤ count g (drop n line) → x.surplus ≤ x.weight * running) f flow flow' only
            (λ h. omega (arith, s))
            (λ g d. L.owed_next_round g);
      }

  -- Step 6, with packets waiting: the flow goes to the end of the line, its surplus covered by the raised running mark.
  pub rejoins_the_line : {line : List ℕ} {mark running running' n : ℕ} → running ≤ running' → running' ≤ mark_limit
      → (flow' f).surplus ≤ (flow' f).weight * running' → activity (flow' f) ≡ activity (flow f)
      → LineRules flow (f ∷ []) line mark running n → LineRules flow' [] (line ++ (f ∷ [])) mark running' n
  rejoins_the_line {line} {mark} {running} {running'} {n} up top s a L =
      record {
        mark_in_range = L.mark_in_range;
        running_in_range = top;
        stands_once =
            everywhere (λ g x. count g (line ++ (f ∷ [])) ≡ activity x) f flow flow' only
            (turned f ∙ L.stands_once f ∙ sym a)
            (λ g d. turned g ∙ L.stands_once g);
        visits_in_line = omega (arith, L.visits_in_line, length-append line (f ∷ []));
        owed_this_round =
            rw (take-append-le n line (f ∷ []) L.visits_in_line)
            (everywhere (λ g x. 1 ≤ count g (take n line) → x.surplus ≤ x.weight * mark) f flow flow' only
            (λ h. absurd (omega (arith, count_parts f n line, count_head f line, L.stands_once f, activity_at_most_one (flow f))))
            (λ g d. L.owed_this_round g));
        owed_next_round =
            rw (drop-append-le n line (f ∷ []) L.visits_in_line)
            (everywhere (λ g x. 1 ≤ count g (drop n line ++ (f ∷ [])) → x.surplus ≤ x.weight * running') f flow flow' only
            (λ h. s)
            (λ g d h. omega (arith, L.owed_next_round g (omega (arith, count_append g (drop n line) (f ∷ []), count_other g f d)), mul-le-mul_left (flow g).weight up)));
      }
    where
      turned : (g : ℕ) → count g (line ++ (f ∷ [])) ≡ count g (f ∷ line)
      turned g = omega (arith, count_append g line (f ∷ []), count_append g (f ∷ []) line)

  -- Step 6, with none waiting: the flow is not active.
  pub leaves_for_good : {line : List ℕ} {mark running running' n : ℕ} → running ≤ running' → running' ≤ mark_limit
      → activity (flow f) ≡ 1 → activity (flow' f) ≡ 0
      → LineRules flow (f ∷ []) line mark running n → LineRules flow' [] line mark running' n
  leaves_for_good {line} {mark} {running} {running'} {n} up top was a L =
      record {
        mark_in_range = L.mark_in_range;
        running_in_range = top;
        stands_once =
            everywhere (λ g x. count g line ≡ activity x) f flow flow' only
            (omega (arith, count_head f line, L.stands_once f))
            (λ g d. sym (count_behind g f line d) ∙ L.stands_once g);
        visits_in_line = L.visits_in_line;
        owed_this_round =
            everywhere (λ g x. 1 ≤ count g (take n line) → x.surplus ≤ x.weight * mark) f flow flow' only
            (λ h. absurd (omega (arith, count_parts f n line, count_head f line, L.stands_once f)))
            (λ g d. L.owed_this_round g);
        owed_next_round =
            everywhere (λ g x. 1 ≤ count g (drop n line) → x.surplus ≤ x.weight * running') f flow flow' only
            (λ h. absurd (omega (arith, count_parts f n line, count_head f line, L.stands_once f)))
            (λ g d h. omega (arith, L.owed_next_round g h, mul-le-mul_left (flow g).weight up));
      }

-- Step 2, where a round starts: what was owed in the next round is owed in this one.
pub round_starts : {flow : ℕ → Flow} {line : List ℕ} {mark running : ℕ}
    → LineRules flow [] line mark running 0 → LineRules flow [] line running 0 (length line)
unfolding count
round_starts {flow} {line} {mark} {running} L =
    record {
      mark_in_range = L.running_in_range;
      running_in_range = omega arith;
      stands_once = L.stands_once;
      visits_in_line = omega arith;
      owed_this_round = rw (take-length line) L.owed_next_round;
      owed_next_round = rw (drop-length line) (λ g h. absurd (omega arith));
    }

-- Only active flows stand in line, and each once: so the line never outgrows the number of flows.
module _ {flow : ℕ → Flow} {out line : List ℕ} {mark running n : ℕ} (L : LineRules flow out line mark running n)
    (beyond : (g : ℕ) → flow_limit ≤ g → activity (flow g) ≡ 0) where
  pub line_fits : length out + length line ≤ flow_limit
  line_fits =
      omega (arith, length-append out line, few_stand flow_limit (out ++ line) (λ g h. L.stands_once g ∙ beyond g h) (λ g. omega (arith, L.stands_once g, activity_at_most_one (flow g))))

  pub line_has_room : (f : ℕ) → f < flow_limit → activity (flow f) ≡ 0 → length out + length line < flow_limit
  line_has_room f b a =
      omega (arith, length-append out line, fewer_stand flow_limit f (out ++ line) (λ g h. L.stands_once g ∙ beyond g h) (λ g. omega (arith, L.stands_once g, activity_at_most_one (flow g))) b (L.stands_once f ∙ a))
