-- Runs of code: calls one after the other, each on the state that the one before it gave back.
use Rattle.std.specs.Prelude.{List, [], ◌∷◌}
use Rattle.model.specs.Chain.{Seen, History, moved}

-- From one history to another by calls of which this is seen; `Does` says what a call gives back, and what is seen of it, where it meets its contract.
pub data Run {S C P D : Type 0} (Does : S → C → S → Seen P D → Type 0) : History S P D → List C → History S P D → List (Seen P D) → Type 0 where
  ends : {h : History S P D} → Run Does h [] h []
  goes_on : {h k : History S P D} {c : C} {calls : List C} {s : S} {e : Seen P D} {seen : List (Seen P D)}
      → Does h.state c s e → Run Does (moved h s e) calls k seen → Run Does h (c ∷ calls) k (e ∷ seen)
