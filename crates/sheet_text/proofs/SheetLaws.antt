-- A sheet with one site more.
--     sites_snoc     its site stands behind the others
--     remarks_snoc   and so does the remark on it
use Prim.Native.Nat.{ℕ, ◌+◌}
use native.Mathlib.Omega.{arith}
use mathlib.Core.List.{List, [], ◌∷◌, ◌++◌, append-nil, append_assoc}
use mathlib.Core.Path.{◌≡◌, refl, sym, ap, ◌∙◌}
use lib.ListN.{length}
use Rattle.week.specs.Site.{Site, verdict_of}
use Rattle.sheet_text.specs.Sheet.{remark_text, Named, sites_of, remarks_after}

pub sites_snoc : (week : List Named) (n : Named) → sites_of (week ++ n ∷ []) ≡ sites_of week ++ n.site ∷ []
unfolding sites_of
sites_snoc [] n = refl
sites_snoc (m ∷ week) n = ap (λ (l : List Site). m.site ∷ l) (sites_snoc week n)

pub sites_length : (week : List Named) → length (sites_of week) ≡ length week
unfolding sites_of
sites_length [] = refl
sites_length (m ∷ week) = omega (arith, sites_length week)

pub remarks_snoc : (k : ℕ) (week : List Named) (n : Named)
    → remarks_after k (week ++ n ∷ []) ≡ remarks_after k week ++ remark_text (k + length week + 1) (verdict_of n.site) n.name
unfolding remarks_after
remarks_snoc k [] n =
    append-nil (remark_text (k + 1) (verdict_of n.site) n.name) ∙ ap (λ (j : ℕ). remark_text j (verdict_of n.site) n.name) (omega arith)
remarks_snoc k (m ∷ week) n =
    ap (λ (l : List ℕ). remark_text (k + 1) (verdict_of m.site) m.name ++ l)
    (remarks_snoc (k + 1) week n
    ∙ ap (λ (j : ℕ). remarks_after (k + 1) week ++ remark_text j (verdict_of n.site) n.name) (omega arith))
    ∙ sym (append_assoc (remark_text (k + 1) (verdict_of m.site) m.name) (remarks_after (k + 1) week) (remark_text (k + length (m ∷ week) + 1) (verdict_of n.site) n.name))
