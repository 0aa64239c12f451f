-- What the contracts cite: weeks that the calls give, what was read of a file, and what a site makes of a week.
use Rattle.std.specs.Prelude.{ℕ, ◌≤◌, List, [], ◌∷◌, ◌++◌, ◌≡◌, length, take}
use Rattle.week.specs.Site.{Site, events_unread, output_unread, files, verdict_of}
use Rattle.week.specs.Week.{site_limit, week_of}
use Rattle.week.specs.declared.Verdict.{Verdict}
use Rattle.week.specs.declared.Week.{Week}

-- A week is that of some sites, at most 64.
pub record Sound (w : Week) : Type 0 where
  pub over : List Site
  pub is : w ≡ week_of over
  pub within : length over ≤ site_limit

-- The first n bytes of a buffer are what was read of a file: the whole file, or as much of it as the buffer holds.
abbrev pub ReadOf : List ℕ → List ℕ → ℕ → Type 0
ReadOf file buffer n = take n buffer ≡ take (length buffer) file

-- One site more.
unfoldable pub judged_as : List Site → Site → Week × Verdict
judged_as sites s = (week_of (sites ++ s ∷ []), verdict_of s)

-- What the calls promise that take one site more, whatever sites came before: one of which a file cannot be read; and one of which the buffers hold
-- what was read, whatever its files are that begin so.
abbrev pub GivesUnread : Week → Week → Type 0
GivesUnread w r = (sites : List Site) → w ≡ week_of sites → (r ≡ week_of (sites ++ events_unread ∷ [])) × (r ≡ week_of (sites ++ output_unread ∷ []))

abbrev pub GivesSite : Week → List ℕ → ℕ → List ℕ → ℕ → Week × Verdict → Type 0
GivesSite w events n output m r =
    (sites : List Site) (e o : List ℕ) → w ≡ week_of sites → ReadOf e events n → ReadOf o output m → r ≡ judged_as sites (files e o)
