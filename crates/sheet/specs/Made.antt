-- What the program makes of its files. No contract can say what a file holds or what an argument is, so each says: of some site, under some name.
use Rattle.std.specs.Prelude.{ℕ, ◌≤◌, List, ◌≡◌, length}
use Rattle.print.specs.Page.{PrintedWhole}
use Rattle.print.specs.Puts.{Puts}
use Rattle.print.specs.declared.Page.{Page as Held}
use Rattle.week.specs.Site.{Site}
use Rattle.week.specs.Week.{week_of}
use Rattle.week.specs.Reading.{judged_as}
use Rattle.week.specs.declared.Verdict.{Verdict}
use Rattle.week.specs.declared.Week.{Week}
use Rattle.sheet_text.specs.Sheet.{remark_text, Named, sites_of, remarks_after}
use Rattle.sheet.specs.declared.Made.{Made}

-- One site more is judged.
pub record JudgesASite (week : Week) (r : Week × Verdict) : Type 0 where
  pub site : Site
  pub judged : (sites : List Site) → week ≡ week_of sites → r ≡ judged_as sites site

-- The remark on a site is put on a page, with a name of at most 4,096 bytes.
pub record RemarksASite (site : ℕ) (verdict : Verdict) (before after : Held ℕ) : Type 0 where
  pub name : List ℕ
  pub short : length name ≤ 4_096
  pub puts : Puts (remark_text site verdict name) before after

-- The week of so many sites, and all remarks on them in a buffer from its start.
pub record MakesASheet (sites : ℕ) (before after : List ℕ) (r : Made) : Type 0 where
  pub named : List Named
  pub as_many : length named ≡ sites
  pub sums : r.week ≡ week_of (sites_of named)
  pub remarks : PrintedWhole (remarks_after 0 named) before after r.past
