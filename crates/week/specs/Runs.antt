-- Runs of the calls that make a week, by what their contracts promise.
use Rattle.std.specs.Prelude.{List, [], ◌∷◌, ◌++◌, ◌≡◌}
use Rattle.week.specs.Site.{Site}
use Rattle.week.specs.Week.{week_of}
use Rattle.week.specs.declared.Week.{Week}

-- A call that takes one site more, whatever sites came before.
abbrev pub Takes : Site → Week → Week → Type 0
Takes site w r = (sites : List Site) → w ≡ week_of sites → r ≡ week_of (sites ++ site ∷ [])

-- A week that the calls give, from a new one, for these sites one after the other.
pub data Run : List Site → Week → Type 0 where
  new : {w : Week} → w ≡ week_of [] → Run [] w
  one_more : {sites : List Site} {w r : Week} (site : Site) → Run sites w → Takes site w r → Run (sites ++ site ∷ []) r
