-- The sums over the sites of a week.
use Rattle.std.specs.Prelude.{ℕ, ◌+◌, List, [], ◌∷◌, ◌++◌, length}
use Rattle.model.specs.declared.Sent.{Sent}
use Rattle.shares.specs.Share.{shares_of}
use Rattle.week.specs.Site.{Site, adds, is_summed}
use Rattle.week.specs.declared.Week.{Week}

-- A sheet is over at most 64 sites.
abbrev pub site_limit : ℕ
site_limit = 64

-- The departures of all sites that follow, site by site.
unfoldable pub departures_over : List Site → List Sent
departures_over [] = []
departures_over (s ∷ more) = adds s ++ departures_over more

unfoldable pub summed_among : List Site → ℕ
summed_among [] = 0
summed_among (s ∷ more) = is_summed s + summed_among more

unfoldable pub week_of : List Site → Week
week_of sites = record { shares = shares_of (departures_over sites); summed = summed_among sites; sites = length sites }
