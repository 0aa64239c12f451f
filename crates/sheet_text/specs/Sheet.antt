-- The text of a share sheet.
use Rattle.std.specs.Prelude.{ℕ, suc, ◌+◌, cond, ◌||◌, List, [], ◌∷◌, ◌++◌, map, ltb, eqb}
use Rattle.model.specs.Limits.{flow_limit}
use Rattle.lines.specs.Text.{bytes}
use Rattle.lines.specs.Written.{field}
use Rattle.shares.specs.declared.Share.{Share}
use Rattle.week.specs.Site.{Site, verdict_of}
use Rattle.week.specs.Week.{week_of}
use Rattle.week.specs.declared.Verdict.{Verdict}
use Rattle.week.specs.declared.Verdict.TheVariants.{Follows, Ended, Differs, EventsUnread, OutputUnread}
use Rattle.week.specs.declared.Week.{Week}

-- ---- the sums

unfoldable pub share_text : Share → List ℕ
share_text s = field " packets=" s.packets ++ field " bytes=" s.bytes ++ field " largest=" s.largest ++ bytes "\n"

-- a line for each flow, flows rising
unfoldable pub flow_lines : ℕ → List Share → List ℕ
flow_lines f [] = []
flow_lines f (s ∷ more) = (field "flow=" f ++ share_text s) ++ flow_lines (suc f) more

-- The flows, the total over them, and how many sites are in the sums.
unfoldable pub sums_text : Week → List ℕ
sums_text w =
    flow_lines 0 w.shares.flows
    ++ (field "flows=" flow_limit ++ share_text w.shares.total)
    ++ (field "sites=" w.summed ++ field " of=" w.sites ++ bytes "\n")

-- ---- what is remarked of a site

-- A control byte of a name is shown as a question mark, so that a name stands on its line whatever it holds.
unfoldable pub shown : ℕ → ℕ
shown byte = cond (ltb byte 32 || eqb byte 127) 63 byte

unfoldable pub name_text : List ℕ → List ℕ
name_text name = bytes " output=" ++ map shown name ++ bytes "\n"

-- The line of a site that is left out, or that ended in a bad line. A site that follows to its end has none.
unfoldable pub remark_text : ℕ → Verdict → List ℕ → List ℕ
remark_text site Follows name = []
remark_text site (Ended line) name = field "site=" site ++ field " summed=yes bad=" line ++ name_text name
remark_text site (Differs line) name = field "site=" site ++ field " summed=no differs=" line ++ name_text name
remark_text site EventsUnread name = field "site=" site ++ bytes " summed=no unread=events" ++ name_text name
remark_text site OutputUnread name = field "site=" site ++ bytes " summed=no unread=output" ++ name_text name

-- ---- the whole sheet

-- a site with the name of its output's file
pub record Named : Type 0 where
  pub site : Site
  pub name : List ℕ

unfoldable pub sites_of : List Named → List Site
sites_of [] = []
sites_of (n ∷ more) = n.site ∷ sites_of more

-- Sites are numbered from 1 in the order in which they are named; these come after the first n.
unfoldable pub remarks_after : ℕ → List Named → List ℕ
remarks_after n [] = []
remarks_after n (s ∷ more) = remark_text (n + 1) (verdict_of s.site) s.name ++ remarks_after (n + 1) more

unfoldable pub sheet_text : List Named → List ℕ
sheet_text week = sums_text (week_of (sites_of week)) ++ remarks_after 0 week

-- A buffer of so many bytes holds the sums of any week, as `sums_fit` shows; and one of so many the remark on any site whose name has at most 4,096
-- bytes, as `remark_fits` shows.
abbrev pub sums_limit : ℕ
sums_limit = 4_096

abbrev pub remark_limit : ℕ
remark_limit = 4_096 + 256
