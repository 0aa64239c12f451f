-- How long the text of a sheet can be, where its numbers are of 64 bits: such a number has 20 digits at most.
--     sums_fit      a buffer of 4,096 bytes holds the sums of any week
--     remark_fits   one of 4,352 bytes holds the remark on any site whose name has at most 4,096 bytes
use Prim.Native.Nat.{ℕ, suc, ◌+◌, ◌*◌, ◌^◌, ◌<◌, ◌≤◌}
use native.Mathlib.Omega.{arith}
use mathlib.Core.List.{List, [], ◌∷◌, ◌++◌, map}
use mathlib.Core.Path.{◌≡◌}
use lib.ListN.{length, length-append, length-map}
use Rattle.model.specs.Limits.{flow_limit}
use Rattle.lines.specs.Text.{bytes}
use Rattle.lines.specs.Written.{decimal, field}
use Rattle.lines.proofs.Decimal.{field_length}
use Rattle.shares.specs.declared.Share.{Share}
use Rattle.week.specs.declared.Verdict.{Verdict}
use Rattle.week.specs.declared.Verdict.TheVariants.{Follows, Ended, Differs, EventsUnread, OutputUnread}
use Rattle.week.specs.declared.Week.{Week}
use Rattle.week.proofs.Theorems.{line_of_verdict}
use Rattle.sheet_text.specs.Sheet.{share_text, flow_lines, sums_text, shown, name_text, remark_text, sums_limit, remark_limit}

-- ---- numbers of 64 bits

pub record Fits64 (s : Share) : Type 0 where
  pub packets : s.packets < 2 ^ 64
  pub bytes : s.bytes < 2 ^ 64
  pub largest : s.largest < 2 ^ 64

unfoldable pub AllFit64 : List Share → Type 0
AllFit64 [] = Unit {0}
AllFit64 (s ∷ more) = Fits64 s × AllFit64 more

-- a word and a number of 64 bits
wide_length : (word : List ℕ) (n : ℕ) → n < 2 ^ 64 → length (word ++ decimal n) ≤ length word + 20
wide_length word n h = field_length word n 19 (omega arith)

-- ---- the sums

share_length : (s : Share) → Fits64 s → length (share_text s) ≤ 86
unfolding share_text
share_length s h =
    let packets = field " packets=" s.packets in
    let sizes = packets ++ field " bytes=" s.bytes in
    omega (
      arith,
      length-append (sizes ++ field " largest=" s.largest) (bytes "\n"),
      length-append sizes (field " largest=" s.largest),
      length-append packets (field " bytes=" s.bytes),
      wide_length (bytes " packets=") s.packets h.packets,
      wide_length (bytes " bytes=") s.bytes h.bytes,
      wide_length (bytes " largest=") s.largest h.largest,
    )

-- a flow's number has two digits at most
flows_length : (f : ℕ) (flows : List Share) → f + length flows ≤ 100 → AllFit64 flows → length (flow_lines f flows) ≤ 93 * length flows
unfolding flow_lines AllFit64
flows_length f [] h all = omega arith
flows_length f (s ∷ more) h all =
    omega (
      arith,
      length-append (field "flow=" f ++ share_text s) (flow_lines (suc f) more),
      length-append (field "flow=" f) (share_text s),
      field_length (bytes "flow=") f 1 (omega arith),
      share_length s all.0,
      flows_length (suc f) more (omega arith) all.1,
    )

pub sums_fit : (w : Week) → length w.shares.flows ≡ flow_limit → AllFit64 w.shares.flows → Fits64 w.shares.total → w.summed < 2 ^ 64 → w.sites < 2 ^ 64 → length (sums_text w) ≤ sums_limit
unfolding sums_text
sums_fit w many all total summed sites =
    let flows = flow_lines 0 w.shares.flows in
    let totals = field "flows=" flow_limit ++ share_text w.shares.total in
    let counts = field "sites=" w.summed ++ field " of=" w.sites in
    omega (
      arith,
      length-append (flows ++ totals) (counts ++ bytes "\n"),
      length-append flows totals,
      length-append (field "flows=" flow_limit) (share_text w.shares.total),
      length-append counts (bytes "\n"),
      length-append (field "sites=" w.summed) (field " of=" w.sites),
      flows_length 0 w.shares.flows (omega arith) all,
      field_length (bytes "flows=") flow_limit 1 (omega arith),
      share_length w.shares.total total,
      wide_length (bytes "sites=") w.summed summed,
      wide_length (bytes " of=") w.sites sites,
    )

-- ---- a remark

name_length : (name : List ℕ) → length (name_text name) ≡ length name + 9
unfolding name_text
name_length name =
    omega (
      arith,
      length-append (bytes " output=" ++ map shown name) (bytes "\n"),
      length-append (bytes " output=") (map shown name),
      length-map name shown,
    )

-- what is said of a site, between its number and its name
said_length : (site : ℕ) (said name : List ℕ) → site < 2 ^ 64 → length said ≤ 64 → length name ≤ 4_096 → length (field "site=" site ++ said ++ name_text name) ≤ remark_limit
said_length site said name h short l =
    omega (
      arith,
      length-append (field "site=" site ++ said) (name_text name),
      length-append (field "site=" site) said,
      wide_length (bytes "site=") site h,
      name_length name,
    )

pub remark_fits : (site : ℕ) (v : Verdict) (name : List ℕ) → site < 2 ^ 64 → line_of_verdict v < 2 ^ 64 → length name ≤ 4_096 → length (remark_text site v name) ≤ remark_limit
unfolding remark_text
remark_fits site Follows name h fits l = omega arith
remark_fits site (Ended line) name h fits l = said_length site (field " summed=yes bad=" line) name h (omega (arith, wide_length (bytes " summed=yes bad=") line fits)) l
remark_fits site (Differs line) name h fits l = said_length site (field " summed=no differs=" line) name h (omega (arith, wide_length (bytes " summed=no differs=") line fits)) l
remark_fits site EventsUnread name h fits l = said_length site (bytes " summed=no unread=events") name h (omega arith) l
remark_fits site OutputUnread name h fits l = said_length site (bytes " summed=no unread=output") name h (omega arith) l
