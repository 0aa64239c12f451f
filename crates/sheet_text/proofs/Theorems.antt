-- What request 2026-01 asks of the sheet's text.
--     week_sums_fit          the sums of any 64 sites fit their buffer
--     remarks_fit            and so do the remarks on them, whose names have at most 4,096 bytes
--     written_is_the_sheet   what a program writes that has put both into buffers is the sheet
use Prim.Native.Nat.{ℕ, zero, suc, ◌+◌, ◌*◌, ◌≤◌}
use native.Mathlib.Omega.{arith}
use mathlib.Core.List.{List, [], ◌∷◌, ◌++◌}
use mathlib.Core.Path.{◌≡◌, ap₂}
use lib.ListN.{length, take, length-append}
use Rattle.model.specs.Limits.{flow_limit}
use Rattle.model.specs.declared.Sent.{Sent}
use Rattle.print.specs.Page.{PrintedWhole}
use Rattle.play.proofs.Theorems.{stands_at_the_start}
use Rattle.shares.specs.Share.{of_flow, share_of, shares_from, shares_of}
use Rattle.shares.proofs.ShareLaws.{flows_length}
use Rattle.week.specs.Site.{Site, verdict_of}
use Rattle.week.specs.Week.{site_limit, departures_over, week_of}
use Rattle.week.proofs.Theorems.{sums_at_most, flow_at_most_total, line_at_most}
use Rattle.week.proofs.WeekLaws.{summed_at_most}
use Rattle.sheet_text.specs.Sheet.{sums_text, remark_text, Named, sites_of, remarks_after, sheet_text, sums_limit, remark_limit}
use Rattle.sheet_text.proofs.Lengths.{Fits64, AllFit64, sums_fit, remark_fits}

flows_fit : (l : List Sent) → ((f : ℕ) → Fits64 (share_of (of_flow f l))) → (n f : ℕ) → AllFit64 (shares_from n f l)
unfolding shares_from AllFit64
flows_fit l h zero f = tt
flows_fit l h (suc n) f = (h f, flows_fit l h n (suc f))

pub week_sums_fit : (sites : List Site) → length sites ≤ site_limit → length (sums_text (week_of sites)) ≤ sums_limit
unfolding week_of shares_of
week_sums_fit sites h =
    sums_fit (week_of sites) (flows_length flow_limit 0 (departures_over sites)) (flows_fit (departures_over sites) flow flow_limit 0)
    (record { packets = omega (arith, most.0); bytes = omega (arith, most.1); largest = omega (arith, most.2) })
    (omega (arith, summed_at_most sites))
    (omega arith)
  where
    most : ((share_of (departures_over sites)).packets ≤ 262_144) × ((share_of (departures_over sites)).bytes ≤ 67_108_864) × ((share_of (departures_over sites)).largest ≤ 256)
    most = sums_at_most sites h

    flow : (f : ℕ) → Fits64 (share_of (of_flow f (departures_over sites)))
    flow f =
        let less = flow_at_most_total sites f in
        record { packets = omega (arith, less.0, most.0); bytes = omega (arith, less.1, most.1); largest = omega (arith, less.2, most.2) }

-- names of at most 4,096 bytes
unfoldable pub ShortNames : List Named → Type 0
ShortNames [] = Unit {0}
ShortNames (n ∷ more) = (length n.name ≤ 4_096) × ShortNames more

pub remarks_fit : (k : ℕ) (week : List Named) → ShortNames week → k + length week ≤ site_limit → length (remarks_after k week) ≤ remark_limit * length week
unfolding remarks_after ShortNames
remarks_fit k [] s h = omega arith
remarks_fit k (n ∷ week) s h =
    omega (
      arith,
      length-append (remark_text (k + 1) (verdict_of n.site) n.name) (remarks_after (k + 1) week),
      remark_fits (k + 1) (verdict_of n.site) n.name (omega arith) (omega (arith, line_at_most n.site)) s.0,
      remarks_fit (k + 1) week s.1 (omega arith),
    )

pub written_is_the_sheet : (week : List Named) {sums sums' remarks remarks' : List ℕ} {n m : ℕ}
    → PrintedWhole (sums_text (week_of (sites_of week))) sums sums' n → PrintedWhole (remarks_after 0 week) remarks remarks' m
    → take n sums' ++ take m remarks' ≡ sheet_text week
unfolding sheet_text
written_is_the_sheet week p q =
    ap₂ (λ (a b : List ℕ). a ++ b) (stands_at_the_start (sums_text (week_of (sites_of week))) p) (stands_at_the_start (remarks_after 0 week) q)
