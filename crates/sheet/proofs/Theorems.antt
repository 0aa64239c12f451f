-- What the program writes, sums first and remarks behind them, is the sheet of the sites that it judged, under the names that it found.
use Prim.Native.Nat.{ℕ, ◌≤◌}
use native.Mathlib.Omega.{arith}
use mathlib.Core.List.{List, ◌++◌}
use mathlib.Core.Path.{◌≡◌, ap, ◌∙◌}
use lib.ListN.{length, take}
use Rattle.print.specs.Page.{page, put, PrintedWhole}
use Rattle.print.proofs.PageLaws.{printed, printed_whole}
use Rattle.week.specs.Week.{site_limit, week_of}
use Rattle.week.specs.declared.Week.{Week}
use Rattle.sheet_text.specs.Sheet.{sums_text, sites_of, sheet_text, sums_limit}
use Rattle.sheet_text.proofs.SheetLaws.{sites_length}
use Rattle.sheet_text.proofs.Theorems.{week_sums_fit, written_is_the_sheet}
use Rattle.sheet.specs.Made.{MakesASheet}
use Rattle.sheet.specs.declared.Made.{Made}

pub writes_a_sheet : {sites : ℕ} {before after : List ℕ} {r : Made} (m : MakesASheet sites before after r) → sites ≤ site_limit
    → (sums sums' : List ℕ) (written : ℕ) → sums_limit ≤ length sums → page sums' written ≡ put (page sums 0) (sums_text r.week)
    → take written sums' ++ take r.past after ≡ sheet_text m.named
writes_a_sheet m l sums sums' written room e = written_is_the_sheet m.named whole m.remarks
  where
    week : Week
    week = week_of (sites_of m.named)

    whole : PrintedWhole (sums_text week) sums sums' written
    whole =
        printed_whole (omega (arith, room, week_sums_fit (sites_of m.named) (omega (arith, sites_length m.named, m.as_many, l))))
        (printed (sums_text week) sums sums' written (e ∙ ap (λ (w : Week). put (page sums 0) (sums_text w)) m.sums))
