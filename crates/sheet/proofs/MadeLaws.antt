-- A sheet, site by site.
--     unread_events, unread_output, read_files   what is made of a site's files
--     making_begin, making_on, making_end        the sheet of the sites so far
use Prim.Native.Nat.{ℕ, ◌+◌, ◌*◌, ◌≤◌}
use native.Mathlib.Omega.{arith}
use mathlib.Core.List.{List, [], ◌∷◌, ◌++◌}
use mathlib.Core.Path.{◌≡◌, refl, sym, ap, ap₂, ◌∙◌, subst}
use lib.ListN.{length, take, length-append}
use Rattle.print.specs.Puts.{Puts}
use Rattle.print.specs.declared.Page.{Page as Held}
use Rattle.print.proofs.PageLaws.{printed, printed_whole}
use Rattle.print.proofs.PutsLaws.{puts_nothing, puts_behind, Over, over_put}
use Rattle.week.specs.Site.{events_unread, output_unread, files, verdict_of}
use Rattle.week.specs.Week.{site_limit, week_of}
use Rattle.week.specs.Reading.{Sound, GivesUnread, GivesSite, judged_as}
use Rattle.week.specs.declared.Verdict.{Verdict}
use Rattle.week.specs.declared.Verdict.TheVariants.{EventsUnread, OutputUnread}
use Rattle.week.specs.declared.Week.{Week}
use Rattle.week.proofs.Settled.{read_whole}
use Rattle.week.proofs.WeekLaws.{sites_are, judged_week, judged_verdict}
use Rattle.sheet_text.specs.Sheet.{remark_text, Named, sites_of, remarks_after, remark_limit}
use Rattle.sheet_text.proofs.SheetLaws.{sites_snoc, sites_length, remarks_snoc}
use Rattle.sheet_text.proofs.Theorems.{ShortNames, remarks_fit}
use Rattle.sheet.specs.Made.{JudgesASite, RemarksASite, MakesASheet}

-- ---- one site's files

module _ {w r : Week} (u : GivesUnread w r) where
  pub unread_events : JudgesASite w (r, EventsUnread)
  unfolding judged_as verdict_of
  unread_events = record { site = events_unread; judged = λ sites e. ap (λ (x : Week). (x, EventsUnread)) (u sites e).0 }

  pub unread_output : JudgesASite w (r, OutputUnread)
  unfolding judged_as verdict_of
  unread_output = record { site = output_unread; judged = λ sites e. ap (λ (x : Week). (x, OutputUnread)) (u sites e).1 }

pub read_files : {w : Week} {r : Week × Verdict} (events output : List ℕ) (n m : ℕ) → n ≤ length events → m ≤ length output
    → GivesSite w events n output m r → JudgesASite w r
read_files events output n m h k j =
    record {
      site = files (take n events) (take m output);
      judged = λ sites e. j sites (take n events) (take m output) e (read_whole events n h) (read_whole output m k);
    }

-- ---- all sites

short_snoc : (week : List Named) (n : Named) → ShortNames week → length n.name ≤ 4_096 → ShortNames (week ++ n ∷ [])
unfolding ShortNames
short_snoc [] n s h = (h, tt)
short_snoc (m ∷ week) n s h = (s.0, short_snoc week n s.1 h)

-- The sheet of the sites so far, the remarks put behind one another on a page.
pub record Making (first : Held ℕ) (site : ℕ) (page : Held ℕ) (week : Week) : Type 0 where
  pub named : List Named
  pub as_many : length named ≡ site
  pub short : ShortNames named
  pub sums : week ≡ week_of (sites_of named)
  pub puts : Puts (remarks_after 0 named) first page

pub making_begin : (first : Held ℕ) {week : Week} → week ≡ week_of [] → Making first 0 first week
unfolding ShortNames sites_of remarks_after
making_begin first e = record { named = []; as_many = refl; short = tt; sums = e; puts = puts_nothing first }

module _ {first page : Held ℕ} {site : ℕ} {week : Week} (h : Making first site page week) where
  pub making_sites : week.sites ≡ site
  making_sites = sites_are (sites_of h.named) h.sums ∙ sites_length h.named ∙ h.as_many

  pub making_sound : site ≤ site_limit → Sound week
  making_sound l = record { over = sites_of h.named; is = h.sums; within = omega (arith, sites_length h.named, h.as_many) }

  pub making_on : {r : Week × Verdict} {page' : Held ℕ} → JudgesASite week r → RemarksASite (site + 1) r.1 page page' → Making first (site + 1) page' r.0
  making_on {r} {page'} j k =
      record {
        named = h.named ++ one ∷ [];
        as_many = omega (arith, length-append h.named (one ∷ []), h.as_many);
        short = short_snoc h.named one h.short k.short;
        sums = judged_week (sites_of h.named) j.site judged ∙ ap week_of (sym (sites_snoc h.named one));
        puts = subst (λ (text : List ℕ). Puts text first page') remarked (puts_behind h.puts k.puts);
      }
    where
      one : Named
      one = record { site = j.site; name = k.name }

      number : site + 1 ≡ 0 + length h.named + 1
      number = omega (arith, h.as_many)

      judged : r ≡ judged_as (sites_of h.named) j.site
      judged = j.judged (sites_of h.named) h.sums

      remarked : remarks_after 0 h.named ++ remark_text (site + 1) r.1 k.name ≡ remarks_after 0 (h.named ++ one ∷ [])
      remarked =
          ap₂ (λ (n : ℕ) (v : Verdict). remarks_after 0 h.named ++ remark_text n v k.name) number (judged_verdict (sites_of h.named) j.site judged)
          ∙ sym (remarks_snoc 0 h.named one)

  pub making_end : (sites : ℕ) {before after : List ℕ} {past : ℕ} → site ≡ sites → sites ≤ site_limit → site_limit * remark_limit ≤ length before → Over before after first page → past ≡ page.past
      → MakesASheet sites before after (record { week = week; past = past })
  making_end sites {before} {after} {past} e l room over p =
      record {
        named = h.named;
        as_many = h.as_many ∙ e;
        sums = h.sums;
        remarks = printed_whole fits (printed (remarks_after 0 h.named) before after past (over_put (remarks_after 0 h.named) over h.puts.puts p));
      }
    where
      fits : length (remarks_after 0 h.named) ≤ length before
      fits = omega (arith, remarks_fit 0 h.named h.short (omega (arith, h.as_many, e, l)), h.as_many, e, l, room)
