-- What request 2026-01 asks of a week of sites.
--     counted_if_it_follows, follows_if_counted   a site is in the sums if and only if its output is the transcript of its events
--     left_out_adds_nothing                       any other site adds nothing
--     longer_is_left_out                          so does one whose output is longer than any transcript
--     unread_takes, site_takes, run_is_the_week   over any run of the calls the week is that of the sites
--     flow_is_that_of_departures, total_is_that_of_departures   the numbers of a week are those of the departures
--     flows_make_the_total                        and the flows' numbers add up to the total
--     sums_at_most                                the largest that a number of 64 sites can be
--     flow_at_most_total                          a flow's are no larger than the total's
--     line_at_most                                and so is the line that is told of a site
use Prim.Native.Nat.{ℕ, ◌+◌, ◌<◌, ◌≤◌}
use native.Mathlib.Omega.{arith}
use mathlib.Core.Bool.{Bool, true, false, cond}
use mathlib.Core.List.{List, []}
use mathlib.Core.Path.{◌≡◌, refl, ap}
use lib.ListN.{length, get_or}
use Rattle.std.proofs.Common.{Ok, Err}
use Rattle.model.specs.Limits.{flow_limit}
use Rattle.play.specs.Transcript.{output_limit, transcript}
use Rattle.play.specs.Log.{Ending, departures_of, ending_of}
use Rattle.play.proofs.Lengths.{line_told, transcript_fits, bad_line_small}
use Rattle.shares.specs.Share.{of_flow, share_of, shares_of}
use Rattle.shares.specs.declared.Share.{Share}
use Rattle.shares.proofs.ShareLaws.{flow_share, flow_at_most, total_at_most}
use Rattle.shares.proofs.Totals.{packets_in, bytes_in, largest_in, flows_add_up}
use Rattle.week.specs.Site.{Site, events_unread, output_unread, files, follows, first_difference, followed, verdict_of, adds, is_summed}
use Rattle.week.specs.Week.{site_limit, departures_over, week_of}
use Rattle.week.specs.Runs.{Takes, Run, new, one_more}
use Rattle.week.specs.declared.Verdict.{Verdict}
use Rattle.week.specs.declared.Verdict.TheVariants.{Follows, Ended, Differs, EventsUnread, OutputUnread}
use Rattle.week.proofs.CompareLaws.{few_feeds}
use Rattle.week.proofs.SiteLaws.{follows_only_when, following, differing}
use Rattle.week.specs.Reading.{ReadOf, GivesUnread, GivesSite}
use Rattle.week.specs.declared.Week.{Week}
use Rattle.week.proofs.WeekLaws.{in_range, few, judged_week}

module _ (events output : List ℕ) where
  pub counted_if_it_follows : output ≡ transcript events → (is_summed (files events output) ≡ 1) × (adds (files events output) ≡ departures_of events)
  counted_if_it_follows e = let says = following events output e in (says.counts, says.adds_this)

  pub follows_if_counted : is_summed (files events output) ≡ 1 → output ≡ transcript events
  unfolding is_summed
  follows_if_counted e = by_test (follows events output) refl e
    where
      by_test : (t : Bool) → follows events output ≡ t → ◌≡◌ {A = ℕ} (cond t 1 0) 1 → output ≡ transcript events
      by_test true h k = follows_only_when events output h
      by_test false h k = absurd (omega (arith, k))

  pub left_out_adds_nothing : (output ≡ transcript events → ⊥) → (is_summed (files events output) ≡ 0) × (adds (files events output) ≡ [])
  left_out_adds_nothing n = let says = differing events output n in (says.counts, says.adds_this)

  pub longer_is_left_out : output_limit < length output → (is_summed (files events output) ≡ 0) × (adds (files events output) ≡ [])
  longer_is_left_out h = left_out_adds_nothing (λ e. omega (arith, ap length e, transcript_fits events))

-- What the calls promise is such a step, and over any run of them the week is that of the sites.
pub unread_takes : {w r : Week} → GivesUnread w r → Takes events_unread w r × Takes output_unread w r
unread_takes g = (λ sites e. (g sites e).0, λ sites e. (g sites e).1)

pub site_takes : {w : Week} {r : Week × Verdict} (buffer : List ℕ) (n : ℕ) (space : List ℕ) (m : ℕ) (events output : List ℕ)
    → GivesSite w buffer n space m r → ReadOf events buffer n → ReadOf output space m → Takes (files events output) w r.0
site_takes buffer n space m events output g h k sites e = judged_week sites (files events output) (g sites events output e h k)

pub run_is_the_week : {sites : List Site} {w : Week} → Run sites w → w ≡ week_of sites
run_is_the_week (new e) = e
run_is_the_week (one_more site r takes) = takes _ (run_is_the_week r)

module _ (sites : List Site) where
  pub flow_is_that_of_departures : (f : ℕ) (none : Share) → f < flow_limit → get_or (week_of sites).shares.flows f none ≡ share_of (of_flow f (departures_over sites))
  unfolding week_of shares_of
  flow_is_that_of_departures f none h = flow_share flow_limit (departures_over sites) f none h

  pub total_is_that_of_departures : (week_of sites).shares.total ≡ share_of (departures_over sites)
  unfolding week_of shares_of
  total_is_that_of_departures = refl

  pub flows_make_the_total : (packets_in (week_of sites).shares.flows ≡ (week_of sites).shares.total.packets)
      × (bytes_in (week_of sites).shares.flows ≡ (week_of sites).shares.total.bytes)
      × (largest_in (week_of sites).shares.flows ≡ (week_of sites).shares.total.largest)
  unfolding week_of
  flows_make_the_total = flows_add_up (departures_over sites) (in_range sites)

  pub sums_at_most : length sites ≤ site_limit
      → ((week_of sites).shares.total.packets ≤ 262_144) × ((week_of sites).shares.total.bytes ≤ 67_108_864) × ((week_of sites).shares.total.largest ≤ 256)
  unfolding week_of shares_of
  sums_at_most h =
      let total = total_at_most (departures_over sites) (in_range sites) in
      (omega (arith, total.0, few sites), omega (arith, total.1, few sites), total.2)

  pub flow_at_most_total : (f : ℕ) → ((share_of (of_flow f (departures_over sites))).packets ≤ (week_of sites).shares.total.packets)
      × ((share_of (of_flow f (departures_over sites))).bytes ≤ (week_of sites).shares.total.bytes)
      × ((share_of (of_flow f (departures_over sites))).largest ≤ (week_of sites).shares.total.largest)
  unfolding week_of shares_of
  flow_at_most_total f = flow_at_most f (departures_over sites)

-- The line that a verdict tells, 0 where it tells none, is a line of the longest output or the one behind it.
abbrev pub line_of_verdict : Verdict → ℕ
line_of_verdict Follows = 0
line_of_verdict (Ended line) = line
line_of_verdict (Differs line) = line
line_of_verdict EventsUnread = 0
line_of_verdict OutputUnread = 0

line_of_followed : (e : Ending) → line_of_verdict (followed e) ≡ line_told e
line_of_followed (Ok x) = refl
line_of_followed (Err bad_line) = refl

pub line_at_most : (s : Site) → line_of_verdict (verdict_of s) ≤ output_limit + 1
unfolding verdict_of first_difference
line_at_most events_unread = omega arith
line_at_most output_unread = omega arith
line_at_most (files events output) = by_test (follows events output)
  where
    by_test : (t : Bool) → line_of_verdict (cond t (followed (ending_of events)) (Differs (first_difference output (transcript events)))) ≤ output_limit + 1
    by_test true = omega (arith, line_of_followed (ending_of events), bad_line_small events)
    by_test false = omega (arith, few_feeds output (transcript events), transcript_fits events)
