-- A week with one site more.
--     week_snoc                       what a site adds
--     in_range, few                   the departures of a week are in range and few
--     new_week, unread_week, followed-week, differing_week     what each call gives
--     sound_after                     a week stays sound
use Prim.Native.Nat.{ℕ, suc, ◌+◌, ◌*◌, ◌<◌, ◌≤◌}
use native.Mathlib.Omega.{arith}
use mathlib.Core.Bool.{Bool, true, false, cond}
use mathlib.Core.List.{List, [], ◌∷◌, ◌++◌, append-nil, append_assoc}
use mathlib.Core.Path.{◌≡◌, refl, sym, ap, ap₂, ◌∙◌}
use lib.ListN.{length, take, length-append}
use Rattle.model.specs.declared.Sent.{Sent}
use Rattle.play.specs.Transcript.{input_limit, output_limit, transcript}
use Rattle.play.specs.Log.{departures_of, ending_of, log_of, log_limit, InRange}
use Rattle.play.specs.Course.{Tells}
use Rattle.play.specs.declared.Told.{Told}
use Rattle.play.proofs.Lengths.{at_most_4096_depart, nothing_left_off, no_departure_left_off}
use Rattle.play.proofs.Ranges.{in_range_append, departures_in_range}
use Rattle.play.proofs.Theorems.{stands_at_the_start, writes_the_transcript}
use Rattle.shares.specs.Share.{shares_of}
use Rattle.shares.specs.Reading.{Readable}
use Rattle.shares.specs.declared.Shares.{Shares}
use Rattle.week.specs.Site.{Site, events_unread, output_unread, files, follows, first_difference, followed, verdict_of, adds, is_summed}
use Rattle.week.specs.Week.{site_limit, departures_over, summed_among, week_of}
use Rattle.week.specs.Reading.{Sound, ReadOf, judged_as}
use Rattle.week.specs.declared.Verdict.{Verdict}
use Rattle.week.specs.declared.Verdict.TheVariants.{Differs}
use Rattle.week.specs.declared.Week.{Week}
use Rattle.week.proofs.SiteLaws.{Says, following, differing, Alike, as_read}

-- ---- one site more

pub departures_snoc : (sites : List Site) (s : Site) → departures_over (sites ++ s ∷ []) ≡ departures_over sites ++ adds s
unfolding departures_over
departures_snoc [] s = append-nil (adds s)
departures_snoc (x ∷ sites) s = ap (λ (l : List Sent). adds x ++ l) (departures_snoc sites s) ∙ sym (append_assoc (adds x) (departures_over sites) (adds s))

summed_snoc : (sites : List Site) (s : Site) → summed_among (sites ++ s ∷ []) ≡ summed_among sites + is_summed s
unfolding summed_among
summed_snoc [] s = omega arith
summed_snoc (x ∷ sites) s = omega (arith, summed_snoc sites s)

abbrev week : Shares → ℕ → ℕ → Week
week shares summed sites = record { shares = shares; summed = summed; sites = sites }

pub week_snoc : (sites : List Site) (s : Site) → week_of (sites ++ s ∷ []) ≡ week (shares_of (departures_over sites ++ adds s)) (summed_among sites + is_summed s) (length sites + 1)
unfolding week_of
week_snoc sites s =
    ap₂ (λ (l : List Sent) (n : ℕ). week (shares_of l) n (length (sites ++ s ∷ []))) (departures_snoc sites s) (summed_snoc sites s)
    ∙ ap (week (shares_of (departures_over sites ++ adds s)) (summed_among sites + is_summed s)) (length-append sites (s ∷ []))

-- ---- the parts of a week

module _ {w : Week} (sites : List Site) (e : w ≡ week_of sites) where
  pub shares_are : w.shares ≡ shares_of (departures_over sites)
  unfolding week_of
  shares_are = ap (λ (x : Week). x.shares) e

  pub summed_are : w.summed ≡ summed_among sites
  unfolding week_of
  summed_are = ap (λ (x : Week). x.summed) e

  pub sites_are : w.sites ≡ length sites
  unfolding week_of
  sites_are = ap (λ (x : Week). x.sites) e

-- ---- the departures of a week

adds_in_range : (s : Site) → InRange (adds s)
unfolding adds InRange
adds_in_range events_unread = tt
adds_in_range output_unread = tt
adds_in_range (files events output) = by_test (follows events output)
  where
    by_test : (t : Bool) → InRange (cond t (departures_of events) [])
    by_test true = departures_in_range events
    by_test false = tt

adds_few : (s : Site) → length (adds s) ≤ 4_096
unfolding adds
adds_few events_unread = omega arith
adds_few output_unread = omega arith
adds_few (files events output) = by_test (follows events output)
  where
    by_test : (t : Bool) → length (cond t (departures_of events) []) ≤ 4_096
    by_test true = at_most_4096_depart events
    by_test false = omega arith

pub in_range : (sites : List Site) → InRange (departures_over sites)
unfolding departures_over InRange
in_range [] = tt
in_range (s ∷ sites) = in_range_append (adds s) (departures_over sites) (adds_in_range s) (in_range sites)

pub few : (sites : List Site) → length (departures_over sites) ≤ 4_096 * length sites
unfolding departures_over
few [] = omega arith
few (s ∷ sites) = omega (arith, length-append (adds s) (departures_over sites), adds_few s, few sites)

pub summed_at_most : (sites : List Site) → summed_among sites ≤ length sites
unfolding summed_among is_summed
summed_at_most [] = omega arith
summed_at_most (events_unread ∷ sites) = omega (arith, summed_at_most sites)
summed_at_most (output_unread ∷ sites) = omega (arith, summed_at_most sites)
summed_at_most (files events output ∷ sites) = by_test (follows events output) (summed_at_most sites)
  where
    by_test : (t : Bool) → summed_among sites ≤ length sites → cond t 1 0 + summed_among sites ≤ suc (length sites)
    by_test true h = omega arith
    by_test false h = omega arith

-- ---- what the calls give

pub new_week : {shares : Shares} → shares ≡ shares_of [] → week shares 0 0 ≡ week_of []
unfolding week_of departures_over summed_among
new_week e = ap (λ (s : Shares). week s 0 0) e

-- A site that adds nothing.
left_out : (s : Site) → adds s ≡ [] → is_summed s ≡ 0 → {w : Week} (sites : List Site) → w ≡ week_of sites → week w.shares w.summed (w.sites + 1) ≡ week_of (sites ++ s ∷ [])
left_out s none zero {w} sites e =
    ap₂ (λ (x : Shares) (n : ℕ). week x n (w.sites + 1)) (shares_are sites e ∙ ap shares_of same_departures) same_sum
    ∙ ap (λ (n : ℕ). week (shares_of (departures_over sites ++ adds s)) (summed_among sites + is_summed s) (n + 1)) (sites_are sites e)
    ∙ sym (week_snoc sites s)
  where
    same_departures : departures_over sites ≡ departures_over sites ++ adds s
    same_departures = sym (ap (λ (l : List Sent). departures_over sites ++ l) none ∙ append-nil (departures_over sites))

    same_sum : w.summed ≡ summed_among sites + is_summed s
    same_sum = omega (arith, summed_are sites e, zero)

pub unread_week : {w : Week} (sites : List Site) → w ≡ week_of sites
    → (week w.shares w.summed (w.sites + 1) ≡ week_of (sites ++ events_unread ∷ [])) × (week w.shares w.summed (w.sites + 1) ≡ week_of (sites ++ output_unread ∷ []))
unfolding adds is_summed
unread_week sites e = (left_out events_unread refl refl sites e, left_out output_unread refl refl sites e)

module _ (events output : List ℕ) {w : Week} (sites : List Site) (e : w ≡ week_of sites) where
  abbrev judged_with : Week → Verdict → Week × Verdict
  judged_with x v = (x, v)

  pub differing_week : (output ≡ transcript events → ⊥) → {line : ℕ} → line ≡ first_difference output (transcript events)
      → judged_with (week w.shares w.summed (w.sites + 1)) (Differs line) ≡ judged_as sites (files events output)
  unfolding judged_as
  differing_week n f =
      let says = differing events output n in
      ap₂ judged_with (left_out (files events output) says.adds_this says.counts sites e) (ap Differs f ∙ sym says.verdict_is)

  pub following_week : output ≡ transcript events → {more : Shares} → more ≡ shares_of (departures_over sites ++ departures_of events) → {v : Verdict} → v ≡ followed (ending_of events)
      → judged_with (week more (w.summed + 1) (w.sites + 1)) v ≡ judged_as sites (files events output)
  unfolding judged_as
  following_week o {more} m v =
      ap₂ judged_with
      (ap₂ (λ (x : Shares) (n : ℕ). week x n (w.sites + 1)) (m ∙ ap (λ (l : List Sent). shares_of (departures_over sites ++ l)) (sym says.adds_this)) sum
      ∙ ap (λ (n : ℕ). week (shares_of (departures_over sites ++ adds (files events output))) (summed_among sites + is_summed (files events output)) (n + 1)) (sites_are sites e)
      ∙ sym (week_snoc sites (files events output)))
      (v ∙ sym says.verdict_is)
    where
      says : Says events output (followed (ending_of events)) (departures_of events) 1
      says = following events output o

      sum : w.summed + 1 ≡ summed_among sites + is_summed (files events output)
      sum = omega (arith, summed_are sites e, says.counts)

-- A replay that had room for all has written the transcript and noted every departure.
module _ {events out log : List ℕ} {told : Told} {out' log' : List ℕ} (t : Tells events out log told out' log') where
  pub written_whole : output_limit ≤ length out → take told.written out' ≡ transcript events
  written_whole room = writes_the_transcript events (nothing_left_off events room t.printed)

  pub noted_whole : log_limit ≤ length log → take told.noted log' ≡ log_of (departures_of events)
  noted_whole room = stands_at_the_start (log_of (departures_of events)) (no_departure_left_off events room t.noted)

-- the sites in the sums are among the sites
pub summed_small : {w : Week} → Sound w → w.summed ≤ w.sites
summed_small s = omega (arith, summed_are s.over s.is, sites_are s.over s.is, summed_at_most s.over)

-- The log of a site can be read into the shares of a week that has room for it.
pub readable : {w : Week} {log : List ℕ} (events : List ℕ) → Sound w → w.sites < site_limit → log ≡ log_of (departures_of events) → Readable w.shares log
readable events s room e =
    record {
      before = departures_over s.over;
      more = departures_of events;
      shares_is = shares_are s.over s.is;
      log_is = e;
      before_in_range = in_range s.over;
      more_in_range = departures_in_range events;
      few = omega (arith, few s.over, s.within, at_most_4096_depart events);
    }

-- The two parts of what is judged.
pub judged_week : {r : Week × Verdict} (sites : List Site) (s : Site) → r ≡ judged_as sites s → r.0 ≡ week_of (sites ++ s ∷ [])
unfolding judged_as
judged_week sites s e = ap (λ (x : Week × Verdict). x.0) e

pub judged_verdict : {r : Week × Verdict} (sites : List Site) (s : Site) → r ≡ judged_as sites s → r.1 ≡ verdict_of s
unfolding judged_as
judged_verdict sites s e = ap (λ (x : Week × Verdict). x.1) e

-- Files that are read in part.
alike_judged : (sites : List Site) (s t : Site) → Alike s t → judged_as sites s ≡ judged_as sites t
unfolding judged_as
alike_judged sites s t a =
    ap₂ (λ (w : Week) (v : Verdict). (w, v))
    (week_snoc sites s
    ∙ ap₂ (λ (l : List Sent) (n : ℕ). week (shares_of (departures_over sites ++ l)) (summed_among sites + n) (length sites + 1)) a.added a.summed
    ∙ sym (week_snoc sites t))
    a.verdicts

pub judged_as_read : (sites : List Site) (e o events output : List ℕ) (n m : ℕ) → input_limit < length events → output_limit < length output → ReadOf e events n → ReadOf o output m
    → judged_as sites (files (take n events) (take m output)) ≡ judged_as sites (files e o)
judged_as_read sites e o events output n m h k re ro =
    ap₂ (λ (a b : List ℕ). judged_as sites (files a b)) re ro
    ∙ alike_judged sites (files (take (length events) e) (take (length output) o)) (files e o) (as_read e o (length events) (length output) h k)

-- A week stays sound.
pub sound_after : {w : Week} (s : Sound w) (site : Site) → w.sites < site_limit → {x : Week} → x ≡ week_of (s.over ++ site ∷ []) → Sound x
sound_after s site room e =
    record {
      over = s.over ++ site ∷ [];
      is = e;
      within = omega (arith, length-append s.over (site ∷ []), sites_are s.over s.is, room);
    }
