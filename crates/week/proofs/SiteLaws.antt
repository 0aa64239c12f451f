-- What is said of a site, and what it adds.
--     follows_when, follows_only_when   `follows` finds out whether an output is the transcript of its events
--     following, differing              what is said of a site, and what it adds, in each case
--     as_read                           a site of which so much is read that more makes no difference
use Prim.Native.Nat.{ℕ, ◌<◌}
use native.Mathlib.Omega.{arith}
use mathlib.Core.Bool.{Bool, true, false, cond}
use mathlib.Core.List.{List, []}
use mathlib.Core.Path.{◌≡◌, refl, ap, ap₂, ◌∙◌}
use lib.ListN.{length, take}
use Rattle.model.specs.declared.Sent.{Sent}
use Rattle.play.specs.Story.{Report}
use Rattle.play.specs.Transcript.{input_limit, output_limit, text_of, reports, transcript}
use Rattle.play.specs.Log.{departures_in, ending_in, departures_of, ending_of}
use Rattle.play.proofs.Lengths.{transcript_fits}
use Rattle.play.proofs.Theorems.{read_enough}
use Rattle.week.specs.Site.{Site, files, same, follows, first_difference, followed, verdict_of, adds, is_summed}
use Rattle.week.specs.declared.Verdict.{Verdict}
use Rattle.week.specs.declared.Verdict.TheVariants.{Differs}
use Rattle.week.proofs.CompareLaws.{same_to_itself, same_are_equal, cut_same, cut_difference}

-- ---- an output follows if and only if it is the transcript of its events

module _ (events output : List ℕ) where
  pub follows_when : output ≡ transcript events → follows events output ≡ true
  unfolding follows
  follows_when e = ap (λ (o : List ℕ). same o (transcript events)) e ∙ same_to_itself (transcript events)

  pub follows_only_when : follows events output ≡ true → output ≡ transcript events
  unfolding follows
  follows_only_when e = same_are_equal output (transcript events) e

  pub follows_not : (output ≡ transcript events → ⊥) → follows events output ≡ false
  follows_not n = by_test (follows events output) refl
    where
      by_test : (t : Bool) → follows events output ≡ t → follows events output ≡ false
      by_test true e = absurd (n (follows_only_when e))
      by_test false e = e

  -- ---- each case

  pub record Says (verdict : Verdict) (sent : List Sent) (one : ℕ) : Type 0 where
    pub verdict_is : verdict_of (files events output) ≡ verdict
    pub adds_this : adds (files events output) ≡ sent
    pub counts : is_summed (files events output) ≡ one

  by_test : (t : Bool) → follows events output ≡ t
      → Says (cond t (followed (ending_of events)) (Differs (first_difference output (transcript events)))) (cond t (departures_of events) []) (cond t 1 0)
  unfolding verdict_of adds is_summed
  by_test t e =
      record {
        verdict_is = ap (λ (x : Bool). cond x (followed (ending_of events)) (Differs (first_difference output (transcript events)))) e;
        adds_this = ap (λ (x : Bool). cond x (departures_of events) []) e;
        counts = ap (λ (x : Bool). cond x 1 0) e;
      }

  pub following : output ≡ transcript events → Says (followed (ending_of events)) (departures_of events) 1
  following e = by_test true (follows_when e)

  pub differing : (output ≡ transcript events → ⊥) → Says (Differs (first_difference output (transcript events))) [] 0
  differing n = by_test false (follows_not n)

-- ---- files that are read in part

-- Two sites are alike: the same is said of both, and both add the same.
pub record Alike (s t : Site) : Type 0 where
  pub verdicts : verdict_of s ≡ verdict_of t
  pub added : adds s ≡ adds t
  pub summed : is_summed s ≡ is_summed t

-- all that is asked of events is what their replay reports
abbrev verdict_by : List Report → List ℕ → Verdict
verdict_by told output = cond (same output (text_of told)) (followed (ending_in told)) (Differs (first_difference output (text_of told)))

events_alike : (a b output : List ℕ) → reports a ≡ reports b → Alike (files a output) (files b output)
unfolding verdict_of adds is_summed follows transcript departures_of ending_of
events_alike a b output e =
    record {
      verdicts = ap (λ (told : List Report). verdict_by told output) e;
      added = ap (λ (told : List Report). cond (same output (text_of told)) (departures_in told) []) e;
      summed = ap (λ (told : List Report). cond (same output (text_of told)) 1 0) e;
    }

output_alike : (events output : List ℕ) (room : ℕ) → output_limit < room → Alike (files events (take room output)) (files events output)
unfolding verdict_of adds is_summed follows
output_alike events output room h =
    record {
      verdicts =
          ap₂ (λ (t : Bool) (line : ℕ). cond t (followed (ending_of events)) (Differs line)) equal (cut_difference room output (transcript events) short);
      added = ap (λ (t : Bool). cond t (departures_of events) []) equal;
      summed = ap (λ (t : Bool). cond t 1 0) equal;
    }
  where
    short : length (transcript events) < room
    short = omega (arith, transcript_fits events)

    equal : same (take room output) (transcript events) ≡ same output (transcript events)
    equal = cut_same room output (transcript events) short

pub as_read : (events output : List ℕ) (room space : ℕ) → input_limit < room → output_limit < space → Alike (files (take room events) (take space output)) (files events output)
as_read events output room space h k =
    let e = events_alike (take room events) events (take space output) (read_enough events room h) in
    let o = output_alike events output space k in
    record { verdicts = e.verdicts ∙ o.verdicts; added = e.added ∙ o.added; summed = e.summed ∙ o.summed }
