-- What is left of an input, in the loop of `replay`, leads to the whole transcript.
use Rattle.std.specs.Prelude.{Option, Some, None}
use Prim.Native.Nat.{ℕ, ◌+◌, ◌*◌, ◌-◌, ◌^◌, ◌<◌, ◌≤◌}
use native.Mathlib.Omega.{arith}
use mathlib.Core.Bool.{Bool, true, false, cond}
use mathlib.Core.List.{List, [], ◌∷◌, ◌++◌}
use mathlib.Core.Path.{◌≡◌, refl, sym, ap, ap₂, subst, ◌∙◌}
use denote.Ref.{Bor}
use lib.Dec.{leb}
use lib.ListN.{length}
use borrow.Author.Tests.{lt-ltb, le-ltb, leb-true, leb-false}
use Rattle.std.proofs.Common.{Ok, Err}
use Rattle.model.specs.Model.{Scheduler}
use Rattle.model.proofs.Keeps.{new_keeps}
use Rattle.lines.specs.Line.{line_at}
use Rattle.lines.specs.Written.{largest, Sayable}
use Rattle.lines.specs.declared.Event.{Event}
use Rattle.lines.specs.declared.Event.TheVariants.{Flow, Arrive, Send}
use Rattle.lines.proofs.Lines.{moves_on, nothing_else_is_read}
use Rattle.reader.specs.Reader.{next_of}
use Rattle.reader.specs.declared.Reader.{Reader}
use Rattle.reader.proofs.ReaderLaws.{event_taken, nothing_taken}
use Rattle.order.specs.Encoding.{view}
use Rattle.order.specs.Promised.{NewGives}
use Rattle.order.specs.State.{State}
use Rattle.order.proofs.StateLaws.{seen_as}
use Rattle.play.specs.Course.{asked, Desk, desk, reported, Goes, Tells}
use Rattle.play.specs.Log.{Ending, departures_in, ending_in, departures_of, ending_of, log_of}
use Rattle.print.specs.Page.{Page, page}
use Rattle.print.specs.Puts.{Puts}
use Rattle.print.specs.declared.Page.{Page as Held}
use Rattle.play.specs.Script.{script_from, script_of}
use Rattle.play.specs.Story.{Report, bad, Replay, Happening, new_replay, happening, story}
use Rattle.play.specs.Transcript.{input_limit, line_of, text_of, reports, transcript}
use Rattle.play.specs.declared.Told.{Told}
use Rattle.print.proofs.PageLaws.{printed}
use Rattle.print.proofs.PutsLaws.{Over, over_put}
use Rattle.play.proofs.LogLaws.{reported_append, nothing_reported, bad_reported, goes_on}
use Rattle.play.proofs.ScriptLaws.{ends, rest, rest_reads, rest_spoils}
use Rattle.play.proofs.StoryLaws.{replay, departed_at_most}

-- ---- too long an input, and any other

pub too_long_reports : (input : List ℕ) → input_limit < length input → reports input ≡ bad 0 ∷ []
unfolding reports
too_long_reports input h = ap (λ (t : Bool). cond t (bad 0 ∷ []) (story new_replay 1 (script_of input))) (lt-ltb input_limit (length input) h)

pub short_reports : (input : List ℕ) → length input ≤ input_limit → reports input ≡ story new_replay 1 (script_of input)
unfolding reports
short_reports input h = ap (λ (t : Bool). cond t (bad 0 ∷ []) (story new_replay 1 (script_of input))) (le-ltb input_limit (length input) h)

-- ---- the whole replay

module _ (input : List ℕ) {out log out' log' : List ℕ} (sheet notes sheet' notes' : Held ℕ) (r : Told) (p : Over out out' sheet sheet') (n : Over log log' notes notes') where
  -- What the pages hold in the end, and how the replay ended, are what it tells.
  pub tells : desk sheet' notes' ≡ reported (desk sheet notes) (reports input) → r.written ≡ sheet'.past → r.noted ≡ notes'.past → r.ending ≡ ending_of input
      → Tells input out log r out' log'
  unfolding reported transcript departures_of
  tells e w m f =
      record {
        printed = printed (text_of (reports input)) out out' r.written (over_put _ p (ap (λ (k : Desk). k.printed) e) w);
        noted = printed (log_of (departures_in (reports input))) log log' r.noted (over_put _ n (ap (λ (k : Desk). k.log) e) m);
        ended = f;
      }

pub too_long_tells : (input : List ℕ) {out log out' log' : List ℕ} (sheet notes sheet' : Held ℕ) (past : ℕ) → Over out out' sheet sheet' → Over log log' notes notes
    → input_limit < length input → Puts (line_of (bad 0)) sheet sheet' → past ≡ sheet'.past
    → Tells input out log (record { written = past; noted = 0; ending = Err (record { 0 = 0 }) }) out' log'
unfolding ending_of ending_in
too_long_tells input sheet notes sheet' past p n h e w =
    tells input sheet notes sheet' notes _ p n
    (bad_reported notes 0 e ∙ ap (reported (desk sheet notes)) (sym (too_long_reports input h)))
    w
    (sym (ap (λ (k : Page ℕ). k.past) n.empty))
    (ap ending_in (sym (too_long_reports input h)))

-- ---- the loop

-- The replay's reader has come to a place of the input. Every line before it asked for at most 65,535 departures.
pub record Plays (goal : Desk) (end : Ending) (input : List ℕ) (page log : Held ℕ) (c : Replay) (reader : Reader) (line : ℕ) : Type 0 where
  pub reads : reader.input.now ≡ input
  pub place : reader.at ≤ length input
  pub line_small : line ≤ reader.at + 1
  pub sent_small : c.departed ≤ reader.at * largest
  pub reports : reported (desk page log) (story c line (rest input reader.at)) ≡ goal
  pub ends : ending_in (story c line (rest input reader.at)) ≡ end

pub plays_begin : (text : Bor (List ℕ)) (page log : Held ℕ) (s : State) → length text.now ≤ input_limit → NewGives s → (reader : Reader) → reader ≡ record { input = text; at = 0 }
    → Plays (reported (desk page log) (reports text.now)) (ending_of text.now) text.now page log (replay (view s) 0) reader 1
unfolding new_replay script_of ending_of
plays_begin text page log s short g reader first =
    subst Begun (sym first)
    (record {
      reads = refl;
      place = omega arith;
      line_small = omega arith;
      sent_small = omega arith;
      reports = ap (reported (desk page log)) whole;
      ends = ap ending_in whole;
    })
  where
    input : List ℕ
    input = text.now

    Begun : Reader → Type 0
    Begun r = Plays (reported (desk page log) (reports input)) (ending_of input) input page log (replay (view s) 0) r 1

    all : length input - 0 ≡ length input
    all = omega arith

    whole : story (replay (view s) 0) 1 (rest input 0) ≡ reports input
    whole = ap₂ (λ (m : Scheduler) (n : ℕ). story (replay m 0) 1 (script_from n input 0)) (seen_as new_keeps g.outcome) all ∙ sym (short_reports input short)

module _ {goal : Desk} {end : Ending} {input : List ℕ} {page log : Held ℕ} {c : Replay} {reader : Reader} where
  pub counted_as : {line n : ℕ} → line ≡ n → Plays goal end input page log c reader n → Plays goal end input page log c reader line
  counted_as e h = subst (λ (k : ℕ). Plays goal end input page log c reader k) (sym e) h

  -- No input has so many lines that they could not be counted.
  pub lines_left : {line : ℕ} → Plays goal end input page log c reader line → length input ≤ input_limit → 2 ^ 64 - 1 - line ≡ 0 → ⊥
  lines_left h short e = omega (arith, h.place, h.line_small)

asked_at_most : (event : Event) → Sayable event → asked event ≤ largest
asked_at_most (Flow flow weight) h = omega arith
asked_at_most (Arrive flow size) h = omega arith
asked_at_most (Send count) h = h

module _ {goal : Desk} {end : Ending} {input : List ℕ} {page log : Held ℕ} {c : Replay} {reader : Reader} {line : ℕ} (h : Plays goal end input page log c reader line)
    {at_end : Bool} (t : at_end ≡ leb (length reader.input.now) reader.at) where
  -- What is left of the story, once it is known.
  leads : {l : List Report} → story c line (rest input reader.at) ≡ l → (reported (desk page log) l ≡ goal) × (ending_in l ≡ end)
  leads e = (ap (reported (desk page log)) (sym e) ∙ h.reports, ap ending_in (sym e) ∙ h.ends)

  pub plays_end : at_end ≡ true → (desk page log ≡ goal) × (Ok tt ≡ end)
  unfolding story ending_in
  plays_end e =
      let past : length input ≤ reader.at = rw h.reads at (leb-true (length reader.input.now) reader.at (sym t ∙ e)) in
      let l = leads (ap (story c line) (ends input (length input - reader.at) reader.at past)) in
      (sym (nothing_reported (desk page log)) ∙ l.0, l.1)

  module _ (more : at_end ≡ false) {taken : Option Event} {after : Reader} (n : ◌≡◌ {A = Option Event × Reader} (taken, after) (next_of reader)) where
    within : reader.at < length input
    within = rw h.reads at (leb-false (length reader.input.now) reader.at (sym t ∙ more))

    pub plays_bad : {page' : Held ℕ} → taken ≡ None → Puts (line_of (bad line)) page page'
        → (desk page' log ≡ goal) × (Err (record { 0 = line }) ≡ end)
    unfolding story ending_in
    plays_bad e f =
        let bad_there : line_at input reader.at ≡ None = rw h.reads at (nothing_taken reader n e) in
        let l = leads (ap (story c line) (rest_spoils input reader.at within bad_there)) in
        (bad_reported log line f ∙ l.0, l.1)

    module _ {event : Event} (e : taken ≡ Some event) (short : length input ≤ input_limit) where
      line_there : line_at input reader.at ≡ Some (event, after.at)
      line_there = rw h.reads at (event_taken reader n e).0

      on : (reader.at < after.at) × (after.at ≤ length input)
      on = moves_on input reader.at line_there

      few_asked : asked event ≤ largest
      few_asked = asked_at_most event (nothing_else_is_read input reader.at line_there).0

      pub may_run : c.departed + asked event < 2 ^ 64
      may_run = omega (arith, few_asked, h.sent_small)

      pub plays_on : {page' log' : Held ℕ} {d : Replay} → Goes page log (happening c line event) d page' log' → Plays goal end input page' log' d after (line + 1)
      unfolding story
      plays_on {page'} {log'} {d} g =
          record {
            reads = ap (λ (text : Bor (List ℕ)). text.now) (event_taken reader n e).1 ∙ h.reads;
            place = on.1;
            line_small = omega (arith, on.0, h.line_small);
            sent_small = few;
            reports =
                ap₂ (λ (k : Desk) (r : Replay). reported k (story r (line + 1) (rest input after.at))) g.reports g.arrives
                ∙ sym (reported_append (desk page log) x.reports further)
                ∙ left.0;
            ends = ap (λ (r : Replay). ending_in (story r (line + 1) (rest input after.at))) g.arrives ∙ sym (goes_on c line event further) ∙ left.1;
          }
        where
          x : Happening
          x = happening c line event

          further : List Report
          further = story x.after (line + 1) (rest input after.at)

          left : (reported (desk page log) (x.reports ++ further) ≡ goal) × (ending_in (x.reports ++ further) ≡ end)
          left = leads (ap (story c line) (rest_reads input reader.at within line_there))

          sent_is : d.departed ≡ x.after.departed
          sent_is = ap (λ (r : Replay). r.departed) g.arrives

          few : d.departed ≤ after.at * largest
          few = omega (arith, sent_is, departed_at_most c line event, few_asked, h.sent_small, on.0)
