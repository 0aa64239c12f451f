-- No transcript is longer than three times the longest input and a line. Every line that is printed is paid for by bytes of the input, three for one:
-- a departure's line by the line on which its packet arrived.
--     transcript_fits        a buffer of four times the longest input holds every transcript
--     nothing_left_off       so what `play` puts into such a buffer is the whole transcript
--     at_most_4096_depart    no input has more departures
--     bad_line_small         a bad line is a line of the input
--     log_fits               a log of an eighth of the longest input holds them all
--     no_departure_left_off  so such a log notes them all
--     count_within           what is printed lies within the buffer, so that a caller may lend it on
use Rattle.std.specs.Prelude.{Option, Some, None}
use Prim.Native.Nat.{ℕ, zero, suc, ◌+◌, ◌*◌, ◌-◌, ◌^◌, ◌<◌, ◌≤◌}
use native.Mathlib.Decide.{dec_lt}
use native.Mathlib.Omega.{arith}
use mathlib.Core.Bool.{Bool, true, false, cond}
use mathlib.Core.List.{List, [], ◌∷◌, ◌++◌}
use mathlib.Core.Path.{◌≡◌, refl, sym, ap, subst}
use lib.ListN.{length, drop, length-append}
use lib.Dec.{ltb}
use Rattle.std.proofs.Common.{Ok, Err}
use Rattle.model.specs.Model.{Scheduler, flow_at, new_scheduler}
use Rattle.std.specs.Prelude.{Ok, Err}
use Rattle.model.specs.Replies.{Answer, number_of}
use Rattle.model.specs.declared.Refusal.{Refusal}
use Rattle.model.specs.declared.Refusal.TheVariants.{NoSuchFlow, BadWeight, OpenAlready, NotOpen, BadSize, QueueFull, OutShort, StoreWrong, ListShort}
use Rattle.model.specs.Calls.{Departures, unless_refused, open_answer, offer_answer, opened, offered, departed, and_then, departures}
use Rattle.model.specs.Rules.{Rules}
use Rattle.model.specs.declared.Reply.{Reply}
use Rattle.model.specs.declared.Reply.TheVariants.{Departure, Idle, Refused as ReplyRefused}
use Rattle.model.specs.declared.Sent.{Sent}
use Rattle.model.proofs.Keeps.{new_keeps, opened_keeps, offered_keeps, departed_keeps, departures_keep}
use Rattle.model.proofs.Told.{ToldInRange, told_in_range}
use Rattle.model.proofs.Departing.{idle_stays, never_refused}
use Rattle.model.proofs.Waiting.{waiting, nothing_waits, opening_waits, offering_waits, one_less}
use Rattle.lines.specs.Text.{bytes}
use Rattle.lines.specs.Line.{line_at}
use Rattle.lines.specs.Written.{decimal, field, event_text, written}
use Rattle.lines.specs.declared.Event.{Event}
use Rattle.lines.specs.declared.Event.TheVariants.{Flow as FlowLine, Arrive, Send}
use Rattle.lines.proofs.Decimal.{field_length, decimal_begins}
use Rattle.lines.proofs.Lines.{nothing_else_is_read, moves_on}
use Rattle.print.specs.Page.{Printed, PrintedWhole}
use Rattle.print.proofs.PageLaws.{printed_whole}
use Rattle.play.specs.Script.{Script, script_from, script_of}
use Rattle.play.specs.Story.{Report, bad, refused, sent, idle, Replay, Happening, new_replay, answered, numbered, departing, sending, happening, story}
use Rattle.play.specs.Transcript.{input_limit, output_limit, reply_text, line_of, text_of, transcript}
use Rattle.play.specs.Log.{Ending, departures_in, ending_in, departures_of, ending_of, log_of, log_limit}
use Rattle.play.proofs.LogLaws.{departures_append, log_length, counts_departures, goes_on}
use Rattle.play.proofs.PlayLaws.{too_long_reports, short_reports}
use Rattle.play.proofs.ScriptLaws.{ends, reads, spoils}
use Rattle.play.proofs.StoryLaws.{text_append, text_of_one}

-- ---- the lengths of printed lines

-- numbers of at most five digits
abbrev Few : ℕ → Type 0
Few n = n < 10 ^ 5

bad_length : (line : ℕ) → Few line → length (line_of (bad line)) ≤ 10
unfolding line_of
bad_length line h = omega (arith, length-append (field "bad=" line) (bytes "\n"), field_length (bytes "bad=") line 4 h)

idle_length : (n : ℕ) → Few n → length (line_of (idle n)) ≤ 11
unfolding line_of
idle_length n h = omega (arith, length-append (field "idle=" n) (bytes "\n"), field_length (bytes "idle=") n 4 h)

refused_length : (k line : ℕ) → k < 10 → Few line → length (line_of (refused k line)) ≤ 21
unfolding line_of
refused_length k line l h =
    omega (
      arith,
      length-append (field "refused=" k ++ field " line=" line) (bytes "\n"),
      length-append (field "refused=" k) (field " line=" line),
      field_length (bytes "refused=") k 0 l,
      field_length (bytes " line=") line 4 h,
    )

sent_length : (n : ℕ) (s : Scheduler) (d : Sent) → Few n → ToldInRange s d → length (line_of (sent n d)) ≤ 48
unfolding line_of reply_text
sent_length n s d h L =
    let flow = field " flow=" d.flow in
    let size = flow ++ field " size=" d.size in
    let mark = size ++ field " mark=" d.mark in
    omega (
      arith,
      length-append (field "sent=" n ++ reply_text d) (bytes "\n"),
      length-append (field "sent=" n) (reply_text d),
      length-append mark (field " allow=" d.allowance),
      length-append size (field " mark=" d.mark),
      length-append flow (field " size=" d.size),
      field_length (bytes "sent=") n 4 h,
      field_length (bytes " flow=") d.flow 1 (omega (arith, L.flow_in_range)),
      field_length (bytes " size=") d.size 2 (omega (arith, L.size_in_range)),
      field_length (bytes " mark=") d.mark 2 (omega (arith, L.mark_in_range)),
      field_length (bytes " allow=") d.allowance 3 (omega (arith, L.allowance_in_range)),
    )

-- ---- the lengths of the lines that are read

some_digit : (n : ℕ) → 1 ≤ length (decimal n)
some_digit n = let b = decimal_begins n in omega (arith, ap length b.2)

pair_length : (a b : List ℕ) (m n : ℕ) → length a + length b + 3 ≤ length ((a ++ decimal m) ++ (b ++ decimal n) ++ bytes "\n")
pair_length a b m n =
    omega (
      arith,
      length-append ((a ++ decimal m) ++ (b ++ decimal n)) (bytes "\n"),
      length-append (a ++ decimal m) (b ++ decimal n),
      length-append a (decimal m),
      length-append b (decimal n),
      some_digit m,
      some_digit n,
    )

-- what an event costs at least
cost : Event → ℕ
cost (FlowLine flow weight) = 16
cost (Arrive flow size) = 16
cost (Send count) = 7

written_length : (event : Event) → cost event ≤ length (written event)
unfolding written event_text cost
written_length (FlowLine flow weight) = pair_length (bytes "flow=") (bytes " weight=") flow weight
written_length (Arrive flow size) = pair_length (bytes "arrive=") (bytes " size=") flow size
written_length (Send count) = omega (arith, length-append (bytes "send=" ++ decimal count) (bytes "\n"), length-append (bytes "send=") (decimal count), some_digit count)

-- ---- one event

-- A refusal's number has one digit.
one_digit : (r : Refusal) → number_of r < 10
one_digit NoSuchFlow = omega arith
one_digit BadWeight = omega arith
one_digit OpenAlready = omega arith
one_digit NotOpen = omega arith
one_digit BadSize = omega arith
one_digit QueueFull = omega arith
one_digit OutShort = omega arith
one_digit StoreWrong = omega arith
one_digit ListShort = omega arith

-- What an event prints is paid for: 48 bytes for each packet that no longer waits, and three for each byte of its line. The departures and the
-- packets that wait are together no more than the lines on which packets can have arrived.
record Pays (r : Replay) (x : Happening) (line-bytes : ℕ) : Type 0 where
  pub printed : length (text_of x.reports) + 48 * waiting x.after.scheduler ≤ 48 * waiting r.scheduler + 3 * line-bytes
  pub counted : 16 * (x.after.departed + waiting x.after.scheduler) ≤ 16 * (r.departed + waiting r.scheduler) + line-bytes
  pub keeps : Rules x.after.scheduler

unless_pays : (r : Replay) (line : ℕ) (a : Answer) (t : Scheduler) → Few line → waiting t ≤ waiting r.scheduler + 1 → Rules (unless_refused a r.scheduler t).state
    → Pays r (answered r line (unless_refused a r.scheduler t)) 16
unfolding answered unless_refused text_of
unless_pays r line (Ok done) t f w R = record { printed = omega arith; counted = omega arith; keeps = R }
unless_pays r line (Err k) t f w R =
    record {
      printed = omega (arith, ap length (text_of_one (refused (number_of k) line)), refused_length (number_of k) line (one_digit k) f);
      counted = omega arith;
      keeps = R;
    }

open_pays : (r : Replay) (line flow weight : ℕ) → Rules r.scheduler → Few line → Pays r (answered r line (opened r.scheduler flow weight)) 16
unfolding opened
open_pays r line flow weight R f =
    unless_pays r line (open_answer flow weight (flow_at r.scheduler flow)) _ f (opening_waits r.scheduler flow weight) (opened_keeps r.scheduler flow weight R)

offer_pays : (r : Replay) (line flow size : ℕ) → Rules r.scheduler → Few line → Pays r (answered r line (offered r.scheduler flow size)) 16
unfolding offered
offer_pays r line flow size R f =
    unless_pays r line (offer_answer flow size (flow_at r.scheduler flow)) _ f (offering_waits r.scheduler flow size) (offered_keeps r.scheduler flow size R)

-- Departures are each paid for by the packet that left: n were made before them, and `d` is what they give.
record Departs (n : ℕ) (s : Scheduler) (d : Departures) : Type 0 where
  pub printed : length (text_of (numbered n d.sent)) + 48 * waiting d.state ≤ 48 * waiting s
  pub counted : length d.sent + waiting d.state ≤ waiting s

departs : (count n : ℕ) (s : Scheduler) → Rules s → Few (n + waiting s) → Departs n s (departures count s)
unfolding departures and_then numbered text_of
departs zero n s R f = record { printed = omega arith; counted = omega arith }
departs (suc count) n s R f =
    by_reply (departed s).reply refl (λ less. departs count (n + 1) (departed s).state (departed_keeps s R) (omega arith))
  where
    after : Scheduler
    after = (departed s).state

    by_reply : (r : Reply) → (departed s).reply ≡ r → (waiting after < waiting s → Departs (n + 1) after (departures count after)) → Departs n s (and_then r after (departures count after))
    by_reply (Departure d) e more =
        let less = one_less s R d e in
        let rest = more less in
        record {
          printed =
              omega (
                arith,
                length-append (line_of (sent (n + 1) d)) (text_of (numbered (n + 1) (departures count after).sent)),
                sent_length (n + 1) s d (omega arith) (told_in_range s R d e),
                rest.printed,
              );
          counted = omega (arith, rest.counted);
        }
    by_reply Idle e more = let same = ap waiting (idle_stays s e) in record { printed = omega arith; counted = omega arith }
    by_reply (ReplyRefused k) e more = absurd (never_refused s k e)

send_pays : (r : Replay) (count : ℕ) → Rules r.scheduler → Few (r.departed + waiting r.scheduler) → Pays r (sending r count) 7
unfolding sending departing text_of
send_pays r count R f =
    record {
      printed =
          omega (
            arith,
            ap length (text_append (numbered r.departed d.sent) (ending met)),
            length-append (text_of (numbered r.departed d.sent)) (text_of (ending met)),
            D.printed,
            ending_length met,
          );
      counted = omega (arith, D.counted);
      keeps = departures_keep count r.scheduler R;
    }
  where
    d : Departures
    d = departures count r.scheduler

    D : Departs r.departed r.scheduler d
    D = departs count r.departed r.scheduler R f

    met : Bool
    met = ltb (length d.sent) count

    ending : Bool → List Report
    ending t = cond t (idle (r.departed + length d.sent) ∷ []) []

    ending_length : (t : Bool) → length (text_of (ending t)) ≤ 11
    ending_length true =
        omega (arith, ap length (text_of_one (idle (r.departed + length d.sent))), idle_length (r.departed + length d.sent) (omega (arith, D.counted)))
    ending_length false = omega arith

event_pays : (r : Replay) (line : ℕ) (event : Event) → Rules r.scheduler → Few line → Few (r.departed + waiting r.scheduler) → Pays r (happening r line event) (cost event)
unfolding happening cost
event_pays r line (FlowLine flow weight) R l f = open_pays r line flow weight R l
event_pays r line (Arrive flow size) R l f = offer_pays r line flow size R l
event_pays r line (Send count) R l f = send_pays r count R f

-- ---- the whole replay

-- the line that an ending tells
abbrev pub line_told : Ending → ℕ
line_told (Ok x) = 0
line_told (Err bad_line) = bad_line.0

-- What is reported from a place on is short, its departures with those before it are few, and it ends in a line of the input.
record Bound (input : List ℕ) (at : ℕ) (r : Replay) (l : List Report) : Type 0 where
  pub printed : length (text_of l) ≤ 48 * waiting r.scheduler + 3 * (length input - at) + 10
  pub departing : 16 * (r.departed + length (departures_in l)) ≤ length input
  pub ending : line_told (ending_in l) ≤ length input

abbrev Bounded : ℕ → List ℕ → ℕ → ℕ → Replay → Type 0
Bounded most input at line r = Bound input at r (story r line (script_from most input at))

story_bound : (most : ℕ) (input : List ℕ) (at line : ℕ) (r : Replay) → length input ≤ input_limit → at ≤ length input → line ≤ at + 1 → Rules r.scheduler
    → 16 * (r.departed + waiting r.scheduler) ≤ at
    → Bounded most input at line r
unfolding script_from story text_of departures_in ending_in
story_bound zero input at line r short place l R c = record { printed = omega arith; departing = omega arith; ending = omega arith }
story_bound (suc most) input at line r short place l R c =
    by_place (dec_lt at (length input)) (λ event next further within P j. story_bound most input next (line + 1) (happening r line event).after short within (omega arith) P.keeps j)
  where
    Again : Type 0
    Again = (event : Event) (next : ℕ) → at < next → next ≤ length input → Pays r (happening r line event) (cost event)
        → 16 * ((happening r line event).after.departed + waiting (happening r line event).after.scheduler) ≤ next
        → Bounded most input next (line + 1) (happening r line event).after

    known : {s : Script} → script_from (suc most) input at ≡ s → Bound input at r (story r line s) → Bounded (suc most) input at line r
    known e h = subst (λ (s : Script). Bound input at r (story r line s)) (sym e) h

    by_line : at < length input → Again → (m : Option (Event × ℕ)) → line_at input at ≡ m → Bounded (suc most) input at line r
    by_line within again (Some (event, next)) e =
        let on = moves_on input at e in
        let read = (nothing_else_is_read input at e).1.ends in
        let P = event_pays r line event R (omega arith) (omega arith) in
        let x = happening r line event in
        let rest = story x.after (line + 1) (script_from most input next) in
        let B = again event next on.0 on.1 P (omega (arith, P.counted, read, written_length event)) in
        known (reads input most at within e)
        (record {
          printed =
              omega
              (arith, ap length (text_append x.reports rest), length-append (text_of x.reports) (text_of rest), P.printed, read, written_length event, on.1, B.printed);
          departing =
              omega (
                arith,
                ap length (departures_append x.reports rest),
                length-append (departures_in x.reports) (departures_in rest),
                counts_departures r line event,
                B.departing,
              );
          ending = omega (arith, ap line_told (goes_on r line event rest), B.ending);
        })
    by_line within again None e =
        known (spoils input most at within e)
        (record { printed = omega (arith, ap length (text_of_one (bad line)), bad_length line (omega arith)); departing = omega arith; ending = omega arith })

    by_place : Dec (at < length input) → Again → Bounded (suc most) input at line r
    by_place (yes within) again = by_line within again (line_at input at) refl
    by_place (no past) again = known (ends input (suc most) at (omega arith)) (record { printed = omega arith; departing = omega arith; ending = omega arith })

whole_bound : (input : List ℕ) → length input ≤ input_limit → Bound input 0 new_replay (story new_replay 1 (script_of input))
unfolding new_replay new_scheduler script_of
whole_bound input short = story_bound (length input) input 0 1 new_replay short (omega arith) (omega arith) new_keeps (omega (arith, nothing_waits))

transcript_length : (input : List ℕ) → length (transcript input) ≤ 3 * input_limit + 10
unfolding transcript new_replay new_scheduler
transcript_length input =
    elim (dec_lt input_limit (length input)) [
      | yes long ↦ omega (arith, ap (λ (l : List Report). length (text_of l)) (too_long_reports input long), ap length (text_of_one (bad 0)), bad_length 0 (omega arith))
      | no short ↦ omega (arith, ap (λ (l : List Report). length (text_of l)) (short_reports input (omega arith)), (whole_bound input (omega arith)).printed, nothing_waits)
    ]

-- A packet that departs has arrived on a line of 16 bytes at least.
few_depart : (input : List ℕ) → 16 * length (departures_of input) ≤ input_limit
unfolding departures_of departures_in new_replay
few_depart input =
    elim (dec_lt input_limit (length input)) [
      | yes long ↦ omega (arith, ap (λ (l : List Report). length (departures_in l)) (too_long_reports input long))
      | no short ↦ omega (arith, ap (λ (l : List Report). length (departures_in l)) (short_reports input (omega arith)), (whole_bound input (omega arith)).departing)
    ]

pub bad_line_small : (input : List ℕ) → line_told (ending_of input) ≤ input_limit
unfolding ending_of ending_in new_replay
bad_line_small input =
    elim (dec_lt input_limit (length input)) [
      | yes long ↦ omega (arith, ap (λ (l : List Report). line_told (ending_in l)) (too_long_reports input long))
      | no short ↦ omega (arith, ap (λ (l : List Report). line_told (ending_in l)) (short_reports input (omega arith)), (whole_bound input (omega arith)).ending)
    ]

-- ---- the theorems

pub transcript_fits : (input : List ℕ) → length (transcript input) ≤ output_limit
transcript_fits input = omega (arith, transcript_length input)

pub at_most_4096_depart : (input : List ℕ) → length (departures_of input) ≤ 4_096
at_most_4096_depart input = omega (arith, few_depart input)

pub log_fits : (input : List ℕ) → length (log_of (departures_of input)) ≤ log_limit
log_fits input = omega (arith, log_length (departures_of input), at_most_4096_depart input)

pub nothing_left_off : (input : List ℕ) {before after : List ℕ} {count : ℕ} → output_limit ≤ length before → Printed (transcript input) before after count → PrintedWhole (transcript input) before after count
nothing_left_off input room p = printed_whole (omega (arith, transcript_fits input)) p

pub no_departure_left_off : (input : List ℕ) {before after : List ℕ} {count : ℕ} → log_limit ≤ length before → Printed (log_of (departures_of input)) before after count
    → PrintedWhole (log_of (departures_of input)) before after count
no_departure_left_off input room p = printed_whole (omega (arith, log_fits input)) p

pub count_within : {text before after : List ℕ} {count : ℕ} → PrintedWhole text before after count → count ≤ length after
count_within {text} {before} p = omega (arith, p.counted, ap length p.written, length-append text (drop (length text) before))
