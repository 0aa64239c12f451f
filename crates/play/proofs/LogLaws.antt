-- The departures among reports, how they end, and what reports leave on the two pages of a replay.
--     reported_append    reports one behind the other
--     bad_reported, idle_reported, answer_reported   what is printed of what is no departure
--     sent_reported      a departure, printed and noted
--     buffers_kept       each page keeps its buffer
--     goes_on            no event ends a replay
--     counts_departures  an event counts the departures that it reports
use Prim.Native.Nat.{ℕ, ◌+◌}
use native.Mathlib.Omega.{arith}
use mathlib.Core.Bool.{Bool, true, false, cond}
use mathlib.Core.List.{List, [], ◌∷◌, ◌++◌, append-nil, append_assoc}
use mathlib.Core.Path.{◌≡◌, refl, sym, ap, ap₂, ◌∙◌, subst}
use lib.ListN.{length}
use lib.Dec.{ltb}
use Rattle.model.specs.Calls.{opened, offered, departures}
use Rattle.model.specs.declared.Sent.{Sent}
use Rattle.std.specs.Prelude.{Result, Ok, Err}
use Rattle.model.specs.Replies.{Answer}
use Rattle.model.specs.declared.Refusal.{Refusal}
use Rattle.lines.specs.declared.Event.{Event}
use Rattle.lines.specs.declared.Event.TheVariants.{Flow, Arrive, Send}
use Rattle.print.specs.Page.{Page, put}
use Rattle.print.specs.Puts.{lent, Puts}
use Rattle.print.specs.declared.Page.{Page as Held}
use Rattle.print.proofs.PageLaws.{put_append}
use Rattle.print.proofs.PutsLaws.{puts_nothing}
use Rattle.play.specs.Story.{Report, bad, refused, sent, idle, Replay, refusal, answered, numbered, departing, sending, happening}
use Rattle.play.specs.Transcript.{line_of, text_of}
use Rattle.play.specs.Log.{departures_in, ending_in, log_of}
use Rattle.play.specs.Course.{Desk, desk, reported}
use Rattle.play.proofs.StoryLaws.{text_append, text_of_one}

-- ---- reports one behind the other

pub departures_append : (a b : List Report) → departures_in (a ++ b) ≡ departures_in a ++ departures_in b
unfolding departures_in
departures_append [] b = refl
departures_append (bad line ∷ a) b = departures_append a b
departures_append (refused k line ∷ a) b = departures_append a b
departures_append (sent n d ∷ a) b = ap (λ (l : List Sent). d ∷ l) (departures_append a b)
departures_append (idle n ∷ a) b = departures_append a b

pub log_append : (a b : List Sent) → log_of (a ++ b) ≡ log_of a ++ log_of b
unfolding log_of
log_append [] b = refl
log_append (d ∷ a) b = ap (λ (l : List ℕ). d.flow ∷ d.size ∷ l) (log_append a b)

pub log_length : (l : List Sent) → length (log_of l) ≡ length l + length l
unfolding log_of
log_length [] = refl
log_length (d ∷ l) = omega (arith, log_length l)

-- ---- the two pages

pub reported_append : (k : Desk) (a b : List Report) → reported k (a ++ b) ≡ reported (reported k a) b
unfolding reported
reported_append k a b =
    ap₂ (λ (printed log : Page ℕ). record k { printed = printed; log = log })
    (ap (put k.printed) (text_append a b) ∙ put_append k.printed (text_of a) (text_of b))
    (ap (λ (l : List Sent). put k.log (log_of l)) (departures_append a b)
    ∙ ap (put k.log) (log_append (departures_in a) (departures_in b))
    ∙ put_append k.log (log_of (departures_in a)) (log_of (departures_in b)))

pub nothing_reported : (k : Desk) → reported k [] ≡ k
unfolding reported text_of departures_in log_of put
nothing_reported k = refl

-- Each page keeps its buffer.
pub buffers_kept : (page log page' log' : Held ℕ) (l : List Report) → desk page' log' ≡ reported (desk page log) l → (lent page' ≡ lent page) × (lent log' ≡ lent log)
unfolding reported
buffers_kept page log page' log' l e = (ap (λ (k : Desk). k.printed_in) e, ap (λ (k : Desk). k.noted_in) e)

module _ {page page' : Held ℕ} where
  both_reported : {log log' : Held ℕ} (l : List Report) → Puts (text_of l) page page' → Puts (log_of (departures_in l)) log log' → desk page' log' ≡ reported (desk page log) l
  unfolding reported
  both_reported l e f = cc

  one_reported : {log log' : Held ℕ} (r : Report) → Puts (line_of r) page page' → Puts (log_of (departures_in (r ∷ []))) log log' → desk page' log' ≡ reported (desk page log) (r ∷ [])
  one_reported r e f = both_reported (r ∷ []) (subst (λ (text : List ℕ). Puts text page page') (sym (text_of_one r)) e) f

  pub bad_reported : (log : Held ℕ) (line : ℕ) → Puts (line_of (bad line)) page page' → desk page' log ≡ reported (desk page log) (bad line ∷ [])
  unfolding departures_in log_of
  bad_reported log line e = one_reported (bad line) e (puts_nothing log)

  pub idle_reported : (log : Held ℕ) (n : ℕ) → Puts (line_of (idle n)) page page' → desk page' log ≡ reported (desk page log) (idle n ∷ [])
  unfolding departures_in log_of
  idle_reported log n e = one_reported (idle n) e (puts_nothing log)

  pub answer_reported : {T : Type 0} (log : Held ℕ) (answer : Result T Refusal) (line : ℕ) → Puts (text_of (refusal answer line)) page page' → desk page' log ≡ reported (desk page log) (refusal answer line)
  unfolding departures_in log_of
  answer_reported log (Ok x) line e = both_reported (refusal (Ok x) line) e (puts_nothing log)
  answer_reported {T} log (Err j) line e = both_reported (refusal {T = T} (Err j) line) e (puts_nothing log)

  pub sent_reported : {log log' : Held ℕ} (n : ℕ) (d : Sent) → Puts (line_of (sent n d)) page page' → Puts (d.flow ∷ d.size ∷ []) log log' → desk page' log' ≡ reported (desk page log) (sent n d ∷ [])
  unfolding departures_in log_of
  sent_reported n d e f = one_reported (sent n d) e f

-- ---- what an event reports

pub departures_of_refusal : (answer : Answer) (line : ℕ) → departures_in (refusal answer line) ≡ []
unfolding departures_in
departures_of_refusal (Ok done) line = refl
departures_of_refusal (Err r) line = refl

-- at the end of a `send`
departures_of_idle : (t : Bool) (n : ℕ) → departures_in (cond t (idle n ∷ []) []) ≡ []
unfolding departures_in
departures_of_idle true n = refl
departures_of_idle false n = refl

departures_of_numbered : (n : ℕ) (l : List Sent) → departures_in (numbered n l) ≡ l
unfolding departures_in numbered
departures_of_numbered n [] = refl
departures_of_numbered n (d ∷ l) = ap (λ (more : List Sent). d ∷ more) (departures_of_numbered (n + 1) l)

pub departures_of_sending : (r : Replay) (count : ℕ) → departures_in (sending r count).reports ≡ (departures count r.scheduler).sent
unfolding sending departing
departures_of_sending r count =
    let l = (departures count r.scheduler).sent in
    let t = ltb (length l) count in
    let n = r.departed + length l in
    departures_append (numbered r.departed l) (cond t (idle n ∷ []) [])
    ∙ ap₂ (λ (a b : List Sent). a ++ b) (departures_of_numbered r.departed l) (departures_of_idle t n)
    ∙ append-nil l

sending_counts : (r : Replay) (count : ℕ) → (sending r count).after.departed ≡ r.departed + length (departures count r.scheduler).sent
unfolding sending departing
sending_counts r count = refl

pub counts_departures : (r : Replay) (line : ℕ) (event : Event) → (happening r line event).after.departed ≡ r.departed + length (departures_in (happening r line event).reports)
unfolding happening answered
counts_departures r line (Flow flow weight) = omega (arith, ap length (departures_of_refusal (opened r.scheduler flow weight).reply line))
counts_departures r line (Arrive flow size) = omega (arith, ap length (departures_of_refusal (offered r.scheduler flow size).reply line))
counts_departures r line (Send count) = sending_counts r count ∙ ap (λ (l : List Sent). r.departed + length l) (sym (departures_of_sending r count))

-- ---- how reports end

numbered_goes_on : (n : ℕ) (l : List Sent) (more : List Report) → ending_in (numbered n l ++ more) ≡ ending_in more
unfolding ending_in numbered
numbered_goes_on n [] more = refl
numbered_goes_on n (d ∷ l) more = numbered_goes_on (n + 1) l more

idle_goes_on : (t : Bool) (n : ℕ) (more : List Report) → ending_in (cond t (idle n ∷ []) [] ++ more) ≡ ending_in more
unfolding ending_in
idle_goes_on true n more = refl
idle_goes_on false n more = refl

refusal_goes_on : (answer : Answer) (line : ℕ) (more : List Report) → ending_in (refusal answer line ++ more) ≡ ending_in more
unfolding ending_in
refusal_goes_on (Ok done) line more = refl
refusal_goes_on (Err r) line more = refl

pub goes_on : (r : Replay) (line : ℕ) (event : Event) (more : List Report) → ending_in ((happening r line event).reports ++ more) ≡ ending_in more
unfolding happening answered sending departing
goes_on r line (Flow flow weight) more = refusal_goes_on (opened r.scheduler flow weight).reply line more
goes_on r line (Arrive flow size) more = refusal_goes_on (offered r.scheduler flow size).reply line more
goes_on r line (Send count) more =
    let l = (departures count r.scheduler).sent in
    let t = ltb (length l) count in
    let n = r.departed + length l in
    ap ending_in (append_assoc (numbered r.departed l) (cond t (idle n ∷ []) []) more)
    ∙ numbered_goes_on r.departed l (cond t (idle n ∷ []) [] ++ more)
    ∙ idle_goes_on t n more
