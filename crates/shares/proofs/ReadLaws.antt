-- The reading of a log, departure by departure: so many are counted, and the rest is still to be read.
--     reads_begin   nothing is counted yet
--     departure     the pair of numbers that the log has of one
--     next          what holds where a departure is to be read
--     reads_on      one departure more is counted
--     reads_end     all are
use Prim.Native.Nat.{ℕ, zero, suc, ◌+◌, ◌*◌, ◌/◌, ◌^◌, ◌<◌, ◌≤◌}
use native.Mathlib.Omega.{arith}
use mathlib.Core.List.{List, [], ◌∷◌, ◌++◌, append-nil, append_assoc}
use mathlib.Core.Path.{◌≡◌, refl, sym, ap, ap₂, ◌∙◌, subst}
use lib.ListN.{length, get_or, set, drop, length-append, replicate}
use lib.Seq.{get_or-append_seam, get_or-append-add, get_or-drop}
use Rattle.std.specs.Simd.{first_chunks}
use Rattle.model.specs.Limits.{flow_limit, size_limit}
use Rattle.model.specs.declared.Sent.{Sent}
use Rattle.play.specs.Log.{log_of, InRange}
use Rattle.play.proofs.LogLaws.{log_append}
use Rattle.play.proofs.Ranges.{in_range_append}
use Rattle.shares.specs.Share.{of_flow, bytes_of, largest_of, share_of, shares_from, shares_of}
use Rattle.shares.specs.Reading.{with_packet, Readable}
use Rattle.shares.specs.declared.Share.{Share}
use Rattle.shares.specs.declared.Shares.{Shares}
use Rattle.shares.proofs.ShareLaws.{share_snoc, flows_snoc, flow_share, flow_at_most, total_at_most}

abbrev none : Share
none = record { packets = 0; bytes = 0; largest = 0 }

pub nothing_sent : (s : Share) → (s.packets ≡ 0) × ((s.bytes ≡ 0) × (s.largest ≡ 0)) → record { flows = replicate flow_limit s; total = s } ≡ shares_of []
unfolding shares_of shares_from of_flow share_of bytes_of largest_of
nothing_sent s e = ap (λ (x : Share). record { flows = replicate flow_limit x; total = x }) is_none
  where
    is_none : s ≡ none
    is_none =
        ap₂ (λ (packets bytes : ℕ). record { packets = packets; bytes = bytes; largest = s.largest }) e.0 e.1.0
        ∙ ap (λ (largest : ℕ). record { packets = 0; bytes = 0; largest = largest }) e.1.1

-- Of the departures in a log, some are counted beside those before.
pub record Counted (before more : List Sent) (flows : List Share) (total : Share) (at : ℕ) : Type 0 where
  pub done : List Sent
  pub rest : List Sent
  pub split : more ≡ done ++ rest
  pub place : at ≡ length (log_of done)
  pub flows_of : flows ≡ shares_from flow_limit 0 (before ++ done)
  pub total_of : total ≡ share_of (before ++ done)

-- Whatever departures the shares and the log are those of.
abbrev pub Reads : List ℕ → List Share → Share → List Share → Share → ℕ → Type 0
Reads log flows₀ total₀ flows total at =
    (before more : List Sent) → flows₀ ≡ shares_from flow_limit 0 before → total₀ ≡ share_of before → log ≡ log_of more → Counted before more flows total at

pub reads_begin : (log : List ℕ) (flows : List Share) (total : Share) → Reads log flows total flows total 0
unfolding log_of
reads_begin log flows total before more e f l =
    record {
      done = [];
      rest = more;
      split = refl;
      place = refl;
      flows_of = e ∙ ap (shares_from flow_limit 0) (sym (append-nil before));
      total_of = f ∙ ap share_of (sym (append-nil before));
    }

-- ---- the departure at a place

-- The two numbers of a departure: the flow and the size.
pub record Departure (log : List ℕ) (at flow size : ℕ) : Type 0 where
  pub within : at < length log
  pub flow_at : flow ≡ get_or log at 0
  pub size_at : size ≡ get_or log (at + 1) 0

numbers_of : (k : ℕ) (log : List ℕ) (i : ℕ) → i < k
    → (get_or (get_or (first_chunks 2 k log) i []) 0 0 ≡ get_or log (2 * i) 0) × (get_or (get_or (first_chunks 2 k log) i []) 1 0 ≡ get_or log (2 * i + 1) 0)
numbers_of zero log i h = absurd (omega arith)
numbers_of (suc k) [] zero h = (refl, refl)
numbers_of (suc k) (x ∷ []) zero h = (refl, refl)
numbers_of (suc k) (x ∷ y ∷ log) zero h = (refl, refl)
numbers_of (suc k) log (suc i) h =
    let all = numbers_of k (drop 2 log) i (omega arith) in
    (all.0 ∙ get_or-drop 2 log (2 * i) 0 ∙ ap (λ (n : ℕ). get_or log n 0) (omega arith), all.1 ∙ get_or-drop 2 log (2 * i + 1) 0 ∙ ap (λ (n : ℕ). get_or log n 0) (omega arith))

pub departure : {log : List ℕ} {departures : List (List ℕ)} {i : ℕ} → departures ≡ first_chunks 2 (length log / 2) log → length departures ≡ length log / 2 → i < length departures
    → Departure log (2 * i) (get_or (get_or departures i []) 0 0) (get_or (get_or departures i []) 1 0)
departure {log} {departures} {i} e f h =
    let numbers = numbers_of (length log / 2) log i (omega arith) in
    record {
      within = omega arith;
      flow_at = ap (λ (l : List (List ℕ)). get_or (get_or l i []) 0 0) e ∙ numbers.0;
      size_at = ap (λ (l : List (List ℕ)). get_or (get_or l i []) 1 0) e ∙ numbers.1;
    }

record Met (log : List ℕ) (at : ℕ) (rest : List Sent) : Type 0 where
  d : Sent
  further : List Sent
  begins : rest ≡ d ∷ further
  flow_is : get_or log at 0 ≡ d.flow
  size_is : get_or log (at + 1) 0 ≡ d.size

met : (log : List ℕ) (at : ℕ) (done rest : List Sent) → log ≡ log_of (done ++ rest) → at ≡ length (log_of done) → at < length log → Met log at rest
unfolding log_of
met log at done [] e p h = absurd (omega (arith, ap length (e ∙ ap log_of (append-nil done))))
met log at done (d ∷ further) e p h =
    record {
      d = d;
      further = further;
      begins = refl;
      flow_is = ap₂ (λ (l : List ℕ) (n : ℕ). get_or l n 0) whole p ∙ get_or-append_seam (log_of done) d.flow (d.size ∷ log_of further) 0;
      size_is = ap₂ (λ (l : List ℕ) (n : ℕ). get_or l (n + 1) 0) whole p ∙ get_or-append-add (log_of done) (d.flow ∷ d.size ∷ log_of further) 1 0;
    }
  where
    whole : log ≡ log_of done ++ (d.flow ∷ d.size ∷ log_of further)
    whole = e ∙ log_append done (d ∷ further)

-- ---- the next departure

pub record Next (flows : List Share) (total : Share) (flow size : ℕ) : Type 0 where
  pub flow_small : flow < flow_limit
  pub share_fits : ((get_or flows flow none).packets + 1 < 2 ^ 64) × ((get_or flows flow none).bytes + size < 2 ^ 64)
  pub total_fits : (total.packets + 1 < 2 ^ 64) × (total.bytes + size < 2 ^ 64)

in_range_first : (l : List Sent) (d : Sent) (further : List Sent) → l ≡ d ∷ further → InRange l → (d.flow < flow_limit) × (d.size ≤ size_limit)
unfolding InRange
in_range_first l d further e h = let k : InRange (d ∷ further) = subst InRange e h in (k.0, k.1)

in_range_parts : (a b : List Sent) → InRange (a ++ b) → InRange a × InRange b
unfolding InRange
in_range_parts [] b h = (tt, h)
in_range_parts (d ∷ a) b h = let p = in_range_parts a b h.2 in ((h.0, h.1, p.0), p.1)

pub flows_are : {s : Shares} (before : List Sent) → s ≡ shares_of before → s.flows ≡ shares_from flow_limit 0 before
unfolding shares_of
flows_are before e = ap (λ (x : Shares). x.flows) e

pub total_is : {s : Shares} (before : List Sent) → s ≡ shares_of before → s.total ≡ share_of before
unfolding shares_of
total_is before e = ap (λ (x : Shares). x.total) e

module _ {s : Shares} {log : List ℕ} {flows : List Share} {total : Share} {at flow size : ℕ} (r : Readable s log) (h : Reads log s.flows s.total flows total at) (p : Departure log at flow size) where
  counted : Counted r.before r.more flows total at
  counted = h r.before r.more (flows_are r.before r.shares_is) (total_is r.before r.shares_is) r.log_is

  here : Met log at counted.rest
  here = met log at counted.done counted.rest (r.log_is ∙ ap log_of counted.split) counted.place p.within

  parts : InRange counted.done × InRange counted.rest
  parts = in_range_parts counted.done counted.rest (subst InRange counted.split r.more_in_range)

  small : (here.d.flow < flow_limit) × (here.d.size ≤ size_limit)
  small = in_range_first counted.rest here.d here.further here.begins parts.1

  -- the departures counted so far
  abbrev sofar : List Sent
  sofar = r.before ++ counted.done

  few : length sofar ≤ 2 ^ 32
  few = omega (arith, length-append r.before counted.done, ap length counted.split, length-append counted.done counted.rest, r.few)

  of_total : ((share_of sofar).packets ≡ length sofar) × ((share_of sofar).bytes ≤ size_limit * length sofar) × ((share_of sofar).largest ≤ size_limit)
  of_total = total_at_most sofar (in_range_append r.before counted.done r.before_in_range parts.0)

  of_flow_is : get_or flows flow none ≡ share_of (of_flow here.d.flow sofar)
  of_flow_is =
      ap₂ (λ (l : List Share) (f : ℕ). get_or l f none) counted.flows_of (p.flow_at ∙ here.flow_is) ∙ flow_share flow_limit sofar here.d.flow none small.0

  pub next : Next flows total flow size
  next =
      let most = flow_at_most here.d.flow sofar in
      record {
        flow_small = omega (arith, p.flow_at, here.flow_is, small.0);
        share_fits = (
          omega (arith, ap (λ (x : Share). x.packets) of_flow_is, most.0, of_total.0, few),
          omega (arith, ap (λ (x : Share). x.bytes) of_flow_is, most.1, of_total.1, few, p.size_at, here.size_is, small.1),
        );
        total_fits = (
          omega (arith, ap (λ (x : Share). x.packets) counted.total_of, of_total.0, few),
          omega (arith, ap (λ (x : Share). x.bytes) counted.total_of, of_total.1, few, p.size_at, here.size_is, small.1),
        );
      }

-- ---- one more, and the end

log_of_one : (d : Sent) → length (log_of (d ∷ [])) ≡ 2
unfolding log_of
log_of_one d = refl

-- nothing is left of a log that is read to its end
nothing_left : (log : List ℕ) (at : ℕ) (done rest : List Sent) → log ≡ log_of (done ++ rest) → at ≡ length (log_of done) → length log < at + 2 → rest ≡ []
unfolding log_of
nothing_left log at done [] e p h = refl
nothing_left log at done (d ∷ further) e p h =
    absurd (omega (arith, ap length (e ∙ log_append done (d ∷ further)), length-append (log_of done) (d.flow ∷ d.size ∷ log_of further)))

module _ {log : List ℕ} {flows₀ : List Share} {total₀ : Share} {flows : List Share} {total : Share} {at : ℕ} (h : Reads log flows₀ total₀ flows total at) where
  pub reads_on : {flow size further : ℕ} → Departure log at flow size → flow < flow_limit → further ≡ at + 2
      → {x y : Share} → x ≡ with_packet (get_or flows flow none) size → y ≡ with_packet total size → Reads log flows₀ total₀ (set flows flow x) y further
  reads_on {flow} {size} {further} p small k {x} {y} e f before more i j l =
      record {
        done = c.done ++ m.d ∷ [];
        rest = m.further;
        split = c.split ∙ ap (λ (k : List Sent). c.done ++ k) m.begins ∙ sym (append_assoc c.done (m.d ∷ []) m.further);
        place = further_on;
        flows_of =
            ap (set flows flow) e
            ∙ ap₂ (λ (n z : ℕ). set flows n (with_packet (get_or flows n none) z)) (p.flow_at ∙ m.flow_is) (p.size_at ∙ m.size_is)
            ∙ ap (λ (k : List Share). set k m.d.flow (with_packet (get_or k m.d.flow none) m.d.size)) c.flows_of
            ∙ flows_snoc flow_limit (before ++ c.done) m.d none flow_small
            ∙ ap (shares_from flow_limit 0) (append_assoc before c.done (m.d ∷ []));
        total_of =
            f
            ∙ ap₂ with_packet c.total_of (p.size_at ∙ m.size_is)
            ∙ sym (share_snoc (before ++ c.done) m.d)
            ∙ ap share_of (append_assoc before c.done (m.d ∷ []));
      }
    where
      c : Counted before more flows total at
      c = h before more i j l

      m : Met log at c.rest
      m = met log at c.done c.rest (l ∙ ap log_of c.split) c.place p.within

      flow_small : m.d.flow < flow_limit
      flow_small = omega (arith, p.flow_at, m.flow_is, small)

      further_on : further ≡ length (log_of (c.done ++ m.d ∷ []))
      further_on = omega (arith, k, c.place, ap length (log_append c.done (m.d ∷ [])), length-append (log_of c.done) (log_of (m.d ∷ [])), log_of_one m.d)

  pub reads_end : length log < at + 2 → (before more : List Sent) → flows₀ ≡ shares_from flow_limit 0 before → total₀ ≡ share_of before → log ≡ log_of more
      → record { flows = flows; total = total } ≡ shares_of (before ++ more)
  unfolding shares_of
  reads_end past before more i j l =
      ap₂ (λ (k : List Share) (t : Share). record { flows = k; total = t }) c.flows_of c.total_of ∙ ap shares_of (ap (λ (k : List Sent). before ++ k) all)
    where
      c : Counted before more flows total at
      c = h before more i j l

      all : c.done ≡ more
      all =
          sym (append-nil c.done)
          ∙ ap (λ (k : List Sent). c.done ++ k) (sym (nothing_left log at c.done c.rest (l ∙ ap log_of c.split) c.place past))
          ∙ sym c.split
