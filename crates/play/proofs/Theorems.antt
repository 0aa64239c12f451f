-- What the replay writes. `transcribe` asks for room and meets `PrintedWhole`; the program writes as many bytes of the buffer as it answers.
use Prim.Native.Nat.{ℕ, ◌<◌}
use native.Mathlib.Decide.{dec_lt}
use native.Mathlib.Omega.{arith}
use mathlib.Core.Path.{◌≡◌, sym, ap, ap₂, ◌∙◌}
use mathlib.Core.List.{List}
use lib.ListN.{length, take, drop}
use lib.Seq.{length-take-le, take_all, take-append_seam}
use Rattle.print.specs.Page.{PrintedWhole}
use Rattle.play.specs.Transcript.{input_limit, reports, transcript}
use Rattle.play.proofs.PlayLaws.{too_long_reports}

-- What is printed whole stands at the start of the buffer.
pub stands_at_the_start : (text : List ℕ) {before after : List ℕ} {n : ℕ} → PrintedWhole text before after n → take n after ≡ text
stands_at_the_start text {before} p = ap₂ (λ (m : ℕ) (l : List ℕ). take m l) p.counted p.written ∙ take-append_seam text (drop (length text) before)

-- The bytes written are the transcript of the input.
pub writes_the_transcript : (input : List ℕ) {before after : List ℕ} {n : ℕ} → PrintedWhole (transcript input) before after n → take n after ≡ transcript input
writes_the_transcript input p = stands_at_the_start (transcript input) p

-- Of an input that is too long no more counts than that it is: a part that is longer than an input may be tells the same.
pub read_enough : (input : List ℕ) (room : ℕ) → input_limit < room → reports (take room input) ≡ reports input
read_enough input room h =
    elim (dec_lt room (length input)) [
      | yes more ↦ too_long_reports (take room input) (omega (arith, length-take-le room input (omega arith))) ∙ sym (too_long_reports input (omega arith))
      | no less ↦ ap reports (take_all room input (omega arith))
    ]
