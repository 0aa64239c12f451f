-- Each public call's contract settles its answer and the buffers: no second outcome meets it.
use Prim.Native.Nat.{ℕ}
use mathlib.Core.List.{List}
use mathlib.Core.Path.{◌≡◌, sym, ap, ap₂, ◌∙◌}
use Rattle.print.specs.Page.{Printed, PrintedWhole}
use Rattle.play.specs.Transcript.{transcript}
use Rattle.play.specs.Course.{Tells}
use Rattle.play.specs.declared.Told.{Told}
use Rattle.play.specs.Log.{Ending}

module _ (input : List ℕ) {before one two : List ℕ} {m n : ℕ} where
  pub play_settled : Printed (transcript input) before one m → Printed (transcript input) before two n → (one ≡ two) × (m ≡ n)
  play_settled p q = (p.written ∙ sym q.written, p.counted ∙ sym q.counted)

  pub transcribe_settled : PrintedWhole (transcript input) before one m → PrintedWhole (transcript input) before two n → (one ≡ two) × (m ≡ n)
  transcribe_settled p q = (p.written ∙ sym q.written, p.counted ∙ sym q.counted)

pub tell_settled : (input : List ℕ) {out log out₁ out₂ log₁ log₂ : List ℕ} {r s : Told} → Tells input out log r out₁ log₁ → Tells input out log s out₂ log₂
    → (r ≡ s) × (out₁ ≡ out₂) × (log₁ ≡ log₂)
tell_settled input {r = r} {s = s} p q = (
  same_told (p.printed.counted ∙ sym q.printed.counted) (p.noted.counted ∙ sym q.noted.counted) (p.ended ∙ sym q.ended),
  p.printed.written ∙ sym q.printed.written,
  p.noted.written ∙ sym q.noted.written,
)
  where
    same_told : r.written ≡ s.written → r.noted ≡ s.noted → r.ending ≡ s.ending → r ≡ s
    same_told a b c =
        ap₂ (λ (m n : ℕ). record { written = m; noted = n; ending = r.ending }) a b ∙ ap (λ (e : Ending). record { written = s.written; noted = s.noted; ending = e }) c
