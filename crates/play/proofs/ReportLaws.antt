-- The fields of a line, put one behind the other, are the line of a report.
use Prim.Native.Nat.{ℕ}
use Rattle.model.specs.declared.Sent.{Sent}
use Rattle.lines.specs.Text.{bytes}
use Rattle.lines.specs.Written.{field}
use Rattle.print.specs.Puts.{Puts}
use Rattle.print.specs.declared.Page.{Page as Held}
use Rattle.print.proofs.PutsLaws.{puts_behind}
use Rattle.play.specs.Story.{bad, refused, sent, idle}
use Rattle.play.specs.Transcript.{reply_text, line_of}

module _ {p q r : Held ℕ} where
  pub bad_printed : (line : ℕ) → Puts (field "bad=" line) p q → Puts (bytes "\n") q r → Puts (line_of (bad line)) p r
  unfolding line_of
  bad_printed line a b = puts_behind a b

  pub idle_printed : (n : ℕ) → Puts (field "idle=" n) p q → Puts (bytes "\n") q r → Puts (line_of (idle n)) p r
  unfolding line_of
  idle_printed n a b = puts_behind a b

  module _ {s : Held ℕ} where
    pub refused_printed : (k line : ℕ) → Puts (field "refused=" k) p q → Puts (field " line=" line) q r → Puts (bytes "\n") r s → Puts (line_of (refused k line)) p s
    unfolding line_of
    refused_printed k line a b c = puts_behind (puts_behind a b) c

    pub reply_printed : {t : Held ℕ} (d : Sent)
        → Puts (field " flow=" d.flow) p q → Puts (field " size=" d.size) q r → Puts (field " mark=" d.mark) r s → Puts (field " allow=" d.allowance) s t
        → Puts (reply_text d) p t
    unfolding reply_text
    reply_printed d a b c e = puts_behind (puts_behind (puts_behind a b) c) e

    pub sent_printed : (n : ℕ) (d : Sent) → Puts (field "sent=" n) p q → Puts (reply_text d) q r → Puts (bytes "\n") r s → Puts (line_of (sent n d)) p s
    unfolding line_of
    sent_printed n d a b c = puts_behind (puts_behind a b) c
