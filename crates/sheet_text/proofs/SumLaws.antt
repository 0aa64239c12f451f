-- The fields of a share, the lines of the flows and the lines below them, put one behind the other, are the sums of a week.
use Prim.Native.Nat.{ℕ, suc, ◌+◌, ◌<◌}
use native.Mathlib.Omega.{arith}
use mathlib.Core.List.{List, [], ◌∷◌, ◌++◌, append-nil, append_assoc}
use mathlib.Core.Path.{◌≡◌, sym, ap, ◌∙◌, subst}
use lib.ListN.{length, get_or, take}
use lib.Seq.{length-take-le}
use Rattle.std.proofs.lemmas.List.{take_more}
use Rattle.model.specs.Limits.{flow_limit}
use Rattle.lines.specs.Text.{bytes}
use Rattle.lines.specs.Written.{field}
use Rattle.print.specs.Puts.{Puts}
use Rattle.print.specs.declared.Page.{Page as Held}
use Rattle.print.proofs.PutsLaws.{puts_nothing, puts_behind}
use Rattle.shares.specs.declared.Share.{Share}
use Rattle.week.specs.declared.Week.{Week}
use Rattle.sheet_text.specs.Sheet.{share_text, flow_lines, sums_text}

module _ {p q r s t : Held ℕ} where
  pub share_printed : (x : Share)
      → Puts (field " packets=" x.packets) p q → Puts (field " bytes=" x.bytes) q r → Puts (field " largest=" x.largest) r s → Puts (bytes "\n") s t
      → Puts (share_text x) p t
  unfolding share_text
  share_printed x a b c d = puts_behind (puts_behind (puts_behind a b) c) d

  pub sums_printed : {u v : Held ℕ} (w : Week)
      → Puts (flow_lines 0 w.shares.flows) p q → Puts (field "flows=" flow_limit) q r → Puts (share_text w.shares.total) r s
      → Puts (field "sites=" w.summed) s t → Puts (field " of=" w.sites) t u → Puts (bytes "\n") u v
      → Puts (sums_text w) p v
  unfolding sums_text
  sums_printed w a b c d e f = puts_behind (puts_behind a (puts_behind b c)) (puts_behind (puts_behind d e) f)

-- ---- the flows, line by line

pub no_lines : (p : Held ℕ) → Puts (flow_lines 0 []) p p
unfolding flow_lines
no_lines p = puts_nothing p

flows_snoc : (f : ℕ) (l : List Share) (x : Share) → flow_lines f (l ++ x ∷ []) ≡ flow_lines f l ++ (field "flow=" (f + length l) ++ share_text x)
unfolding flow_lines
flows_snoc f [] x = append-nil (field "flow=" f ++ share_text x) ∙ ap (λ (n : ℕ). field "flow=" n ++ share_text x) (omega arith)
flows_snoc f (y ∷ l) x =
    ap (λ (more : List ℕ). (field "flow=" f ++ share_text y) ++ more)
    (flows_snoc (suc f) l x ∙ ap (λ (n : ℕ). flow_lines (suc f) l ++ (field "flow=" n ++ share_text x)) (omega arith))
    ∙ sym (append_assoc (field "flow=" f ++ share_text y) (flow_lines (suc f) l) (field "flow=" (f + length (y ∷ l)) ++ share_text x))

pub flows_go_on : {p q r s : Held ℕ} (flows : List Share) (f : ℕ) (none : Share) → f < length flows
    → Puts (flow_lines 0 (take f flows)) p q → Puts (field "flow=" f) q r → Puts (share_text (get_or flows f none)) r s
    → Puts (flow_lines 0 (take (f + 1) flows)) p s
flows_go_on {p} {q} {r} {s} flows f none h e a b = subst (λ (text : List ℕ). Puts text p s) (sym on) (puts_behind e (puts_behind a b))
  where
    x : Share
    x = get_or flows f none

    on : flow_lines 0 (take (f + 1) flows) ≡ flow_lines 0 (take f flows) ++ (field "flow=" f ++ share_text x)
    on =
        ap (flow_lines 0) (take_more flows f none h)
        ∙ flows_snoc 0 (take f flows) x
        ∙ ap (λ (n : ℕ). flow_lines 0 (take f flows) ++ (field "flow=" n ++ share_text x)) (omega (arith, length-take-le f flows (omega arith)))
