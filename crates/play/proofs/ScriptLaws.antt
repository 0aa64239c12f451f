-- The script of an input, line by line. Its bound on the lines never cuts it short.
--     more_lines_allowed   a larger bound gives the same script
use Rattle.std.specs.Prelude.{Option, Some, None}
use Prim.Native.Nat.{ℕ, zero, suc, ◌+◌, ◌-◌, ◌<◌, ◌≤◌}
use native.Mathlib.Decide.{dec_lt}
use native.Mathlib.Omega.{arith}
use mathlib.Core.List.{List}
use mathlib.Core.Path.{◌≡◌, refl, sym, ap, ◌∙◌}
use lib.ListN.{length}
use borrow.Author.Tests.{lt-ltb, le-ltb}
use Rattle.lines.specs.Line.{line_at}
use Rattle.lines.specs.declared.Event.{Event}
use Rattle.lines.proofs.Lines.{moves_on}
use Rattle.play.specs.Script.{Script, ended, spoiled, ◌then◌, script_from, script_of}

module _ (input : List ℕ) where
  -- ---- one line

  pub ends : (most at : ℕ) → length input ≤ at → script_from most input at ≡ ended
  unfolding script_from
  ends zero at h = refl
  ends (suc most) at h = rw (script_from, le-ltb at (length input) h)

  pub reads : (most at : ℕ) {event : Event} {next : ℕ} → at < length input → line_at input at ≡ Some (event, next) → script_from (suc most) input at ≡ event then script_from most input next
  unfolding script_from
  reads most at h e = rw (script_from, lt-ltb at (length input) h, e)

  pub spoils : (most at : ℕ) → at < length input → line_at input at ≡ None → script_from (suc most) input at ≡ spoiled
  unfolding script_from
  spoils most at h e = rw (script_from, lt-ltb at (length input) h, e)

  -- ---- the bound

  pub enough : (k l at : ℕ) → length input ≤ at + k → length input ≤ at + l → script_from k input at ≡ script_from l input at
  enough zero l at h j = ends zero at (omega arith) ∙ sym (ends l at (omega arith))
  enough (suc k) zero at h j = ends (suc k) at (omega arith) ∙ sym (ends zero at (omega arith))
  enough (suc k) (suc l) at h j = by_place (dec_lt at (length input)) (λ next further. enough k l next (omega arith) (omega arith))
    where
      by_line : at < length input → (m : Option (Event × ℕ)) → line_at input at ≡ m
          → ((next : ℕ) → at < next → script_from k input next ≡ script_from l input next) → script_from (suc k) input at ≡ script_from (suc l) input at
      by_line within (Some (event, next)) e again =
          reads k at within e ∙ ap (λ (s : Script). event then s) (again next (moves_on input at e).0) ∙ sym (reads l at within e)
      by_line within None e again = spoils k at within e ∙ sym (spoils l at within e)

      by_place : Dec (at < length input) → ((next : ℕ) → at < next → script_from k input next ≡ script_from l input next) → script_from (suc k) input at ≡ script_from (suc l) input at
      by_place (yes within) again = by_line within (line_at input at) refl again
      by_place (no past) again = ends (suc k) at (omega arith) ∙ sym (ends (suc l) at (omega arith))

  pub more_lines_allowed : (most : ℕ) → length input ≤ most → script_from most input 0 ≡ script_of input
  unfolding script_of
  more_lines_allowed most h = enough most (length input) 0 (omega arith) (omega arith)

  -- ---- the rest of the script, from a place on

  abbrev pub rest : ℕ → Script
  rest at = script_from (length input - at) input at

  module _ (at : ℕ) (within : at < length input) where
    pub rest_reads : {event : Event} {next : ℕ} → line_at input at ≡ Some (event, next) → rest at ≡ event then rest next
    rest_reads {event} {next} e =
        let on = moves_on input at e in
        ap (λ (n : ℕ). script_from n input at) more
        ∙ reads (length input - at - 1) at within e
        ∙ ap (λ (s : Script). event then s) (enough (length input - at - 1) (length input - next) next (omega arith) (omega arith))
      where
        more : length input - at ≡ suc (length input - at - 1)
        more = omega arith

    pub rest_spoils : line_at input at ≡ None → rest at ≡ spoiled
    rest_spoils e = ap (λ (n : ℕ). script_from n input at) more ∙ spoils (length input - at - 1) at within e
      where
        more : length input - at ≡ suc (length input - at - 1)
        more = omega arith
