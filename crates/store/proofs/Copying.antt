-- Copying bytes to the start of others, one by one.
use Prim.Native.Nat.{ℕ, suc, ◌+◌, ◌≤◌, ◌<◌}
use mathlib.Core.Path.{◌≡◌, sym, ap, ◌∙◌}
use mathlib.Core.List.{List, ◌++◌}
use native.Mathlib.Omega.{arith}
use native.Mathlib.Numerals.{add-one}
use lib.ListN.{length, get_or, set, take, drop}
use lib.Seq.{drop-cons, take-suc, take-length, length-take-le, set_at, append_snoc}

-- The first i bytes have been copied.
abbrev pub copied : List ℕ → List ℕ → ℕ → List ℕ
copied dst src i = take i src ++ drop i dst

pub one_more_copied : (dst src : List ℕ) (i : ℕ) → i < length src → length src ≤ length dst
    → set (copied dst src i) i (get_or src i 0) ≡ copied dst src (i + 1)
one_more_copied dst src i here fits =
    ap (λ (l : List ℕ). set (take i src ++ l) i (get_or src i 0)) (drop-cons dst i 0 (omega arith))
    ∙ set_at (take i src) (get_or dst i 0) (drop (suc i) dst) (get_or src i 0) i (length-take-le i src (omega arith))
    ∙ rw (add-one, take-suc src i 0 here) (sym (append_snoc (take i src) (get_or src i 0) (drop (suc i) dst)))

pub all_copied : (dst src : List ℕ) (i : ℕ) → i ≡ length src → copied dst src i ≡ src ++ drop (length src) dst
all_copied dst src i e = ap (copied dst src) e ∙ ap (λ (l : List ℕ). l ++ drop (length src) dst) (take-length src)
