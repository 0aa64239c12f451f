-- The round's numbers, where they lie behind the bytes of a state: how many bytes they take, that they are read again as they were laid, and that the
-- code's stores lay them.
use Prim.Native.Nat.{ℕ, suc, ◌+◌, ◌/◌, ◌%◌, ◌<◌}
use mathlib.Core.Path.{◌≡◌, refl, ap, ap₂, sym, ◌∙◌}
use mathlib.Core.List.{List, ◌∷◌, ◌++◌, append-nil}
use native.Mathlib.Omega.{arith}
use native.Mathlib.Numerals.{add-one}
use lib.ListN.{length, get_or, set, take, length-append, length-set, drop_of_length-le}
use lib.Seq.{sets, sets-eq, length-take-le, get_or-append-add, drop-append-add}
use Rattle.model.specs.declared.Serving.{Serving}
use Rattle.model.specs.declared.Serving.TheVariants.{NoTurn, Turn}
use Rattle.steps.specs.declared.RoundCell.{RoundCell}
use Rattle.layout.specs.Bytes.{byte_limit, digits, number}
use Rattle.layout.specs.Layout.{cells_length}
use Rattle.layout.proofs.Bytes.{number_of_digits}
use Rattle.image.specs.Image.{pair_room, pair_in, image_length, turn_bytes, turn_from, round_bytes, round_in}

turn_bytes_length : (t : Serving) → length (turn_bytes t) ≡ 5
unfolding turn_bytes digits
turn_bytes_length NoTurn = refl
turn_bytes_length (Turn f allowed sent) = refl

pub round_bytes_length : (r : RoundCell) → length (round_bytes r) ≡ 11
unfolding round_bytes digits
round_bytes_length r = ap (λ (n : ℕ). suc (suc (suc (suc (suc (suc n)))))) (turn_bytes_length r.turn)

-- Its numbers above 255 have room in two bytes.
abbrev pub pair_limit : ℕ
pair_limit = 65536

abbrev pub NumbersFit : Serving → Type 0
NumbersFit NoTurn = Unit
NumbersFit (Turn f allowed sent) = (allowed < pair_limit) × (sent < pair_limit)

pub record RoundFits (r : RoundCell) : Type 0 where
  pub mark_fits : r.mark < pair_limit
  pub running_fits : r.running < pair_limit
  pub turn_numbers_fit : NumbersFit r.turn

-- What is read behind the first part of a list.
module _ (a b : List ℕ) (n i : ℕ) (long : length a ≡ n) where
  byte_behind : get_or (a ++ b) (n + i) 0 ≡ get_or b i 0
  byte_behind = ap (λ (k : ℕ). get_or (a ++ b) (k + i) 0) (sym long) ∙ get_or-append-add a b i 0

  pair_behind : pair_in (a ++ b) (n + i) ≡ pair_in b i
  pair_behind = ap (λ (k : ℕ). pair_in (a ++ b) (k + i)) (sym long) ∙ ap (λ (l : List ℕ). number (take pair_room l)) (drop-append-add a b i)

turn_again : (t : Serving) → NumbersFit t → turn_from (get_or (turn_bytes t) 0 0) (pair_in (turn_bytes t) 1) (pair_in (turn_bytes t) 3) ≡ t
unfolding turn_bytes turn_from digits
turn_again NoTurn fits = refl
turn_again (Turn f allowed sent) fits =
    ap₂ (λ (n m : ℕ). Turn f n m) (number_of_digits pair_room allowed fits.0) (number_of_digits pair_room sent fits.1)

module _ (cells : List ℕ) (r : RoundCell) (long : length cells ≡ cells_length) where
  byte_there : (i : ℕ) → get_or (cells ++ round_bytes r) (cells_length + i) 0 ≡ get_or (round_bytes r) i 0
  byte_there i = byte_behind cells (round_bytes r) cells_length i long

  pair_there : (i : ℕ) → pair_in (cells ++ round_bytes r) (cells_length + i) ≡ pair_in (round_bytes r) i
  pair_there i = pair_behind cells (round_bytes r) cells_length i long

  pub round_read : RoundFits r → round_in (cells ++ round_bytes r) ≡ r
  unfolding round_in round_bytes digits
  round_read fits =
      let mark = pair_there 2 ∙ number_of_digits pair_room r.mark fits.mark_fits in
      let running = pair_there 4 ∙ number_of_digits pair_room r.running fits.running_fits in
      let turn : (round_in (cells ++ round_bytes r)).turn ≡ r.turn =
      ap (λ (n : ℕ). turn_from n (pair_in (cells ++ round_bytes r) (cells_length + 7)) (pair_in (cells ++ round_bytes r) (cells_length + 9))) (byte_there 6)
      ∙ ap₂ (λ (n m : ℕ). turn_from (get_or (round_bytes r) 6 0) n m) (pair_there 7) (pair_there 9)
      ∙ turn_again r.turn fits.turn_numbers_fit in
      λ i. record { length = byte_there 0 i; visits = byte_there 1 i; mark = mark i; running = running i; turn = turn i }

-- A number's two bytes, each by a store.
pub pair_stored : (image : List ℕ) (at n : ℕ)
    → set (set image at (n % byte_limit)) (at + 1) (n / byte_limit % byte_limit) ≡ sets image at (digits pair_room n)
unfolding digits
pair_stored image at n = ap (λ (k : ℕ). set (set image at (n % byte_limit)) k (n / byte_limit % byte_limit)) (add-one at)

-- Its bytes are stored in three runs: the flow's, the allowance's and those of what was sent.
pub turn_stored : (image : List ℕ) (f allowed sent : ℕ) {first then : List ℕ} → first ≡ sets (set image (cells_length + 6) f) (cells_length + 7) (digits pair_room allowed)
    → then ≡ sets first (cells_length + 9) (digits pair_room sent) → then ≡ sets image (cells_length + 6) (f ∷ digits pair_room allowed ++ digits pair_room sent)
unfolding digits
turn_stored image f allowed sent a b = b ∙ ap (λ (l : List ℕ). sets l (cells_length + 9) (digits pair_room sent)) a

-- Once the first two numbers are stored, there are as many bytes as before.
pub begun_as_long : (image : List ℕ) (r : RoundCell)
    → length (set (set image cells_length r.length) (cells_length + 1) r.visits) ≡ length image
begun_as_long image r = length-set (set image cells_length r.length) (cells_length + 1) r.visits ∙ length-set image cells_length r.length

-- Stores of all that a round has leave the state's bytes before it.
round_laid : (image : List ℕ) (r : RoundCell) → length image ≡ image_length → sets image cells_length (round_bytes r) ≡ take cells_length image ++ round_bytes r
round_laid image r long =
    let all = round_bytes_length r in
    let before = take cells_length image in
    sets-eq (round_bytes r) image cells_length (omega arith)
    ∙ ap (λ (l : List ℕ). before ++ round_bytes r ++ l) (drop_of_length-le image {i = cells_length + length (round_bytes r)} (omega arith))
    ∙ append-nil (before ++ round_bytes r)

pub put_round_length : (image : List ℕ) (r : RoundCell) → length image ≡ image_length → length (take cells_length image ++ round_bytes r) ≡ length image
put_round_length image r long =
    length-append (take cells_length image) (round_bytes r) ∙ omega (arith, length-take-le cells_length image (omega arith), round_bytes_length r)

-- The bytes of a turn, as the code has them.
pub turn_bytes_are : {turn : Serving} (f allowed sent : ℕ) → turn ≡ Turn f allowed sent
    → (f + 1) ∷ digits pair_room allowed ++ digits pair_room sent ≡ turn_bytes turn
unfolding turn_bytes
turn_bytes_are f allowed sent e = ap (λ (n : ℕ). n ∷ digits pair_room allowed ++ digits pair_room sent) (add-one f) ∙ sym (ap turn_bytes e)

pub no_turn_bytes_are : {turn : Serving} → turn ≡ NoTurn → 0 ∷ digits pair_room 0 ++ digits pair_room 0 ≡ turn_bytes turn
unfolding turn_bytes
no_turn_bytes_are e = sym (ap turn_bytes e)

pub round_stored : (image : List ℕ) (r : RoundCell) {marked run then bytes : List ℕ} → length image ≡ image_length
    → marked ≡ sets (set (set image cells_length r.length) (cells_length + 1) r.visits) (cells_length + 2) (digits pair_room r.mark)
    → run ≡ sets marked (cells_length + 4) (digits pair_room r.running) → then ≡ sets run (cells_length + 6) bytes → bytes ≡ turn_bytes r.turn
    → then ≡ take cells_length image ++ round_bytes r
unfolding round_bytes digits
round_stored image r {marked} {run} long a b e t =
    e
    ∙ ap (sets run (cells_length + 6)) t
    ∙ ap (λ (l : List ℕ). sets l (cells_length + 6) (turn_bytes r.turn)) (b ∙ ap (λ (l : List ℕ). sets l (cells_length + 4) (digits pair_room r.running)) a)
    ∙ round_laid image r long
