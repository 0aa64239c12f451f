-- The image of a sound state is read again as that state, and has one length; the zeros are the image of a new scheduler, and are what clearing leaves.
use Prim.Native.Nat.{ℕ, zero, suc, ◌+◌, ◌<◌}
use mathlib.Core.Path.{◌≡◌, refl, ap, ap₂, sym, ◌∙◌, subst}
use mathlib.Core.List.{List, [], ◌∷◌, ◌++◌, append-nil}
use native.Mathlib.Omega.{arith}
use native.Mathlib.Nat.{suc-add}
use lib.ListN.{length, get_or, set, drop, replicate, length-append, drop_of_length-le}
use lib.Seq.{take_at, set-get_or}
use Rattle.model.specs.Model.{new_scheduler}
use Rattle.model.specs.declared.Serving.{Serving}
use Rattle.model.specs.declared.Serving.TheVariants.{NoTurn, Turn}
use Rattle.model.proofs.Standing.{TurnFacts, turn_facts}
use Rattle.steps.specs.Cells.{cells, packed, encode_flow}
use Rattle.layout.specs.Bytes.{digits}
use Rattle.layout.specs.Layout.{cells_length, joined, bytes_of}
use Rattle.order.specs.Encoding.{encode, view, state_with, Sound}
use Rattle.order.specs.State.{State}
use Rattle.order.proofs.StateLaws.{bytes_count, round_of_sound}
use Rattle.image.specs.Image.{turn_bytes, TurnFits, round_bytes, image_of, image_length, state_in, SoundImage}
use Rattle.image.proofs.RoundBytes.{round_bytes_length, NumbersFit, RoundFits, round_read}

module _ (c : State) (S : Sound c) where
  facts : (f allowed sent : ℕ) → c.round.turn ≡ Turn f allowed sent → TurnFacts (view c) f allowed sent
  unfolding view
  facts f allowed sent t = turn_facts (view c) S.rules f allowed sent t

  pub turn_fits : TurnFits c.round.turn
  turn_fits = by c.round.turn refl
    where
      by : (t : Serving) → c.round.turn ≡ t → TurnFits t
      by NoTurn e = tt
      by (Turn f allowed sent) e = omega (arith, (facts f allowed sent e).in_reach)

  round_fits : RoundFits c.round
  round_fits =
      let ready = round_of_sound c S in
      record {
        mark_fits = omega (arith, ready.mark_in_range);
        running_fits = omega (arith, ready.running_in_range);
        turn_numbers_fit = by c.round.turn refl;
      }
    where
      by : (t : Serving) → c.round.turn ≡ t → NumbersFit t
      by NoTurn e = tt
      by (Turn f allowed sent) e =
          let known = facts f allowed sent e in
          (omega (arith, known.allowed_in_range), omega (arith, known.allowed_in_range, known.more_may_be_sent))

  pub state_read : state_in (image_of c) ≡ c
  unfolding image_of
  state_read =
      let long = bytes_count c S in
      ap₂ state_with (take_at c.cells (round_bytes c.round) cells_length long) (round_read c.cells c.round long round_fits)

  pub image_sound : SoundImage (image_of c)
  image_sound = record { form = ap image_of (sym state_read); sound = subst Sound (sym state_read) S }

pub sound_image_length : {image : List ℕ} → SoundImage image → length image ≡ image_length
unfolding image_of
sound_image_length {image} S =
    let c = state_in image in
    ap length S.form
    ∙ length-append c.cells (round_bytes c.round)
    ∙ omega (arith, bytes_count c S.sound, round_bytes_length c.round)

pub new_image : replicate image_length 0 ≡ image_of (encode new_scheduler)
unfolding image_of round_bytes turn_bytes digits encode new_scheduler encode_flow packed cells bytes_of joined
new_image = refl

-- The first bytes are zeros, and the rest are as they were.
abbrev pub cleared_to : List ℕ → ℕ → List ℕ
cleared_to l i = replicate i 0 ++ drop i l

pub one_more_cleared : (l : List ℕ) (i : ℕ) → i < length l → set (cleared_to l i) i 0 ≡ cleared_to l (i + 1)
one_more_cleared [] i h = absurd (omega arith)
one_more_cleared (b ∷ l) zero h = refl
one_more_cleared (b ∷ l) (suc i) h =
    ap (λ (k : List ℕ). 0 ∷ k) (one_more_cleared l i (omega arith)) ∙ ap (cleared_to (b ∷ l)) (sym (suc-add i 1))

pub zero_there_already : (l : List ℕ) (i : ℕ) → i < length l → get_or (cleared_to l i) i 0 ≡ 0 → cleared_to l i ≡ cleared_to l (i + 1)
zero_there_already l i h e =
    let there = set-get_or (cleared_to l i) i 0 in
    sym there ∙ ap (set (cleared_to l i) i) e ∙ one_more_cleared l i h

pub all_cleared : (l : List ℕ) (i : ℕ) → i ≡ length l → cleared_to l i ≡ replicate (length l) 0
all_cleared l i e =
    ap (λ (k : List ℕ). replicate i 0 ++ k) (drop_of_length-le l {i = i} (omega arith))
    ∙ append-nil (replicate i 0)
    ∙ ap (λ (n : ℕ). replicate n 0) e
