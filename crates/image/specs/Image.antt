-- The image of a state, as firmware keeps it: the bytes of its flows and its line, and then the round's numbers. An image has one form only, and an image
-- of zeros is a new scheduler.
use Rattle.std.specs.Prelude.{ℕ, zero, suc, ◌+◌, ◌<◌, ◌≡◌, List, ◌∷◌, ◌++◌, get_or, take, drop}
use Rattle.model.specs.declared.Serving.{Serving}
use Rattle.model.specs.declared.Serving.TheVariants.{NoTurn, Turn}
use Rattle.steps.specs.declared.RoundCell.{RoundCell}
use Rattle.layout.specs.Bytes.{digits, number}
use Rattle.layout.specs.Layout.{cells_length}
use Rattle.order.specs.Encoding.{state_with, Sound}
use Rattle.order.specs.State.{State}

-- A number that may be above 255 takes so many bytes.
abbrev pub pair_room : ℕ
pair_room = 2

-- An open turn: its flow and one more, so that 0 tells that none is open; its allowance; bytes sent so far.
unfoldable pub turn_bytes : Serving → List ℕ
turn_bytes NoTurn = 0 ∷ digits pair_room 0 ++ digits pair_room 0
turn_bytes (Turn f allowed sent) = suc f ∷ digits pair_room allowed ++ digits pair_room sent

unfoldable pub round_bytes : RoundCell → List ℕ
round_bytes r = r.length ∷ r.visits ∷ digits pair_room r.mark ++ digits pair_room r.running ++ turn_bytes r.turn

unfoldable pub image_of : State → List ℕ
image_of c = c.cells ++ round_bytes c.round

-- A turn's flow and one more is a byte.
abbrev pub TurnFits : Serving → Type 0
TurnFits NoTurn = Unit
TurnFits (Turn f allowed sent) = f < 255

-- Where the round's numbers lie, and how many bytes there are.
abbrev pub round_start : ℕ
round_start = cells_length

abbrev pub image_length : ℕ
image_length = round_start + 11

abbrev pub pair_in : List ℕ → ℕ → ℕ
pair_in image at = number (take pair_room (drop at image))

-- What is read there.
unfoldable pub turn_from : ℕ → ℕ → ℕ → Serving
turn_from zero allowed sent = NoTurn
turn_from (suc f) allowed sent = Turn f allowed sent

unfoldable pub round_in : List ℕ → RoundCell
round_in image =
    record {
      length = get_or image round_start 0;
      visits = get_or image (round_start + 1) 0;
      mark = pair_in image (round_start + 2);
      running = pair_in image (round_start + 4);
      turn = turn_from (get_or image (round_start + 6) 0) (pair_in image (round_start + 7)) (pair_in image (round_start + 9));
    }

-- The state that an image stands for.
abbrev pub state_in : List ℕ → State
state_in image = state_with (take cells_length image) (round_in image)

-- The premise of every call, which zeros and every image that calls have given meet.
pub record SoundImage (image : List ℕ) : Type 0 where
  pub form : image ≡ image_of (state_in image)
  pub sound : Sound (state_in image)
