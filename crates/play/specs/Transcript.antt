-- The text that a replay prints: every report is a line.
use Rattle.std.specs.Prelude.{ℕ, ◌*◌, cond, List, [], ◌∷◌, ◌++◌, length, ltb}
use Rattle.model.specs.declared.Sent.{Sent}
use Rattle.lines.specs.Text.{bytes}
use Rattle.lines.specs.Written.{field}
use Rattle.play.specs.Script.{script_of}
use Rattle.play.specs.Story.{Report, bad, refused, sent, idle, new_replay, story}

-- An input has at most 65,536 bytes.
abbrev pub input_limit : ℕ
input_limit = 65_536

-- A buffer of so many bytes holds every transcript, as `transcript_fits` shows.
abbrev pub output_limit : ℕ
output_limit = 4 * input_limit

-- the reply of a departure: its flow, its size, the round's mark and the turn's allowance
unfoldable pub reply_text : Sent → List ℕ
reply_text d = field " flow=" d.flow ++ field " size=" d.size ++ field " mark=" d.mark ++ field " allow=" d.allowance

-- Every printed line ends in a line feed.
unfoldable pub line_of : Report → List ℕ
line_of (bad line) = field "bad=" line ++ bytes "\n"
line_of (refused k line) = field "refused=" k ++ field " line=" line ++ bytes "\n"
line_of (sent n d) = field "sent=" n ++ reply_text d ++ bytes "\n"
line_of (idle n) = field "idle=" n ++ bytes "\n"

unfoldable pub text_of : List Report → List ℕ
text_of [] = []
text_of (r ∷ more) = line_of r ++ text_of more

-- What the replay of an input reports. Too long an input gives only `bad=0`.
unfoldable pub reports : List ℕ → List Report
reports input = cond (ltb input_limit (length input)) (bad 0 ∷ []) (story new_replay 1 (script_of input))

-- What the replay of an input prints.
unfoldable pub transcript : List ℕ → List ℕ
transcript input = text_of (reports input)
