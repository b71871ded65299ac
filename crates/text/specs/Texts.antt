-- What printing the answer for an input leaves in all that it was lent.
use Rattle.std.specs.Prelude.{◌≡◌, List, ℕ, ltb, length, take, drop, if◌then◌else◌}
use Rattle.meaning.specs.EntryPoints.{RunResult, run, result_of, refused, input_too_long, most_input, first_part, printed}
use Rattle.lines.specs.Text.{Puts}

-- the run of image, book and log, one after another; an input that is too long is refused before, and changes nothing
unfoldable pub run_on : List ℕ → List ℕ → List ℕ → RunResult
run_on input output room =
    let more = drop (first_part input) input in
    if ltb most_input (length input) then result_of (refused input_too_long) output room else
    run (take (first_part input) input) (take (first_part more) more) (drop (first_part more) more) output room

-- what is printed stands at the front of the output; image and working room are what the run leaves
pub record Texts (input image image' room room' out out' : List ℕ) (n : ℕ) : Type 0 where
  pub puts : Puts out out' (printed input) n
  pub image_left : image' ≡ (run_on input image room).output
  pub room_left : room' ≡ (run_on input image room).room
