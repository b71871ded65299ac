-- A run leaves output and working room as long as they were: what it writes fits in what it was lent.
use mathlib.Core.Path.{◌≡◌, refl}
use mathlib.Core.Bool.{Bool, true, false}
use mathlib.Core.List.{List}
use Prim.Native.Nat.{ℕ, ◌≤◌}
use native.Mathlib.Omega.{arith}
use borrow.Author.Tests.{ltb-false}
use lib.Dec.{ltb}
use lib.ListN.{length, drop, length-append, length-drop, length-replicate}
use Rattle.meaning.specs.Base.{in_front_of}
use Rattle.meaning.specs.Covers.{Outcome, commit, rolled_back, step_limit, failed}
use Rattle.meaning.specs.ByteLayouts.{image_bytes}
use Rattle.meaning.specs.EntryPoints.{run, result_of, written, cleared, handed_back, verdict, run_output, working_room}
use Rattle.meaning.specs.Runs.{Accepted, ending_of, Spoken, is_refused, is_accepted}
use Rattle.meaning.proofs.RunsFit.{run_sound, run-end-sound}
use Rattle.meaning.proofs.WrittenRead.{image-fits}
use Rattle.meaning.proofs.Theorems.{every-run}
use Rattle.engine.specs.Answers.{Answer, Runs}

in-front-kept : (xs ys : List ℕ) → length xs ≤ length ys → length (in_front_of xs ys) ≡ length ys
in-front-kept xs ys h = omega (arith, length-append xs (drop (length xs) ys), length-drop (length xs) ys)

handed-fits : {image book log : List ℕ} (a : Accepted image book log) (o : Outcome)
    → length (image_bytes (handed_back o a.start (ending_of a).image)) ≤ run_output
unfolding handed_back
handed-fits a commit = image-fits (run-end-sound a)
handed-fits a rolled_back = image-fits (run_sound a)
handed-fits a step_limit = image-fits (run_sound a)
handed-fits a (failed r) = image-fits (run_sound a)

-- what a verdict writes fits
verdict-fits : (image book log : List ℕ)
    → (length (written (verdict image book log)) ≤ run_output) × (length (cleared (verdict image book log)) ≤ working_room)
unfolding written cleared
verdict-fits image book log = go (every-run image book log)
  where
    go : Spoken image book log
        → (length (written (verdict image book log)) ≤ run_output) × (length (cleared (verdict image book log)) ≤ working_room)
    go (is_refused r e) = rw e (omega arith, omega arith)
    go (is_accepted a e) = rw e (handed-fits a (ending_of a).outcome, omega (arith, length-replicate {A = ℕ} working_room 0))

pub run-kept : (image book log output room : List ℕ)
    → (length (run image book log output room).output ≡ length output) × (length (run image book log output room).room ≡ length room)
unfolding run result_of written cleared
run-kept image book log output room = go (ltb (length output) run_output) refl (ltb (length room) working_room) refl
  where
    go : (t : Bool) → ltb (length output) run_output ≡ t → (u : Bool) → ltb (length room) working_room ≡ u
        → (length (run image book log output room).output ≡ length output) × (length (run image book log output room).room ≡ length room)
    go true e u f = rw e (refl, refl)
    go false e true f = rw (e, f) (refl, refl)
    go false e false f =
        let v = verdict image book log in
        let fits = verdict-fits image book log in
        rw (e, f) (
          in-front-kept (written v) output (omega (arith, fits.0, ltb-false (length output) run_output e)),
          in-front-kept (cleared v) room (omega (arith, fits.1, ltb-false (length room) working_room f)),
        )

-- as its contract tells it
module _ {image book log before after xs ys : List ℕ} {r : Answer} (runs : Runs image book log before after xs ys r) where
  pub output-kept : length after ≡ length before
  output-kept = rw runs.result at (run-kept image book log before xs).0

  pub room-kept : length ys ≡ length xs
  room-kept = rw runs.result at (run-kept image book log before xs).1
