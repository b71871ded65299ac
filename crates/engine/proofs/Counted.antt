-- No run makes more considerations than a book can allow: a refused run makes none, and an accepted one as many as its book allows at most.
use Rattle.std.specs.Prelude.{Ok}
use mathlib.Core.Path.{◌≡◌, refl}
use mathlib.Core.Bool.{Bool, true, false}
use mathlib.Core.List.{List}
use Prim.Native.Nat.{ℕ, ◌≤◌}
use native.Mathlib.Omega.{arith}
use lib.Dec.{ltb}
use lib.ListN.{length}
use Rattle.meaning.specs.Covers.{most_steps}
use Rattle.meaning.specs.EntryPoints.{run, result_of, answer_of, count_of, verdict, run_output, working_room}
use Rattle.meaning.specs.Runs.{Spoken, is_refused, is_accepted}
use Rattle.meaning.proofs.RunsFit.{run-limit}
use Rattle.meaning.proofs.Theorems.{every-run, is_lawful}
use Rattle.engine.specs.Answers.{answer_meant, Runs}
use Rattle.processing.specs.declared.Ended.{Ended}

verdict-counted : (image book log : List ℕ) → count_of (answer_of (verdict image book log)) ≤ most_steps
unfolding count_of answer_of
verdict-counted image book log = go (every-run image book log)
  where
    go : Spoken image book log → count_of (answer_of (verdict image book log)) ≤ most_steps
    go (is_refused r e) = rw e (omega arith)
    go (is_accepted a e) = rw e (omega (arith, (is_lawful a).within, run-limit a))

pub run-counted : (image book log output room : List ℕ) → count_of (run image book log output room).answer ≤ most_steps
unfolding run result_of count_of answer_of
run-counted image book log output room = go (ltb (length output) run_output) refl (ltb (length room) working_room) refl
  where
    go : (t : Bool) → ltb (length output) run_output ≡ t → (u : Bool) → ltb (length room) working_room ≡ u
        → count_of (run image book log output room).answer ≤ most_steps
    go true e u f = rw e (omega arith)
    go false e true f = rw (e, f) (omega arith)
    go false e false f = rw (e, f) (verdict-counted image book log)

-- as the answer of a run tells it
pub ran-counted : {image book log before after xs ys : List ℕ} {e : Ended} → Runs image book log before after xs ys (Ok e)
    → e.count ≤ most_steps
unfolding answer_meant count_of
ran-counted {image} {book} {log} {before} {after} {xs} r = rw r.result at (run-counted image book log before xs)
