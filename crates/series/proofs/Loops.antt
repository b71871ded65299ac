-- A loop that reads one thing after another and runs each: what is left to read, run from the room now, does what all of it does from the
-- room at the start. So it is with the operations of a log and with the actions of a rule; and what they make fits.
use Rattle.std.specs.Prelude.{Ok, Err}
use Rattle.std.specs.Result.{IsErrAnd}
use mathlib.Core.Path.{◌≡◌, refl}
use mathlib.Core.List.{List, [], ◌∷◌}
use Prim.Native.Nat.{ℕ, ◌+◌, ◌-◌, ◌≤◌, ◌<◌}
use native.Mathlib.Omega.{arith}
use native.Mathlib.Numerals.{unary_clauses}
use Rattle.meaning.specs.Reading.{Parser, bad, got}
use Rattle.meaning.specs.Covers.{Image, LogOperation, Action}
use Rattle.meaning.specs.ByteLayouts.{operation, action}
use Rattle.meaning.specs.Processing.{run_log, run_actions}
use Rattle.meaning.specs.Processing.Actions.{Result, went, and_then, operate, perform}
use Rattle.meaning.specs.Processing.TransitionTables.{Transition}
use Rattle.meaning.proofs.ActionsFit.{operate-made, perform-made, RangedTables}
use Rattle.meaning.proofs.StepsFit.{run_log-made, run_actions-made}
use Rattle.meaning.proofs.RunsFit.{operation-gives, action-gives}
use Rattle.words.specs.Words.{readable}
use Rattle.words.proofs.Laws.{readable-none, readable-bad, readable-more, readable-each}
use Rattle.book.specs.declared.Actions.{Actions}
use Rattle.book.specs.Books.{actions_meant}
use Rattle.room.specs.Represents.{Running}
use Rattle.changes.specs.declared.Stop.{Stop}
use Rattle.changes.specs.Steps.{Step, Acts}
use Rattle.series.proofs.Composed.{Makes, Onward, onward-start, onward-done, onward-more, onward-ends}

-- ---- Things run in order

pub record Series {A : Type 0} (step : A → Image → Result) (run : List A → Image → Result) : Type 0 where
  pub nothing : run [] ≡ (λ m. went [])
  pub more : (a : A) (others : List A) → run (a ∷ others) ≡ (λ m. and_then m (step a m) (run others))

pub log-series : Series operate run_log
unfolding run_log
log-series = record { nothing = refl; more = λ q qs. refl }

pub actions-series : (t : Transition) → Series (perform t) (run_actions t)
unfolding run_actions
actions-series t = record { nothing = refl; more = λ a others. refl }

-- ---- The loop

-- of `count` things from a place on, those that are left once `done` were run, from here on
pub record Left {A : Type 0} (p : Parser A) (run : List A → Image → Result) (s xs ys : List ℕ)
    (count from done here : ℕ) : Type 0 where
  pub onward : Onward xs ys (run (readable count p s from)) (run (readable (count - done) p s here))

pub left-start : {A : Type 0} (p : Parser A) (run : List A → Image → Result) (s : List ℕ) {xs : List ℕ}
    (count from : ℕ) → Running xs → Left p run s xs xs count from 0 from
left-start p run s count from running = record { onward = simp unary_clauses (onward-start (run (readable count p s from)) running) }

module _ {A : Type 0} {p : Parser A} {step : A → Image → Result} {run : List A → Image → Result} {s xs ys : List ℕ}
    {count from done here : ℕ} (series : Series step run) (l : Left p run s xs ys count from done here) where
  left-nothing : readable (count - done) p s here ≡ [] → Acts xs ys (run (readable count p s from)) (Ok tt)
  left-nothing e = onward-done (rw (e, series.nothing) at l.onward)

  pub left-done : count ≤ done → Acts xs ys (run (readable count p s from)) (Ok tt)
  left-done h = left-nothing (readable-none p (count - done) s here (omega arith))

  pub left-bad : p s here ≡ bad → Acts xs ys (run (readable count p s from)) (Ok tt)
  left-bad e = left-nothing (readable-bad p (count - done) s here e)

  module _ {a : A} {next : ℕ} (some : done < count) (e : p s here ≡ got a next) where
    then-rest : Onward xs ys (run (readable count p s from)) (λ m. and_then m (step a m) (run (readable (count - (done + 1)) p s next)))
    then-rest =
        let one_less : count - done - 1 ≡ count - (done + 1) = omega arith in
        rw (
          readable-more p (count - done) s here a next (omega arith) e,
          series.more a (readable (count - done - 1) p s next),
          one_less,
        )
        at l.onward

    pub left-more : {zs : List ℕ} → Makes (step a) → Acts ys zs (step a) (Ok tt) → Left p run s xs zs count from (done + 1) next
    left-more makes acts = record { onward = onward-more (run (readable (count - (done + 1)) p s next)) then-rest makes acts }

    -- the end is passed on as it is
    pub left-ends : {zs : List ℕ} {stop : Stop} → Acts ys zs (step a) (Err stop) → (out : Step)
        → IsErrAnd out (λ passed. passed ≡ stop) → Acts xs zs (run (readable count p s from)) out
    left-ends acts (Ok t) is = absurd is
    left-ends acts (Err passed) is = rw is (onward-ends (run (readable (count - (done + 1)) p s next)) then-rest acts)

-- ---- What they make

module _ (s : List ℕ) (at : ℕ) {q : LogOperation} {next : ℕ} (e : operation s at ≡ got q next) where
  pub operation-makes : Makes (operate q)
  operation-makes = record { fit = λ m sound. operate-made q m (operation-gives.fit e) sound }

module _ {t : Transition} (tables : RangedTables t) (triggers : ℕ) (s : List ℕ) (at : ℕ) {a : Action} {next : ℕ}
    (e : action triggers s at ≡ got a next) where
  pub action-makes : Makes (perform t a)
  action-makes = record { fit = λ m sound. perform-made t a m tables ((action-gives triggers).fit e) sound }

pub log-makes : (s : List ℕ) (count at : ℕ) → Makes (run_log (readable count operation s at))
log-makes s count at =
    record { fit = λ m sound. run_log-made (readable count operation s at) m (readable-each operation-gives count s at) sound }

pub actions-make : {t : Transition} → RangedTables t → (s : List ℕ) (triggers : ℕ) (a : Actions)
    → Makes (run_actions t (actions_meant s triggers a))
unfolding actions_meant
actions-make {t} tables s triggers a =
    let good = readable-each (action-gives triggers) a.count s a.first in
    record { fit = λ m sound. run_actions-made t (readable a.count (action triggers) s a.first) m tables good sound }
