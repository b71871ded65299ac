-- Steps one after another are one step: where the first goes on, its row operations fit, so that the state after it is reached and the
-- second acts on it; where the first ends the run, so do both. A loop keeps what is owed for the rest (`Onward`).
use Rattle.std.specs.Prelude.{Ok, Err}
use mathlib.Core.Path.{◌≡◌, refl, ◌∙◌}
use mathlib.Core.List.{List, [], ◌++◌}
use Prim.Native.Nat.{ℕ}
use lib.ListN.{length}
use Rattle.meaning.specs.Covers.{Image, Outcome}
use Rattle.meaning.specs.RowOperations.{RowOperation}
use Rattle.meaning.specs.Processing.{State}
use Rattle.meaning.specs.Processing.Actions.{Result, went, ends, following, and_then}
use Rattle.meaning.specs.Made.{Sound, Made}
use Rattle.meaning.proofs.ActionsFit.{Breaks, MadeOf, went_made, ends_made}
use Rattle.room.specs.Room.{transition_in}
use Rattle.room.specs.Represents.{Represents, Reached, Running, made_all}
use Rattle.room.proofs.Kept.{kept_refl, kept_trans}
use Rattle.room.proofs.Live.{reached-sound}
use Rattle.room.proofs.Steps.{made_all-none, made_all-append, reached-all}
use Rattle.changes.specs.declared.Stop.{Stop}
use Rattle.changes.specs.Steps.{Step, Follows, goes_on, rolls_back, fails, Acts}

-- ---- What a step makes

-- on a sound image, the row operations of a result fit
pub record Makes (f : Image → Result) : Type 0 where
  pub fit : (m : Image) → Sound m → MadeOf m (f m)

pub went-made : {m : Image} {r : Result} {os : List RowOperation} → MadeOf m r → r ≡ went os → Made m os
went-made {m} {r} {os} g e = go (rw e at g)
  where
    go : MadeOf m (went os) → Made m os
    go (went_made h) = h

pub ends-made : {m : Image} {r : Result} {o : Outcome} {os : List RowOperation} → MadeOf m r → r ≡ ends o os → Breaks o × Made m os
ends-made {m} {r} {o} {os} g e = go (rw e at g)
  where
    go : MadeOf m (ends o os) → Breaks o × Made m os
    go (ends_made b h) = (b, h)

-- ---- A step that goes on

-- the state after it, which is reached
pub record After (start : Image) (s : State) (ys tables : List ℕ) (r : Result) : Type 0 where
  pub new : List RowOperation
  pub is : r ≡ went new
  pub made : Made s.image new
  pub reached : Reached start (made_all new s)
  pub represents : Represents ys tables (made_all new s)

module _ {start : Image} {s : State} {ys tables : List ℕ} (reached : Reached start s) where
  went-after : {r : Result} → MadeOf s.image r → Follows ys tables s r (Ok tt) → After start s ys tables r
  went-after (went_made {os = os} g) (goes_on p) =
      record { new = os; is = refl; made = g; reached = reached-all reached g; represents = p }
  went-after (ends_made {o = o} {os = os} _ _) x7 = elim x7 [ ]

module _ {xs ys : List ℕ} {f : Image → Result} (makes : Makes f) (acts : Acts xs ys f (Ok tt)) where
  pub acts-after : {tables : List ℕ} {start : Image} {s : State} → Reached start s → Represents xs tables s → After start s ys tables (f s.image)
  acts-after {tables} {start} {s} reached p =
      went-after reached (makes.fit s.image (reached-sound reached)) (acts.follows tables start s reached p)

  pub acts-running : Running xs → Running ys
  acts-running run =
      let after = acts-after run.reached run.represents in
      record {
        tables = run.tables;
        start = run.start;
        state = made_all after.new run.state;
        reached = after.reached;
        represents = after.represents;
      }

-- ---- One step and then another

following-follows : {zs tables : List ℕ} {s : State} {r : Result} {step : Step} (os : List RowOperation)
    → Follows zs tables (made_all os s) r step → Follows zs tables s (following os r) step
unfolding following
following-follows {s = s} os (goes_on {os = new} p) = goes_on {os = os ++ new} (rw (made_all-append os new s) p)
following-follows {s = s} os (rolls_back {os = new} p) = rolls_back {os = os ++ new} (rw (made_all-append os new s) p)
following-follows {s = s} os (fails {r = reason} {os = new} p) = fails {r = reason} {os = os ++ new} (rw (made_all-append os new s) p)

pub acts-then : {xs ys zs : List ℕ} {f g : Image → Result} {step : Step} → Makes f → Acts xs ys f (Ok tt)
    → Acts ys zs g step → Acts xs zs (λ m. and_then m (f m) g) step
unfolding and_then made_all
acts-then {xs} {ys} {zs} {f} {g} {step} makes one two =
    let same : length ys ≡ length xs = one.beyond.len in
    record {
      laid = two.laid;
      shown = two.shown ∙ one.shown;
      beyond = kept_trans one.beyond (rw same at two.beyond);
      follows = λ tables start s reached p.
          let after = acts-after makes one reached p in
          rw after.is
          (following-follows after.new
          (two.follows tables start (made_all after.new s) after.reached after.represents));
    }

-- a step that ends the run
ends-follows : {ys tables : List ℕ} {s : State} {r : Result} {stop : Stop} (m : Image) (g : Image → Result)
    → Follows ys tables s r (Err stop) → Follows ys tables s (and_then m r g) (Err stop)
unfolding and_then
ends-follows m g (rolls_back p) = rolls_back p
ends-follows m g (fails {r = r} p) = fails {r = r} p

pub acts-ends : {xs ys : List ℕ} {f : Image → Result} {stop : Stop} (g : Image → Result) → Acts xs ys f (Err stop)
    → Acts xs ys (λ m. and_then m (f m) g) (Err stop)
acts-ends g one =
    record {
      laid = one.laid;
      shown = one.shown;
      beyond = one.beyond;
      follows = λ tables start s reached p. ends-follows s.image g (one.follows tables start s reached p);
    }

-- nothing is a step
pub acts-nothing : {xs : List ℕ} → Running xs → Acts xs xs (λ m. went []) (Ok tt)
acts-nothing run =
    record {
      laid = run.represents.laid;
      shown = refl;
      beyond = kept_refl;
      follows = λ tables start s reached p. goes_on {os = []} (rw (made_all-none s) p);
    }

-- ---- A loop

-- Between its start and now: the room is that of a run, its transition tables are the same, and what the rest does from now on is what the
-- whole does from the start.
pub record Onward (xs ys : List ℕ) (whole rest : Image → Result) : Type 0 where
  pub running : Running ys
  pub shown : transition_in ys ≡ transition_in xs
  pub acts : (zs : List ℕ) (step : Step) → Acts ys zs rest step → Acts xs zs whole step

pub onward-start : {xs : List ℕ} (f : Image → Result) → Running xs → Onward xs xs f f
onward-start f run = record { running = run; shown = refl; acts = λ zs step a. a }

module _ {xs ys : List ℕ} {whole : Image → Result} where
  pub onward-done : Onward xs ys whole (λ m. went []) → Acts xs ys whole (Ok tt)
  onward-done on = on.acts ys (Ok tt) (acts-nothing on.running)

  module _ {zs : List ℕ} {f : Image → Result} (g : Image → Result) (on : Onward xs ys whole (λ m. and_then m (f m) g)) where
    pub onward-more : Makes f → Acts ys zs f (Ok tt) → Onward xs zs whole g
    onward-more makes a =
        record {
          running = acts-running makes a on.running;
          shown = a.shown ∙ on.shown;
          acts = λ ws step b. on.acts ws step (acts-then makes a b);
        }

    pub onward-ends : {stop : Stop} → Acts ys zs f (Err stop) → Acts xs zs whole (Err stop)
    onward-ends a = on.acts zs (Err _) (acts-ends g a)
