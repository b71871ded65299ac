-- Operations made one after another on the room: each leads from a room that represents a state to one that represents the state after it,
-- and leaves the transition tables, the chosen rows and those worked out as they were. So all of an action's operations do.
use Rattle.std.specs.Prelude.{Ok}
use mathlib.Core.Path.{◌≡◌}
use mathlib.Core.List.{List, [], ◌∷◌, ◌++◌}
use Prim.Native.Nat.{ℕ, suc, ◌<◌}
use native.Mathlib.Omega.{arith}
use lib.ListN.{length, get_or, take}
use lib.Seq.{take-suc}
use Rattle.meaning.specs.Covers.{Image}
use Rattle.meaning.specs.RowOperations.{RowOperation}
use Rattle.meaning.specs.Processing.{State}
use Rattle.meaning.specs.Processing.Actions.{Result, went}
use Rattle.meaning.specs.Made.{Fits, Made, more, Made.none as none_made}
use Rattle.meaning.proofs.Lookups.{made-append}
use Rattle.slots.specs.declared.Slot.{Slot}
use Rattle.room.specs.Room.{INSERTED, STRETCH, END, Kept}
use Rattle.room.specs.Turned.{Turned}
use Rattle.room.specs.Represents.{Represents, Reached, Running, made_one, made_all}
use Rattle.room.proofs.Kept.{kept_refl, kept_trans, transition-kept}
use Rattle.room.proofs.Steps.{made_all-none, made_all-one, made_all-append, reached-all}
use Rattle.changes.specs.Steps.{goes_on, Acts}

-- operations fit the image of a state, and a room represents the state after them
pub record Leads (ys tables : List ℕ) (os : List RowOperation) (s : State) : Type 0 where
  pub made : Made s.image os
  pub represents : Represents ys tables (made_all os s)

pub record Moves (xs ys : List ℕ) (os : List RowOperation) : Type 0 where
  pub between : Kept INSERTED STRETCH xs ys
  pub beyond : Kept END (length xs) xs ys
  pub leads : (tables : List ℕ) (start : Image) (s : State) → Reached start s → Represents xs tables s → Leads ys tables os s

pub moves-none : {xs : List ℕ} → Moves xs xs []
moves-none =
    record {
      between = kept_refl;
      beyond = kept_refl;
      leads = λ tables start s r p. record { made = none_made; represents = rw (made_all-none s) p };
    }

pub moves-one : {xs ys : List ℕ} {live : List Slot} {next : ℕ} {op : Slot} (o : RowOperation)
    → Turned xs ys live next op
    → ((tables : List ℕ) (start : Image) (s : State) → Reached start s → Represents xs tables s → Fits s.image o × Represents ys tables (made_one o s))
    → Moves xs ys (o ∷ [])
moves-one o t f =
    record {
      between = t.between;
      beyond = t.beyond;
      leads = λ tables start s r p.
          let g = f tables start s r p in
          record { made = more g.0 none_made; represents = rw (made_all-one o s) g.1 };
    }

pub moves_more : {xs ys zs : List ℕ} {os ps : List RowOperation} → Moves xs ys os → Moves ys zs ps
    → Moves xs zs (os ++ ps)
unfolding made_all
moves_more {xs} {ys} {zs} {os = os} {ps = ps} f g =
    let same : length ys ≡ length xs = f.beyond.len in
    record {
      between = kept_trans f.between g.between;
      beyond = kept_trans f.beyond (rw same at g.beyond);
      leads = λ tables start s r p.
          let a = f.leads tables start s r p in
          let b = g.leads tables start (made_all os s) (reached-all r a.made) a.represents in
          record { made = made-append a.made b.made; represents = rw (made_all-append os ps s) b.represents };
    }

-- the operation at a place, after all before it
pub moves_next : {xs ys zs : List ℕ} (os : List RowOperation) (i : ℕ) (d o : RowOperation) → i < length os
    → get_or os i d ≡ o → Moves xs ys (take i os) → Moves ys zs (o ∷ []) → Moves xs zs (take (suc i) os)
moves_next os i d o b e f g = rw (take-suc os i d b, e) (moves_more f g)

pub moves-running : {xs ys : List ℕ} {os : List RowOperation} → Running xs → Moves xs ys os
    → Running ys
moves-running {os = os} run f =
    let l = f.leads run.tables run.start run.state run.reached run.represents in
    record {
      tables = run.tables;
      start = run.start;
      state = made_all os run.state;
      reached = reached-all run.reached l.made;
      represents = l.represents;
    }

pub moves-acts : {xs ys : List ℕ} (os : List RowOperation) {f : Image → Result} → Running xs
    → Moves xs ys os → ((tables : List ℕ) (s : State) → Represents xs tables s → f s.image ≡ went os) → Acts xs ys f (Ok tt)
moves-acts os run m is =
    record {
      laid = (moves-running run m).represents.laid;
      shown = transition-kept m.between run.represents.laid (omega arith) (omega arith);
      beyond = m.beyond;
      follows = λ tables start s r p. rw (is tables s p) (goes_on (m.leads tables start s r p).represents);
    }
