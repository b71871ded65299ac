-- A source's table stands in the room below the chosen rows, so a change of those alone leaves it; where the room was laid it is laid.
use mathlib.Core.Path.{◌≡◌}
use mathlib.Core.List.{List}
use Prim.Native.Nat.{ℕ, ◌+◌, ◌≤◌}
use native.Mathlib.Omega.{arith}
use lib.Dec.{eqb, ltb}
use Rattle.words.proofs.Laws.{split}
use Rattle.slots.specs.Slots.{table_bytes, Frame, Stands}
use Rattle.slots.proofs.Frames.{frame-wider}
use Rattle.slots.proofs.Tables.{stands-kept-above}
use Rattle.room.specs.Room.{CHOSEN, WORKED, ROWS, Laid}
use Rattle.room.proofs.Kept.{laid-aside}
use Rattle.query.specs.Chosen.{base_of}

-- ---- A source's table stands in the room, below the chosen rows

pub source-below : (source : ℕ) → base_of source + table_bytes ROWS ≤ CHOSEN
unfolding base_of table_bytes
source-below source =
    split (ltb source 4) (λ e. rw e (omega arith)) (λ e4.
    rw e4
    (split (eqb source 4) (λ e. rw e (omega arith)) (λ n4.
    rw n4
    (split (eqb source 5) (λ e. rw e (omega arith)) (λ n5.
    rw n5
    (split (eqb source 6) (λ e. rw e (omega arith)) (λ n6.
    rw n6 (omega arith))))))))

source-stands : {xs : List ℕ} → Laid xs → (source : ℕ) → Stands (base_of source) ROWS xs
unfolding base_of
source-stands l source =
    split (ltb source 4) (λ e. rw e l.live) (λ e4.
    rw e4
    (split (eqb source 4) (λ e. rw e l.inserted) (λ n4.
    rw n4
    (split (eqb source 5) (λ e. rw e l.deleted) (λ n5.
    rw n5
    (split (eqb source 6) (λ e. rw e l.new) (λ n6.
    rw n6 l.old)))))))

-- by an answer of `query::table_of`
pub base-stands : {xs : List ℕ} → Laid xs → (source : ℕ) {base : ℕ} → base ≡ base_of source → Stands base ROWS xs
base-stands l source e = rw e (source-stands l source)

-- ---- What stays

pub laid_kept : {xs ys : List ℕ} → Laid xs → Frame CHOSEN (CHOSEN + table_bytes ROWS) xs ys → Stands CHOSEN ROWS ys → Laid ys
unfolding table_bytes
laid_kept l f s = laid-aside l (frame-wider f (omega arith) (omega arith)) s (stands-kept-above f WORKED ROWS l.worked (omega arith))
