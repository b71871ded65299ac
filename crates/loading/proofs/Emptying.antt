-- The tables are emptied one after another from the lowest place up, so each is written outside those before it, which stay empty.
use mathlib.Core.Path.{◌≡◌, ◌∙◌}
use mathlib.Core.List.{List, []}
use mathlib.Core.Logic.{⊎_elim}
use Prim.Native.Nat.{ℕ, ◌+◌, ◌≤◌, ◌<◌}
use native.Mathlib.Nat.{eq-or-lt_of_le}
use native.Mathlib.Omega.{arith}
use lib.ListN.{length}
use Rattle.slots.specs.Slots.{table_at, table_bytes, Frame, Stands, Holds}
use Rattle.slots.proofs.Frames.{frame-refl, frame-wider, frame-join}
use Rattle.slots.proofs.Tables.{table-kept-below, stands-kept-below}
use Rattle.room.specs.Room.{LIVE, INSERTED, DELETED, NEW, OLD, CHOSEN, WORKED, WAITS, STRETCH, END, ROWS, ENTRIES, wait_at}
use Rattle.transition.specs.Shown.{AllBare}
use Rattle.loading.specs.Steps.{NoneWaits, Emptied}

-- ---- What waits

-- nothing waits for the rules below k, and nothing from table k on has changed
pub record Upto (xs x : List ℕ) (k : ℕ) : Type 0 where
  pub top : k ≤ 16
  pub frame : Frame WAITS (wait_at k) xs x
  pub stands : (j : ℕ) → j < k → Stands (wait_at j) ENTRIES x
  pub empty : (j : ℕ) → j < k → table_at x (wait_at j) ≡ []

pub upto-start : {xs : List ℕ} → Upto xs xs 0
upto-start =
    record { top = omega arith; frame = frame-refl; stands = λ j h. absurd (omega arith); empty = λ j h. absurd (omega arith) }

module _ {xs x : List ℕ} (k : ℕ) (up : Upto xs x k) where
  pub upto-more : {y : List ℕ} → k < 16 → Holds (wait_at k) ENTRIES x y [] → Upto xs y (k + 1)
  unfolding table_bytes
  upto-more {y} h p =
      record {
        top = omega arith;
        frame = frame-join up.frame p.frame (omega arith) (omega arith) (omega arith) (omega arith);
        stands =
            λ j b.
            let le : j ≤ k = omega arith in
            ⊎_elim
            (λ (q : j ≡ k). rw q p.stands)
            (λ (q : j < k). stands-kept-below p.frame (wait_at j) ENTRIES (up.stands j q) (omega arith))
            (eq-or-lt_of_le le);
        empty =
            λ j b.
            let le : j ≤ k = omega arith in
            ⊎_elim
            (λ (q : j ≡ k). rw q p.list)
            (λ (q : j < k). table-kept-below p.frame (wait_at j) ENTRIES (up.stands j q) (omega arith) ∙ up.empty j q)
            (eq-or-lt_of_le le);
      }

  pub upto_done : 16 ≤ k → NoneWaits xs x
  upto_done h =
      record {
        frame = frame-wider up.frame (omega arith) (omega (arith, up.top));
        stands = λ j b. up.stands j (omega arith);
        empty = λ j b. up.empty j (omega arith);
      }

-- ---- Every table

pub all-emptied : {x0 x1 x2 x3 x4 x5 x6 : List ℕ} → END ≤ length x0 → Holds LIVE ROWS x0 x1 [] → AllBare x1 x2
    → Holds CHOSEN ROWS x2 x3 [] → Holds WORKED ROWS x3 x4 [] → NoneWaits x4 x5 → Holds STRETCH ENTRIES x5 x6 [] → Emptied x0 x6
unfolding table_bytes
all-emptied {x0} {x1} {x2} {x3} {x4} {x5} {x6} long a t b c w d =
    let f5 : Frame WAITS END x4 x6 = frame-join w.frame d.frame (omega arith) (omega arith) (omega arith) (omega arith) in
    let f4 : Frame WORKED END x3 x6 = frame-join c.frame f5 (omega arith) (omega arith) (omega arith) (omega arith) in
    let f3 : Frame CHOSEN END x2 x6 = frame-join b.frame f4 (omega arith) (omega arith) (omega arith) (omega arith) in
    let f2 : Frame INSERTED END x1 x6 = frame-join t.frame f3 (omega arith) (omega arith) (omega arith) (omega arith) in
    let f1 : Frame LIVE END x0 x6 = frame-join a.frame f2 (omega arith) (omega arith) (omega arith) (omega arith) in
    record {
      frame = f1;
      laid =
          record {
            long = rw f1.len long;
            live = stands-kept-below f2 LIVE ROWS a.stands (omega arith);
            inserted = stands-kept-below f3 INSERTED ROWS t.inserted.stands (omega arith);
            deleted = stands-kept-below f3 DELETED ROWS t.deleted.stands (omega arith);
            new = stands-kept-below f3 NEW ROWS t.new.stands (omega arith);
            old = stands-kept-below f3 OLD ROWS t.old.stands (omega arith);
            chosen = stands-kept-below f4 CHOSEN ROWS b.stands (omega arith);
            worked = stands-kept-below f5 WORKED ROWS c.stands (omega arith);
            waits = λ k h. stands-kept-below d.frame (wait_at k) ENTRIES (w.stands k h) (omega arith);
            stretch = d.stands;
          };
      live = table-kept-below f2 LIVE ROWS a.stands (omega arith) ∙ a.list;
      waits = λ k h. table-kept-below d.frame (wait_at k) ENTRIES (w.stands k h) (omega arith) ∙ w.empty k h;
      stretch = d.list;
    }
