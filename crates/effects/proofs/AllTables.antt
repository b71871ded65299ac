-- The loop over the rules: before turn k what waits for the active rules below k has joined the stretch, and nothing from table k on has
-- changed. The tables stand one after another, behind the spare one, so a turn changes none but its own.
use mathlib.Core.Path.{◌≡◌, sym, ap, ◌∙◌}
use mathlib.Core.List.{List, []}
use mathlib.Core.Logic.{⊎_elim}
use Prim.Native.Nat.{ℕ, ◌+◌, ◌≤◌, ◌<◌}
use native.Mathlib.Nat.{eq-or-lt_of_le}
use native.Mathlib.Omega.{arith}
use borrow.Author.Tests.{ltb-true, ltb-false}
use lib.Dec.{ltb}
use lib.ListN.{length, get_or}
use Rattle.words.specs.Words.{low32_at}
use Rattle.words.proofs.Laws.{split}
use Rattle.slots.specs.declared.Slot.{Slot}
use Rattle.slots.specs.Slots.{slots_from, table_at, table_bytes, Frame, Stands, Holds}
use Rattle.slots.proofs.Frames.{frame-wider, frame-join}
use Rattle.slots.proofs.Tables.{table-kept-below, table-kept-above, stands-kept-below, stands-kept-above}
use Rattle.room.specs.Room.{LIVE, INSERTED, DELETED, NEW, OLD, CHOSEN, WORKED, STRETCH, SPARE, END, ROWS, wait_at, Laid}
use Rattle.room.specs.Joins.{join_stretch, settled_at, Settleable, AllSettled}
use Rattle.room.proofs.Kept.{kept_refl, kept-below, kept_above}
use Rattle.effects.specs.Settling.{Settles, Aside, WaitsSettled}

pub record Upto (xs x tables : List ℕ) (k : ℕ) : Type 0 where
  pub top : k ≤ 16
  pub frame : Frame SPARE (wait_at k) xs x
  pub stands : (j : ℕ) → j < 16 → Stands (wait_at j) 128 x
  pub done : (j : ℕ) → j < k → get_or tables j 0 ≤ 3 → table_at x (wait_at j) ≡ settled_at xs (wait_at j) (get_or tables j 0)

-- a change of table k leaves the others standing
stand-after : {x y : List ℕ} (k : ℕ) → ((j : ℕ) → j < 16 → Stands (wait_at j) 128 x) → Frame (wait_at k) (wait_at k + table_bytes 128) x y
    → Stands (wait_at k) 128 y → (j : ℕ) → j < 16 → Stands (wait_at j) 128 y
unfolding table_bytes
stand-after k s f here j b =
    split (ltb j k)
    (λ e. stands-kept-below f (wait_at j) 128 (s j b) (omega (arith, ltb-true j k e)))
    (λ e.
    ⊎_elim
    (λ (q : k ≡ j). rw (← q) here)
    (λ (q : k < j). stands-kept-above f (wait_at j) 128 (s j b) (omega arith))
    (eq-or-lt_of_le (ltb-false j k e)))

module _ {xs x tables : List ℕ} (ready : Settleable xs tables) (k : ℕ) (up : Upto xs x tables k) where
  -- the next table and the stretch are as they were
  next-same : k < 16 → table_at x (wait_at k) ≡ table_at xs (wait_at k)
  next-same h = table-kept-above up.frame (wait_at k) 128 (ready.laid.waits k h) (omega arith)

  stretch-same : table_at x STRETCH ≡ table_at xs STRETCH
  stretch-same = table-kept-above up.frame STRETCH 128 ready.laid.stretch (omega (arith, up.top))

  next-settled : k < 16 → settled_at x (wait_at k) (get_or tables k 0) ≡ settled_at xs (wait_at k) (get_or tables k 0)
  next-settled h = rw (next-same h, stretch-same)

  module _ (h : k < 16) (active : get_or tables k 0 ≤ 3) where
    pub next-settles : Settles x (wait_at k)
    unfolding table_bytes
    next-settles =
        record {
          waits = up.stands k h;
          stretch = stands-kept-above up.frame STRETCH 128 ready.laid.stretch (omega arith);
          apart = omega arith;
          sorted = rw (next-same h) (ready.sorted k h active);
          rises = rw stretch-same ready.rises;
        }

    pub next_fits_lem : length (settled_at x (wait_at k) (get_or tables k 0)) ≤ 128
    next_fits_lem = rw (next-settled h) (ready.fits k h active)

    -- what waits for an active rule is settled
    pub turn-yes : {y : List ℕ} → Aside (wait_at k) x y (settled_at x (wait_at k) (get_or tables k 0)) → Upto xs y tables (k + 1)
    unfolding table_bytes
    turn-yes {y} a =
        let mid : List ℕ = a.mid in
        let near : Frame SPARE (wait_at k) xs mid =
        frame-join up.frame a.spare (omega arith) (omega arith) (omega arith) (omega arith) in
        let then : (j : ℕ) → j < 16 → Stands (wait_at j) 128 mid =
        λ j b. stands-kept-above a.spare (wait_at j) 128 (up.stands j b) (omega arith) in
        record {
          top = omega arith;
          frame = frame-join near a.holds.frame (omega arith) (omega arith) (omega arith) (omega arith);
          stands = stand-after k then a.holds.frame a.holds.stands;
          done =
              λ j b on.
              let le : j ≤ k = omega arith in
              ⊎_elim
              (λ (q : j ≡ k). rw q (a.holds.list ∙ next-settled h))
              (λ (q : j < k).
              let c : j < 16 = omega arith in
              table-kept-below a.holds.frame (wait_at j) 128 (then j c) (omega arith)
              ∙ table-kept-above a.spare (wait_at j) 128 (up.stands j c) (omega arith)
              ∙ up.done j q on)
              (eq-or-lt_of_le le);
        }

  -- that of another stays
  pub turn-no : k < 16 → 4 ≤ get_or tables k 0 → Upto xs x tables (k + 1)
  turn-no h off =
      record {
        top = omega arith;
        frame = frame-wider up.frame (omega arith) (omega arith);
        stands = up.stands;
        done =
            λ j b on.
            let le : j ≤ k = omega arith in
            ⊎_elim
            (λ (q : j ≡ k). let off' : 4 ≤ get_or tables j 0 = rw q off in absurd (omega arith))
            (λ (q : j < k). up.done j q on)
            (eq-or-lt_of_le le);
      }

-- ---- Nothing of the stretch is left, and the tables under the spare one are empty again

module _ {xs x x1 x2 ys tables : List ℕ} (ready : Settleable xs tables) (s : WaitsSettled xs x tables) (a : Holds STRETCH 128 x x1 [])
    (b : Holds CHOSEN 64 x1 x2 []) (c : Holds WORKED 64 x2 ys []) where
  all-frame : Frame CHOSEN END xs ys
  unfolding table_bytes
  all-frame =
      let f : Frame CHOSEN END xs x1 = frame-join s.frame a.frame (omega arith) (omega arith) (omega arith) (omega arith) in
      let g : Frame CHOSEN END x1 ys = frame-join b.frame c.frame (omega arith) (omega arith) (omega arith) (omega arith) in
      frame-join f g (omega arith) (omega arith) (omega arith) (omega arith)

  module _ (k : ℕ) (h : k < 16) where
    wait-x1 : Stands (wait_at k) 128 x1
    unfolding table_bytes
    wait-x1 = stands-kept-below a.frame (wait_at k) 128 (s.stands k h) (omega arith)

    wait-x2 : Stands (wait_at k) 128 x2
    unfolding table_bytes
    wait-x2 = stands-kept-above b.frame (wait_at k) 128 wait-x1 (omega arith)

    wait-same : table_at ys (wait_at k) ≡ table_at x (wait_at k)
    unfolding table_bytes
    wait-same =
        table-kept-above c.frame (wait_at k) 128 wait-x2 (omega arith)
        ∙ table-kept-above b.frame (wait_at k) 128 wait-x1 (omega arith)
        ∙ table-kept-below a.frame (wait_at k) 128 (s.stands k h) (omega arith)

  settled-laid : Laid ys
  unfolding table_bytes
  settled-laid =
      let l : Laid xs = ready.laid in
      let f : Frame CHOSEN END xs ys = all-frame in
      record {
        long = rw f.len l.long;
        live = stands-kept-below f LIVE ROWS l.live (omega arith);
        inserted = stands-kept-below f INSERTED ROWS l.inserted (omega arith);
        deleted = stands-kept-below f DELETED ROWS l.deleted (omega arith);
        new = stands-kept-below f NEW ROWS l.new (omega arith);
        old = stands-kept-below f OLD ROWS l.old (omega arith);
        chosen = stands-kept-below c.frame CHOSEN ROWS b.stands (omega arith);
        worked = c.stands;
        waits = λ k h. stands-kept-above c.frame (wait_at k) 128 (wait-x2 k h) (omega arith);
        stretch =
            stands-kept-above c.frame STRETCH 128 (stands-kept-above b.frame STRETCH 128 a.stands (omega arith)) (omega arith);
      }

  pub settled-all : AllSettled xs ys tables
  unfolding table_bytes
  settled-all =
      let after : Stands STRETCH 128 x2 = stands-kept-above b.frame STRETCH 128 a.stands (omega arith) in
      record {
        laid = settled-laid;
        waits = λ k h on. wait-same k h ∙ s.waits k h on;
        none =
            table-kept-above c.frame STRETCH 128 after (omega arith)
            ∙ table-kept-above b.frame STRETCH 128 a.stands (omega arith)
            ∙ a.list;
        before = kept-below all-frame;
        beyond = kept_above all-frame;
      }

-- where nothing was done, nothing has to join
pub settled-none : {xs tables : List ℕ} → Settleable xs tables → low32_at xs STRETCH ≡ 0 → AllSettled xs xs tables
unfolding join_stretch table_at slots_from
settled-none {xs} {tables} ready q =
    let none : table_at xs STRETCH ≡ [] = rw q in
    record {
      laid = ready.laid;
      waits = λ k h on. sym (ap (λ (l : List Slot). join_stretch (get_or tables k 0) l (table_at xs (wait_at k))) none);
      none = none;
      before = kept_refl;
      beyond = kept_refl;
    }
