-- The rows of the image join the live rows one after another. Those that are loaded, and then those that are left, are the image's.
use mathlib.Core.Path.{◌≡◌, sym, ap, ◌∙◌}
use mathlib.Core.List.{List, [], ◌∷◌, ◌++◌, append_assoc, append-nil}
use Prim.Native.Nat.{ℕ, ◌+◌, ◌-◌, ◌*◌, ◌%◌, ◌≤◌, ◌<◌}
use native.Mathlib.Omega.{arith}
use lib.ListN.{length, length-append}
use Rattle.meaning.specs.Reading.{got, many}
use Rattle.meaning.specs.Covers as Covers
use Rattle.meaning.specs.Covers.{Image}
use Rattle.meaning.specs.ByteLayouts.{row}
use Rattle.meaning.proofs.Parsing.{same-value}
use Rattle.words.specs.Words.{low32_at, readable}
use Rattle.words.proofs.Laws.{many-none, first_of}
use Rattle.slots.specs.declared.Slot.{Slot}
use Rattle.slots.specs.Slots.{table_at, table_bytes, Frame, Stands, Holds}
use Rattle.slots.proofs.Frames.{PutWord, frame-refl, frame-trans, frame-wider, word-kept-below}
use Rattle.slots.proofs.Tables.{table-kept-above, table-length, holds-size}
use Rattle.image.specs.declared.Row.{Row}
use Rattle.image.specs.Images.{row_or, WellFormed}
use Rattle.image.specs.Images as Images
use Rattle.image.proofs.Laws.{row_is, row_ends}
use Rattle.image.proofs.Whole.{laid, rows_are}
use Rattle.room.specs.Room.{NEXT, LIVE, INSERTED, STRETCH, ROWS, ENTRIES, wait_at, row_meant, rows_meant, live_rows}
use Rattle.room.proofs.Kept.{laid-front}
use Rattle.room.proofs.Live.{rows_pushed}
use Rattle.loading.specs.Loads.{Loaded, Loads}
use Rattle.loading.specs.Steps.{Emptied, RowLoaded}

-- ---- A row

-- the slot of a row: of no kind, as none but what waits has one
abbrev slot_of : Row → Slot
slot_of r =
    record {
      handle = r.handle;
      kind = 0;
      mask = 0;
      table = r.table % 256;
      v0 = r.v0;
      v1 = r.v1;
      v2 = r.v2;
      v3 = r.v3;
    }

slot-means : (r : Row) → r.table ≤ 3 → row_meant (slot_of r) ≡ Images.row_meant r
unfolding row_meant Images.row_meant
slot-means r h = let same : r.table % 256 ≡ r.table = omega arith in rw same

pub row_loaded : {s xs ys : List ℕ} (at : ℕ) (r : Row) → row s at ≡ row_or r (at + 21)
    → Holds LIVE ROWS xs ys (table_at xs LIVE ++ (slot_of r ∷ [])) → RowLoaded s at xs ys
unfolding table_bytes live_rows
row_loaded {s} {xs} {ys} at r is h =
    record {
      frame = frame-wider h.frame (omega arith) (omega arith);
      stands = h.stands;
      size =
          omega (
            arith,
            holds-size LIVE ROWS h,
            length-append (table_at xs LIVE) (slot_of r ∷ []),
            table-length xs LIVE,
          );
      rows =
          λ row next e.
          let p = row_is r (at + 21) (sym is ∙ e) in
          ap rows_meant h.list
          ∙ rows_pushed (table_at xs LIVE) (slot_of r)
          ∙ ap (λ (x : Covers.Row). rows_meant (table_at xs LIVE) ++ (x ∷ [])) (slot-means r p.0 ∙ p.1);
    }

-- ---- The loop

-- After k rows: the live rows, and then those that are left from here on, are the image's; only the live rows have changed since the tables
-- were emptied (`xs`).
pub record Loading (s xs x : List ℕ) (count k here : ℕ) : Type 0 where
  pub rest : List Covers.Row
  pub read : many (count - k) row s here ≡ got rest (length s)
  pub all : readable count row s 11 ≡ live_rows x ++ rest
  pub size : here + 21 * (count - k) ≡ length s
  pub few : low32_at x LIVE + (count - k) ≤ ROWS
  pub frame : Frame LIVE INSERTED xs x
  pub stands : Stands LIVE ROWS x

pub loading-start : {s x xs : List ℕ} {next count : ℕ} → WellFormed s next count → Emptied x xs → Loading s xs xs count 0 11
unfolding live_rows rows_meant
loading-start {s} {x} {xs} {next} {count} w e =
    let l = laid w in
    let every : count - 0 ≡ count = omega arith in
    let none : low32_at xs LIVE ≡ 0 = sym (table-length xs LIVE) ∙ ap length e.live in
    record {
      rest = w.rows;
      read = rw every l.read;
      all = rows_are w ∙ rw e.live;
      size = omega arith;
      few = omega arith;
      frame = frame-refl;
      stands = e.laid.live;
    }

-- the first of those that are left goes over to the end of the others
one-over : (rs : List Covers.Row) {rs' left left' : List Covers.Row} {r : Covers.Row} → left ≡ r ∷ left' → rs' ≡ rs ++ (r ∷ [])
    → rs ++ left ≡ rs' ++ left'
one-over rs {left' = left'} {r = r} p q = rw (p, q) (sym (append_assoc rs (r ∷ []) left'))

pub loading-more : {s xs x y : List ℕ} {count k here : ℕ} → Loading s xs x count k here → k < count → RowLoaded s here x y
    → Loading s xs y count (k + 1) (here + 21)
loading-more {s} {xs} {x} {y} {count} {k} {here} c more r =
    let f = first_of row (count - k) s here (omega arith) c.read in
    let fewer : count - k - 1 ≡ count - (k + 1) = omega arith in
    record {
      rest = f.others;
      read = rw (row_ends s here f.read, fewer) at f.more;
      all = c.all ∙ one-over (live_rows x) f.all (r.rows f.first f.next f.read);
      size = omega arith;
      few = omega (arith, r.size);
      frame = frame-trans c.frame r.frame;
      stands = r.stands;
    }

-- ---- The end

pub loading-done : {s x0 x1 x2 x : List ℕ} {next count k here : ℕ} → WellFormed s next count → PutWord x0 x1 NEXT next
    → Emptied x1 x2 → Loading s x2 x count k here → count ≤ k → Loads s x0 x
loading-done {s} {x0} {x1} {x2} {x} {next} {count} {k} {here} w p e c done =
    record { is = λ start q. let same : image ≡ start = cc in rw (← same) loaded }
  where
    image : Image
    image = record { next = next; rows = w.rows }

    none_left : c.rest ≡ []
    none_left = same-value (sym c.read ∙ many-none row (count - k) s here (omega arith))

    loaded : Loaded image x0 x
    loaded =
        record {
          laid = laid-front e.laid (frame-wider c.frame (omega arith) (omega arith)) c.stands;
          next = word-kept-below c.frame NEXT (omega arith) ∙ word-kept-below e.frame NEXT (omega arith) ∙ p.same;
          rows = sym (append-nil (live_rows x)) ∙ rw (← none_left) (sym c.all ∙ rows_are w);
          empty = λ k b. table-kept-above c.frame (wait_at k) ENTRIES (e.laid.waits k b) (omega arith) ∙ e.waits k b;
          stretch = table-kept-above c.frame STRETCH ENTRIES e.laid.stretch (omega arith) ∙ e.stretch;
          beyond =
              record {
                len = c.frame.len ∙ e.frame.len ∙ p.frame.len;
                same = λ i h b.
                    c.frame.above i (omega arith) ∙ e.frame.above i h ∙ p.frame.above i (omega arith);
              };
        }
