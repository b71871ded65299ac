-- The live row that a rule is shown for a handle is that of the slot that is found, where it is the rule's own, and there is none where
-- none is found. The live rows stay where only what is behind them is written.
use Rattle.std.specs.Prelude.{Some, None}
use mathlib.Core.Path.{◌≡◌, ap}
use mathlib.Core.List.{List}
use mathlib.Core.Option.{none}
use Prim.Native.Nat.{ℕ, ◌≤◌, ◌<◌}
use native.Mathlib.Omega.{arith}
use lib.ListN.{get_or}
use Rattle.meaning.specs.Covers.{Rule}
use Rattle.meaning.specs.Processing.TransitionTables.{own_row, live_row}
use Rattle.words.specs.Words.{low32_at}
use Rattle.slots.specs.Slots.{table_at, table_bytes, Frame, Stands, blank, find_in, Sorted}
use Rattle.slots.proofs.Tables.{table-length, table-kept-below, stands-kept-below}
use Rattle.slots.proofs.Order.{find_at}
use Rattle.room.specs.Room.{LIVE, INSERTED, ROWS, row_meant, rows_meant, live_rows}
use Rattle.room.proofs.Live.{row_at-found, row_at-nowhere}
use Rattle.transition.specs.Shown.{LiveRises}

pub live_below : (xs : List ℕ) (h : ℕ) {i : ℕ} → find_in h (table_at xs LIVE) ≡ Some i → i < low32_at xs LIVE
live_below xs h f = omega (arith, (find_at h (table_at xs LIVE) f).0, table-length xs LIVE)

module _ (rule : Rule) (xs : List ℕ) (h : ℕ) (s : Sorted (table_at xs LIVE)) where
  pub live-found : {i : ℕ} → find_in h (table_at xs LIVE) ≡ Some i
      → live_row rule (live_rows xs) h ≡ own_row rule (row_meant (get_or (table_at xs LIVE) i blank))
  unfolding live_row live_rows
  live-found f = rw (row_at-found h (table_at xs LIVE) s f)

  pub live-nowhere : find_in h (table_at xs LIVE) ≡ None → live_row rule (live_rows xs) h ≡ none
  unfolding live_row live_rows
  live-nowhere f = rw (row_at-nowhere h (table_at xs LIVE) s f)

module _ {lo hi : ℕ} {xs ys : List ℕ} (f : Frame lo hi xs ys) (h : INSERTED ≤ lo) where
  pub live-kept : Stands LIVE ROWS xs → table_at ys LIVE ≡ table_at xs LIVE
  unfolding table_bytes
  live-kept s = table-kept-below f LIVE ROWS s (omega arith)

  pub rows-kept : Stands LIVE ROWS xs → live_rows ys ≡ live_rows xs
  unfolding live_rows
  rows-kept s = ap rows_meant (live-kept s)

  pub still-live : LiveRises xs → LiveRises ys
  unfolding table_bytes
  still-live l =
      record { stands = stands-kept-below f LIVE ROWS l.stands (omega arith); sorted = rw (live-kept l.stands) l.sorted }
