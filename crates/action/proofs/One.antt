-- The log's delete and update of the row with a handle: a search among the live slots finds the row that the image has for the handle, or
-- neither has one, and then nothing changed.
use Rattle.std.specs.Prelude.{Option, Some, None, Ok, Err}
use mathlib.Core.Path.{◌≡◌, refl, ap, ◌∙◌}
use mathlib.Core.List.{List, [], ◌∷◌}
use mathlib.Core.Option.{none, some}
use Prim.Native.Nat.{ℕ, ◌≤◌, ◌<◌}
use native.Mathlib.Omega.{arith}
use lib.IntN.{ℤ}
use lib.ListN.{length, get_or}
use Rattle.meaning.specs.Covers.{delete, update}
use Rattle.meaning.specs.RowOperations.{deletes, updates, row_at}
use Rattle.meaning.specs.Processing.Actions.{operate, fails, delete_all, updated_row, updates_of, update_all}
use Rattle.meaning.specs.Trace.{OnlyIn}
use Rattle.meaning.proofs.Lookups.{found-so}
use Rattle.meaning.specs.Made.{Proper}
use Rattle.meaning.proofs.Images.{rising-proper}
use Rattle.meaning.proofs.ActionsFit.{updated_row-only}
use Rattle.words.specs.Words.{Bytes, low32_at}
use Rattle.slots.specs.declared.Slot.{Slot}
use Rattle.slots.specs.Slots.{table_at, blank, find_in}
use Rattle.slots.proofs.Frames.{Fits as SlotFits, frame-refl}
use Rattle.slots.proofs.Tables.{table-length}
use Rattle.slots.proofs.Order.{find_at}
use Rattle.room.specs.Room.{LIVE, row_meant, live_rows}
use Rattle.room.specs.Represents.{Running}
use Rattle.room.proofs.Live.{reached-sound, found-row, missing-row}
use Rattle.room.proofs.Fitting.{proper-slot, fits-delete, fits-update}
use Rattle.room.proofs.Steps.{says-delete, says-update, joinable, turned-delete, turned-update}
use Rattle.rows.specs.declared.Reason.{Reason}
use Rattle.rows.specs.declared.Reason.TheVariants.{NoSuchRow}
use Rattle.rows.specs.Rows.{operation_at, CanJoin, Deleted, Updated}
use Rattle.changes.specs.declared.Stop.TheVariants.{Failed}
use Rattle.changes.specs.Steps.{Acts}
use Rattle.changes.proofs.Moving.{moves-one, moves-acts}
use Rattle.action.proofs.Aside.{Aside, fails-after}

module _ {xs : List ℕ} (run : Running xs) (h : ℕ) where
  nothing-aside : Aside xs xs
  nothing-aside = record { frame = frame-refl; laid = run.represents.laid }

  -- the row of the handle, in whatever state the room represents
  is-there : {i : ℕ} → find_in h (table_at xs LIVE) ≡ Some i → row_at h (live_rows xs) ≡ some (row_meant (get_or (table_at xs LIVE) i blank))
  is-there f = ap (row_at h) run.represents.rows ∙ found-row run.reached run.represents h f

  is-missing : find_in h (table_at xs LIVE) ≡ None → row_at h (live_rows xs) ≡ none
  is-missing f = ap (row_at h) run.represents.rows ∙ missing-row run.reached run.represents h f

  pub found_within : {i : ℕ} → find_in h (table_at xs LIVE) ≡ Some i → i < low32_at xs LIVE
  found_within f = omega (arith, (find_at h (table_at xs LIVE) f).0, table-length xs LIVE)

  -- ---- Delete

  pub delete-can : CanJoin xs 2 0 (find_in h (table_at xs LIVE))
  unfolding operation_at
  delete-can = go (find_in h (table_at xs LIVE)) refl
    where
      go : (f : Option ℕ) → find_in h (table_at xs LIVE) ≡ f → CanJoin xs 2 0 f
      go (Some i) e =
          let b = (find_at h (table_at xs LIVE) e).0 in
          joinable run.reached run.represents (fits-delete run.reached run.represents i b)
          (says-delete (get_or (table_at xs LIVE) i blank))
      go None e = tt

  pub deleted-one : {ys : List ℕ} → Bytes ys → Deleted xs ys (find_in h (table_at xs LIVE)) (Ok tt)
      → Acts xs ys (operate (delete h)) (Ok tt)
  unfolding operation_at operate delete_all
  deleted-one {ys} bytes d = go (find_in h (table_at xs LIVE)) refl d
    where
      go : (f : Option ℕ) → find_in h (table_at xs LIVE) ≡ f → Deleted xs ys f (Ok tt) → Acts xs ys (operate (delete h)) (Ok tt)
      go (Some i) e t =
          let b = (find_at h (table_at xs LIVE) e).0 in
          let row = row_meant (get_or (table_at xs LIVE) i blank) in
          moves-acts (deletes row ∷ []) run
          (moves-one (deletes row) t (λ tables start s q p.
          let f = fits-delete q p i b in
          (f, turned-delete q p bytes i b f refl t)))
          (λ tables s p. rw (← p.rows, is-there e))
      go None e t = absurd t

  pub missing-one : {ys : List ℕ} {reason : Reason} → Deleted xs ys (find_in h (table_at xs LIVE)) (Err reason)
      → Acts xs ys (operate (delete h)) (Err (Failed reason))
  unfolding operate fails
  missing-one {ys} {reason} d = go (find_in h (table_at xs LIVE)) refl d
    where
      go : (f : Option ℕ) → find_in h (table_at xs LIVE) ≡ f → Deleted xs ys f (Err reason)
          → Acts xs ys (operate (delete h)) (Err (Failed reason))
      go (Some i) e t = absurd t
      go None e t =
          let now = run.represents in
          rw (t.0, t.1) (fails-after now.laid nothing-aside now.bytes NoSuchRow (λ tables s p. rw (← p.rows, is-missing e)))

  -- ---- Update

  pub missing-update : (mask : ℕ) (vs : List ℤ) → find_in h (table_at xs LIVE) ≡ None
      → Acts xs xs (operate (update h mask vs)) (Err (Failed NoSuchRow))
  unfolding operate fails
  missing-update mask vs e =
      let now = run.represents in
      fails-after now.laid nothing-aside now.bytes NoSuchRow (λ tables s p. rw (← p.rows, is-missing e))

  module _ {mask k i : ℕ} (vs : List ℤ) (new : Slot) (small : mask ≤ 15) (narrowed : mask < 256 → k ≡ mask)
      (found : find_in h (table_at xs LIVE) ≡ Some i)
      (is : row_meant new ≡ updated_row mask vs (row_meant (get_or (table_at xs LIVE) i blank))) where
    only : OnlyIn mask (row_meant (get_or (table_at xs LIVE) i blank)) (row_meant new)
    only = rw is (updated_row-only mask vs (row_meant (get_or (table_at xs LIVE) i blank)))

    new-found : find_in new.handle (table_at xs LIVE) ≡ Some i
    unfolding row_meant
    new-found =
        ap (λ (n : ℕ). find_in n (table_at xs LIVE)) (only.same_handle ∙ (find_at h (table_at xs LIVE) found).1) ∙ found

    k-is : k ≡ mask
    k-is = narrowed (omega arith)

    -- a row that is found is not missed
    pub update-finds : (ys : List ℕ) (reason : Reason) → Updated xs ys k new (find_in new.handle (table_at xs LIVE)) (Err reason) → ⊥
    update-finds ys reason d = let t : Updated xs ys mask new (Some i) (Err reason) = rw (k-is, new-found) at d in t

    module _ (fits : SlotFits new) where
      below : i < length (table_at xs LIVE)
      below = (find_at h (table_at xs LIVE) found).0

      old-proper : Proper (row_meant (get_or (table_at xs LIVE) i blank))
      old-proper =
          found-so h (row_meant (get_or (table_at xs LIVE) i blank)) (rising-proper (reached-sound run.reached).rises)
          (found-row run.reached run.represents h found)

      new-proper : Proper (row_meant new)
      unfolding row_meant
      new-proper =
          let a = old-proper.table_fits in
          let b = only.same_table in
          let t : new.table ≤ 3 = omega arith in
          proper-slot {e = new} fits t

      pub update-can : CanJoin xs 3 k (find_in new.handle (table_at xs LIVE))
      unfolding operation_at
      update-can =
          rw (k-is, new-found)
          (joinable run.reached run.represents (fits-update run.reached run.represents i new below only new-proper)
          (says-update mask (get_or (table_at xs LIVE) i blank) new))

      pub updated-one : {ys : List ℕ} → Bytes ys → Updated xs ys k new (find_in new.handle (table_at xs LIVE)) (Ok tt)
          → Acts xs ys (operate (update h mask vs)) (Ok tt)
      unfolding operation_at operate update_all updates_of
      updated-one {ys} bytes d =
          let t : Updated xs ys mask new (Some i) (Ok tt) = rw (k-is, new-found) at d in
          let o = updates mask (row_meant (get_or (table_at xs LIVE) i blank)) (row_meant new) in
          moves-acts (o ∷ []) run
          (moves-one o t (λ tables start s q p.
          let f = fits-update q p i new below only new-proper in
          (f, turned-update q p bytes mask i new below f refl t)))
          (λ tables s p. rw (← p.rows, is-there found, is))
