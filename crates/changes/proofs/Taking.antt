-- The loops that delete and update: rows taken from the live ones by rising handle are still live when their turn comes, for an operation
-- moves only the row of its own handle.
use Rattle.std.specs.Prelude.{Result, Ok, Err, Some}
use Rattle.std.specs.Result.{IsOk}
use mathlib.Core.Path.{◌≡◌, refl, sym, ap, ◌∙◌}
use mathlib.Core.List.{List, [], ◌∷◌, map}
use mathlib.Core.Option.{some}
use Prim.Native.Nat.{ℕ, zero, suc, ◌+◌, ◌≤◌, ◌<◌}
use native.Mathlib.Numerals.{add-one}
use native.Mathlib.Omega.{arith}
use lib.IntN.{ℤ}
use lib.ListN.{length, get_or, set, take, drop, length-map}
use lib.Seq.{take_all, drop-cons}
use borrow.Author.Tests.{ne_eqb}
use Rattle.meaning.specs.Covers.{Row}
use Rattle.meaning.specs.RowOperations.{RowOperation, deletes, updates, handle_of, row_at, make_all}
use Rattle.meaning.specs.Processing.{State}
use Rattle.meaning.specs.Processing.Actions.{went, delete_all, updated_row, updates_of, update_all}
use Rattle.meaning.specs.Trace.{OnlyIn}
use Rattle.meaning.specs.Made.{Proper, more, Made as MadeFrom, Taken, one_taken}
use Rattle.meaning.proofs.Lookups.{row_at-other}
use Rattle.meaning.proofs.ActionsFit.{taken_in, updated_row-only}
use Rattle.words.specs.Words.{Bytes, low32_at}
use Rattle.slots.specs.declared.Slot.{Slot}
use Rattle.slots.specs.Slots.{table_at, table_bytes, blank, find_in, remove_at}
use Rattle.slots.proofs.Tables.{table-length, table_fits_lem}
use Rattle.room.specs.Room.{NEXT, LIVE, CHOSEN, WORKED, ROWS, row_meant, rows_meant, rows_with, live_rows}
use Rattle.room.specs.Turned.{Turned}
use Rattle.room.specs.Represents.{Running, made_all}
use Rattle.room.proofs.Kept.{table_kept}
use Rattle.room.proofs.Live.{Place, rows-length, row-found}
use Rattle.room.proofs.Fitting.{proper-slot, fits-delete, fits-update}
use Rattle.room.proofs.Steps.{says-delete, says-update, joinable, turned-delete, turned-update}
use Rattle.rows.specs.declared.Reason.{Reason}
use Rattle.rows.specs.Rows.{operation_at, CanJoin, Deleted, Updated}
use Rattle.changes.specs.Steps.{Acts, Rewritten, UpdatesAll}
use Rattle.changes.proofs.Moving.{Leads, Moves, moves-none, moves-one, moves_next, moves-running, moves-acts}

-- ---- Rows that are taken

-- the first of them is live
record First (rows : List Row) (r : Row) (rs : List Row) : Type 0 where
  found : row_at r.handle rows ≡ some r
  proper : Proper r
  rest : Taken rows r.handle rs

first : {rows rs : List Row} {r : Row} {low : ℕ} → Taken rows low (r ∷ rs) → First rows r rs
first (one_taken a p q c) = record { found = q; proper = p; rest = c }

-- an operation on it leaves the others as they were
taken-after : {xs ys : List ℕ} {rs : List Row} (o : RowOperation) → Running xs → Moves xs ys (o ∷ [])
    → Taken (live_rows xs) (handle_of o) rs → Taken (live_rows ys) (handle_of o) rs
unfolding made_all make_all
taken-after {xs} {ys} {rs} o run m c = go l.made
  where
    s : State
    s = run.state

    l : Leads ys run.tables (o ∷ []) s
    l = m.leads run.tables run.start s run.reached run.represents

    go : MadeFrom s.image (o ∷ []) → Taken (live_rows ys) (handle_of o) rs
    go (more f k) =
        taken_in (λ h b.
        ap (row_at h) l.represents.rows ∙ row_at-other h f (ne_eqb (handle_of o) h (λ e. omega arith))
        ∙ ap (row_at h) (sym run.represents.rows))
        c

-- ---- One delete and one update

-- a row that is found is deleted, and updated
record Went (xs ys : List ℕ) (live : List Slot) (op : Slot) (a : Result (Unit {0}) Reason) : Type 0 where
  is : IsOk a
  turned : Turned xs ys live (low32_at xs NEXT) op

went-delete : {xs ys : List ℕ} (i : ℕ) (a : Result (Unit {0}) Reason) → Deleted xs ys (Some i) a
    → Went xs ys (remove_at i (table_at xs LIVE)) (operation_at xs 2 0 i) a
went-delete i (Ok t) d = record { is = refl; turned = d }
went-delete i (Err r) d = absurd d

went-update : {xs ys : List ℕ} (mask : ℕ) (new : Slot) (i : ℕ) (a : Result (Unit {0}) Reason) → Updated xs ys mask new (Some i) a
    → Went xs ys (set (table_at xs LIVE) i new) (operation_at xs 3 mask i) a
went-update mask new i (Ok t) d = record { is = refl; turned = d }
went-update mask new i (Err r) d = absurd d

module _ {xs : List ℕ} (run : Running xs) (r : Row) (live : row_at r.handle (live_rows xs) ≡ some r) where
  place : Place r.handle (table_at xs LIVE) r
  place = row-found run.reached run.represents r.handle (ap (row_at r.handle) (sym run.represents.rows) ∙ live)

  delete-can : CanJoin xs 2 0 (find_in r.handle (table_at xs LIVE))
  unfolding operation_at
  delete-can =
      rw place.found
      (joinable run.reached run.represents (fits-delete run.reached run.represents place.at place.below)
      (says-delete (get_or (table_at xs LIVE) place.at blank)))

  delete-went : {ys : List ℕ} (a : Result (Unit {0}) Reason) → Deleted xs ys (find_in r.handle (table_at xs LIVE)) a
      → Went xs ys (remove_at place.at (table_at xs LIVE)) (operation_at xs 2 0 place.at) a
  delete-went a d = went-delete place.at a (rw place.found at d)

  delete-moves : {ys : List ℕ} (a : Result (Unit {0}) Reason) → Bytes ys → Deleted xs ys (find_in r.handle (table_at xs LIVE)) a
      → Moves xs ys (deletes r ∷ [])
  unfolding operation_at
  delete-moves a bytes d =
      let t = (delete-went a d).turned in
      rw (← place.means)
      (moves-one (deletes (row_meant (get_or (table_at xs LIVE) place.at blank))) t (λ tables start s q p.
      let fits = fits-delete q p place.at place.below in
      (fits, turned-delete q p bytes place.at place.below fits refl t)))

  module _ (mask : ℕ) (new : Slot) (only : OnlyIn mask r (row_meant new)) (proper : Proper (row_meant new)) where
    only-there : OnlyIn mask (row_meant (get_or (table_at xs LIVE) place.at blank)) (row_meant new)
    only-there = rw place.means only

    update-can : CanJoin xs 3 mask (find_in r.handle (table_at xs LIVE))
    unfolding operation_at
    update-can =
        rw place.found
        (joinable run.reached run.represents
        (fits-update run.reached run.represents place.at new place.below only-there proper)
        (says-update mask (get_or (table_at xs LIVE) place.at blank) new))

    update-went : {ys : List ℕ} (a : Result (Unit {0}) Reason) → Updated xs ys mask new (find_in r.handle (table_at xs LIVE)) a
        → Went xs ys (set (table_at xs LIVE) place.at new) (operation_at xs 3 mask place.at) a
    update-went a d = went-update mask new place.at a (rw place.found at d)

    update-moves : {ys : List ℕ} (a : Result (Unit {0}) Reason) → Bytes ys
        → Updated xs ys mask new (find_in r.handle (table_at xs LIVE)) a → Moves xs ys (updates mask r (row_meant new) ∷ [])
    unfolding operation_at
    update-moves a bytes d =
        let t = (update-went a d).turned in
        rw (← place.means)
        (moves-one (updates mask (row_meant (get_or (table_at xs LIVE) place.at blank)) (row_meant new)) t (λ tables start s q p.
        let fits = fits-update q p place.at new place.below only-there proper in
        (fits, turned-update q p bytes mask place.at new place.below fits refl t)))

-- ---- The loops

-- the rows that are left are still live
pub record Taking (xs zs : List ℕ) (os : List RowOperation) (i : ℕ) : Type 0 where
  pub moves : Moves xs zs (take i os)
  pub low : ℕ
  pub taken : Taken (live_rows zs) low (drop i (rows_meant (table_at xs CHOSEN)))

pub taking-start : {xs : List ℕ} (os : List RowOperation) → Taken (live_rows xs) 0 (rows_meant (table_at xs CHOSEN))
    → Taking xs xs os 0
taking-start os c = record { moves = moves-none; low = 0; taken = c }

-- the chosen row of a turn
unfoldable chosen_at : List ℕ → ℕ → Row
chosen_at xs i = row_meant (get_or (table_at xs CHOSEN) i blank)

rows_at : (i : ℕ) (l : List Slot) → get_or (rows_meant l) i (row_meant blank) ≡ row_meant (get_or l i blank)
unfolding rows_meant
rows_at i [] = refl
rows_at zero (e ∷ l) = refl
rows_at (suc i) (e ∷ l) = rows_at i l

module _ {xs zs : List ℕ} {os : List RowOperation} {i : ℕ} (run : Running xs)
    (inv : Taking xs zs os i) where
  pub taking-running : Running zs
  taking-running = moves-running run inv.moves

  chosen-same : table_at zs CHOSEN ≡ table_at xs CHOSEN
  unfolding table_bytes
  chosen-same = table_kept inv.moves.between CHOSEN ROWS run.represents.laid.chosen (omega arith) (omega arith)

  worked_same : table_at zs WORKED ≡ table_at xs WORKED
  unfolding table_bytes
  worked_same = table_kept inv.moves.between WORKED ROWS run.represents.laid.worked (omega arith) (omega arith)

  taking-first : i < low32_at xs CHOSEN → First (live_rows zs) (chosen_at xs i) (drop (suc i) (rows_meant (table_at xs CHOSEN)))
  unfolding chosen_at
  taking-first b =
      let l = table_at xs CHOSEN in
      let h : i < length (rows_meant l) = omega (arith, rows-length l, table-length xs CHOSEN) in
      first (rw (drop-cons (rows_meant l) i (row_meant blank) h, rows_at i l) at inv.taken)

  taking-next : {ws : List ℕ} (d o : RowOperation) → i < low32_at xs CHOSEN → length os ≡ low32_at xs CHOSEN → get_or os i d ≡ o
      → handle_of o ≡ (chosen_at xs i).handle → Moves zs ws (o ∷ []) → Taking xs ws os (suc i)
  taking-next d o b len is same m =
      let h : i < length os = omega arith in
      record {
        moves = moves_next os i d o h is inv.moves m;
        low = handle_of o;
        taken = taken-after o taking-running m (rw same (taking-first b).rest);
      }

  taking-all : low32_at xs CHOSEN ≤ i → length os ≡ low32_at xs CHOSEN → Moves xs zs os
  taking-all all len = rw (take_all i os (omega arith)) at inv.moves

-- ---- Deletes

unfoldable pub deletions : List ℕ → List RowOperation
deletions xs = map deletes (rows_meant (table_at xs CHOSEN))

abbrev nothing : RowOperation
nothing = deletes (row_meant blank)

deletes-at : (i : ℕ) (l : List Slot) → get_or (map deletes (rows_meant l)) i nothing ≡ deletes (row_meant (get_or l i blank))
unfolding rows_meant
deletes-at i [] = refl
deletes-at zero (e ∷ l) = refl
deletes-at (suc i) (e ∷ l) = deletes-at i l

deletions-length : (xs : List ℕ) → length (deletions xs) ≡ low32_at xs CHOSEN
unfolding deletions
deletions-length xs =
    length-map (rows_meant (table_at xs CHOSEN)) deletes ∙ rows-length (table_at xs CHOSEN) ∙ table-length xs CHOSEN

module _ {xs zs : List ℕ} {n i : ℕ} (run : Running xs) (sized : n ≡ low32_at xs CHOSEN)
    (inv : Taking xs zs (deletions xs) i) where
  pub deleting-within : i < n → i < low32_at zs CHOSEN
  deleting-within b = omega (arith, table-length zs CHOSEN, table-length xs CHOSEN, ap length (chosen-same run inv))

  module _ (within : i < n) {handle : ℕ} (read : handle ≡ (get_or (table_at zs CHOSEN) i blank).handle) where
    handle-is : handle ≡ (chosen_at xs i).handle
    unfolding chosen_at row_meant
    handle-is = rw (chosen-same run inv) at read

    chosen_live : row_at (chosen_at xs i).handle (live_rows zs) ≡ some (chosen_at xs i)
    chosen_live = (taking-first run inv (omega arith)).found

    pub deleting-can : CanJoin zs 2 0 (find_in handle (table_at zs LIVE))
    deleting-can = rw handle-is (delete-can (taking-running run inv) (chosen_at xs i) chosen_live)

    module _ (ws : List ℕ) (a : Result (Unit {0}) Reason) (d : Deleted zs ws (find_in handle (table_at zs LIVE)) a) where
      pub deleting-went : IsOk a
      deleting-went = (delete-went (taking-running run inv) (chosen_at xs i) chosen_live a (rw handle-is at d)).is

      pub deleting-next : Bytes ws → Taking xs ws (deletions xs) (i + 1)
      unfolding deletions chosen_at handle_of
      deleting-next bytes =
          rw add-one
          (taking-next run inv nothing (deletes (chosen_at xs i)) (omega arith) (deletions-length xs) (deletes-at i (table_at xs CHOSEN)) refl
          (delete-moves (taking-running run inv) (chosen_at xs i) chosen_live a bytes (rw handle-is at d)))

  pub deleting-done : n ≤ i → Acts xs zs (λ m. delete_all (rows_meant (table_at xs CHOSEN))) (Ok tt)
  unfolding deletions delete_all
  deleting-done all =
      moves-acts (deletions xs) run (taking-all run inv (omega arith) (deletions-length xs)) (λ tables s p. refl)

-- ---- Updates

-- each row with the one that takes its place
unfoldable pub updates_to : ℕ → List Row → List Row → List RowOperation
updates_to mask [] news = []
updates_to mask (r ∷ rs) [] = []
updates_to mask (r ∷ rs) (new ∷ news) = updates mask r new ∷ updates_to mask rs news

unfoldable pub rewrites : List ℕ → ℕ → List RowOperation
rewrites xs mask = updates_to mask (rows_meant (table_at xs CHOSEN)) (rows_meant (table_at xs WORKED))

updates_to-with : (mask : ℕ) (rs : List Row) (vss : List (List ℤ)) → updates_of mask rs vss ≡ updates_to mask rs (rows_with mask rs vss)
unfolding updates_of updates_to rows_with
updates_to-with mask [] vss = refl
updates_to-with mask (r ∷ rs) [] = refl
updates_to-with mask (r ∷ rs) (vs ∷ vss) =
    ap (λ (os : List RowOperation). updates mask r (updated_row mask vs r) ∷ os) (updates_to-with mask rs vss)

updates-at : (mask i : ℕ) (l k : List Slot) → length k ≡ length l → i < length l
    → get_or (updates_to mask (rows_meant l) (rows_meant k)) i nothing ≡ updates mask (row_meant (get_or l i blank)) (row_meant (get_or k i blank))
unfolding rows_meant updates_to
updates-at mask i [] k q b = absurd (omega arith)
updates-at mask i (e ∷ l) [] q b = absurd (omega arith)
updates-at mask zero (e ∷ l) (f ∷ k) q b = refl
updates-at mask (suc i) (e ∷ l) (f ∷ k) q b = updates-at mask i l k (omega arith) (omega arith)

updates-length : (mask : ℕ) (l k : List Slot) → length k ≡ length l → length (updates_to mask (rows_meant l) (rows_meant k)) ≡ length l
unfolding rows_meant updates_to
updates-length mask [] k q = refl
updates-length mask (e ∷ l) [] q = absurd (omega arith)
updates-length mask (e ∷ l) (f ∷ k) q = ap suc (updates-length mask l k (omega arith))

with-length : (mask : ℕ) (rs : List Row) (vss : List (List ℤ)) → length vss ≡ length rs → length (rows_with mask rs vss) ≡ length rs
unfolding rows_with
with-length mask [] vss q = refl
with-length mask (r ∷ rs) [] q = absurd (omega arith)
with-length mask (r ∷ rs) (vs ∷ vss) q = ap suc (with-length mask rs vss (omega arith))

with-only : (mask i : ℕ) (d : Row) (rs : List Row) (vss : List (List ℤ)) → length vss ≡ length rs → i < length rs
    → OnlyIn mask (get_or rs i d) (get_or (rows_with mask rs vss) i d)
unfolding rows_with
with-only mask i d [] vss q b = absurd (omega arith)
with-only mask i d (r ∷ rs) [] q b = absurd (omega arith)
with-only mask zero d (r ∷ rs) (vs ∷ vss) q b = updated_row-only mask vs r
with-only mask (suc i) d (r ∷ rs) (vs ∷ vss) q b = with-only mask i d rs vss (omega arith) (omega arith)

module _ {xs : List ℕ} {mask : ℕ} (w : Rewritten xs mask) where
  as_many_lem : length (table_at xs WORKED) ≡ length (table_at xs CHOSEN)
  as_many_lem =
      let q : length w.values ≡ length (rows_meant (table_at xs CHOSEN)) = w.each ∙ sym (rows-length (table_at xs CHOSEN)) in
      sym (rows-length (table_at xs WORKED)) ∙ ap length w.rows ∙ with-length mask (rows_meant (table_at xs CHOSEN)) w.values q
      ∙ rows-length (table_at xs CHOSEN)

  sized-chosen : {n : ℕ} → n ≡ low32_at xs WORKED → n ≡ low32_at xs CHOSEN
  sized-chosen q = q ∙ sym (table-length xs WORKED) ∙ as_many_lem ∙ table-length xs CHOSEN

  rewrites-length : length (rewrites xs mask) ≡ low32_at xs CHOSEN
  unfolding rewrites
  rewrites-length = updates-length mask (table_at xs CHOSEN) (table_at xs WORKED) as_many_lem ∙ table-length xs CHOSEN

  only-columns : (i : ℕ) → i < length (table_at xs CHOSEN) → OnlyIn mask (chosen_at xs i) (row_meant (get_or (table_at xs WORKED) i blank))
  unfolding chosen_at
  only-columns i b =
      let rs = rows_meant (table_at xs CHOSEN) in
      let l = rows-length (table_at xs CHOSEN) in
      let h : i < length rs = omega arith in
      rw (← rows_at i (table_at xs CHOSEN), ← rows_at i (table_at xs WORKED), w.rows)
      (with-only mask i (row_meant blank) rs w.values (w.each ∙ sym l) h)

module _ {xs zs : List ℕ} {mask n i : ℕ} (run : Running xs) (small : mask ≤ 15) (w : Rewritten xs mask)
    (sized_worked : n ≡ low32_at xs WORKED) (inv : Taking xs zs (rewrites xs mask) i) where
  sized : n ≡ low32_at xs CHOSEN
  sized = sized-chosen w sized_worked

  running : Running zs
  running = taking-running run inv

  pub updating-within : i < n → i < low32_at zs WORKED
  updating-within b = omega (arith, table-length zs WORKED, table-length xs WORKED, ap length (worked_same run inv))

  module _ (some : i < n) {e : Slot} {k : ℕ} (read : e ≡ get_or (table_at zs WORKED) i blank) (narrowed : mask < 256 → k ≡ mask) where
    within : i < low32_at xs CHOSEN
    within = omega (arith, sized)

    old : First (live_rows zs) (chosen_at xs i) (drop (suc i) (rows_meant (table_at xs CHOSEN)))
    old = taking-first run inv within

    only : OnlyIn mask (chosen_at xs i) (row_meant e)
    only = rw (read, worked_same run inv) (only-columns w i (omega (arith, within, table-length xs CHOSEN)))

    proper : Proper (row_meant e)
    unfolding row_meant
    proper =
        let p = old.proper.table_fits in
        let q = only.same_table in
        let t : e.table ≤ 3 = omega arith in
        proper-slot {e = e} (rw read (table_fits_lem zs running.represents.bytes WORKED i)) t

    mask_is : k ≡ mask
    mask_is = narrowed (omega arith)

    found-same : find_in e.handle (table_at zs LIVE) ≡ find_in (chosen_at xs i).handle (table_at zs LIVE)
    unfolding row_meant
    found-same = ap (λ (h : ℕ). find_in h (table_at zs LIVE)) only.same_handle

    pub updating-can : CanJoin zs 3 k (find_in e.handle (table_at zs LIVE))
    updating-can = rw (found-same, mask_is) (update-can running (chosen_at xs i) old.found mask e only proper)

    module _ (ws : List ℕ) (a : Result (Unit {0}) Reason) (d : Updated zs ws k e (find_in e.handle (table_at zs LIVE)) a) where
      as_found : Updated zs ws mask e (find_in (chosen_at xs i).handle (table_at zs LIVE)) a
      as_found = rw (found-same, mask_is) at d

      pub updating-went : IsOk a
      updating-went = (update-went running (chosen_at xs i) old.found mask e only proper a as_found).is

      pub updating-next : Bytes ws → Taking xs ws (rewrites xs mask) (i + 1)
      unfolding rewrites chosen_at handle_of
      updating-next bytes =
          let r = chosen_at xs i in
          let b : i < length (table_at xs CHOSEN) = omega (arith, within, table-length xs CHOSEN) in
          let is = updates-at mask i (table_at xs CHOSEN) (table_at xs WORKED) (as_many_lem w) b in
          rw add-one
          (taking-next run inv nothing (updates mask r (row_meant e)) within (rewrites-length w)
          (is ∙ rw (read, worked_same run inv)) refl
          (update-moves running r old.found mask e only proper a bytes as_found))

  pub updating-done : n ≤ i → UpdatesAll xs zs mask
  unfolding rewrites update_all
  updating-done all =
      record {
        acts = λ vss each rows.
            moves-acts (rewrites xs mask) run (taking-all run inv (omega (arith, sized)) (rewrites-length w)) (λ tables s p.
            ap went (updates_to-with mask (rows_meant (table_at xs CHOSEN)) vss ∙ rw rows));
      }
