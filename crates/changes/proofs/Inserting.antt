-- The loop that inserts: where there is space for all rows worked out, the i-th is inserted with the i-th handle from the next one on.
use Rattle.std.specs.Prelude.{if◌then◌else◌, Ok, Err, Result as RustResult}
use mathlib.Core.Path.{◌≡◌, refl, sym, ap, ◌∙◌}
use mathlib.Core.Bool.{Bool, true, false}
use mathlib.Core.List.{List, [], ◌∷◌, map}
use Prim.Native.Nat.{ℕ, zero, suc, ◌+◌, ◌≤◌, ◌<◌}
use native.Mathlib.Numerals.{add-one}
use native.Mathlib.Omega.{arith}
use lib.IntN.{ℤ}
use lib.Dec.{ltb}
use lib.ListN.{length, get_or, take, length-map, length-append}
use lib.Seq.{take_all}
use borrow.Author.Tests.{ltb-false}
use Rattle.meaning.specs.Covers.{most_rows, last_handle, Image, full, handles_used_up}
use Rattle.meaning.specs.RowOperations.{RowOperation, inserts, deletes}
use Rattle.meaning.specs.Processing.{State}
use Rattle.meaning.specs.Processing.Actions.{Result, went, new_rows, insert_all}
use Rattle.meaning.specs.Processing.Actions as Actions
use Rattle.meaning.specs.Made.{Proper}
use Rattle.words.specs.Words.{Bytes, low32_at}
use Rattle.words.proofs.Laws.{low32-lt}
use Rattle.slots.specs.declared.Slot.{Slot}
use Rattle.slots.specs.Slots.{table_at, table_bytes, blank}
use Rattle.slots.proofs.Tables.{table-length, table_fits_lem}
use Rattle.room.specs.Room.{NEXT, LIVE, WORKED, ROWS, row_meant}
use Rattle.room.specs.Joins.{as_effect, Joinable}
use Rattle.room.specs.Represents.{Represents, Running}
use Rattle.room.proofs.Kept.{kept_refl, table_kept}
use Rattle.room.proofs.Fitting.{proper-slot, live-length, fits-insert}
use Rattle.room.proofs.Steps.{made_all-none, says-insert, joinable, turned-insert}
use Rattle.rows.specs.declared.Reason.{Reason}
use Rattle.rows.specs.declared.Reason.TheVariants.{Full, HandlesUsedUp}
use Rattle.rows.specs.Rows.{space_for, row_of, inserted_slot, Inserted}
use Rattle.changes.specs.declared.Stop.TheVariants.{Failed}
use Rattle.changes.specs.Steps.{reason_meant, fails, Acts, values_in}
use Rattle.changes.proofs.Moving.{Moves, moves-none, moves-one, moves_next, moves-running, moves-acts}

-- ---- The operations

unfoldable values_of : List Slot → List (List ℤ)
values_of l = map (λ e. (row_meant e).values) l

unfoldable pub insertions : List ℕ → ℕ → List RowOperation
insertions xs table = map inserts (new_rows table (low32_at xs NEXT) (values_in xs))

nothing : RowOperation
nothing = deletes (record { handle = 0; table = 0; values = [] })

new-at : (t h i : ℕ) (l : List Slot) → i < length l
    → get_or (map inserts (new_rows t h (values_of l))) i nothing ≡ inserts (row_meant (row_of (h + i) t (get_or l i blank)))
unfolding new_rows row_meant row_of values_of
new-at t h i [] b = absurd (omega arith)
new-at t h zero (e ∷ l) b = let z : h + 0 ≡ h = omega arith in rw z
new-at t h (suc i) (e ∷ l) b = let z : h + suc i ≡ suc h + i = omega arith in rw z (new-at t (suc h) i l (omega arith))

new-length : (t h : ℕ) (l : List Slot) → length (map inserts (new_rows t h (values_of l))) ≡ length l
unfolding new_rows values_of
new-length t h [] = refl
new-length t h (e ∷ l) = ap suc (new-length t (suc h) l)

module _ (xs : List ℕ) (table : ℕ) where
  insertion-at : (i : ℕ) → i < length (table_at xs WORKED)
      → get_or (insertions xs table) i nothing ≡ inserts (row_meant (row_of (low32_at xs NEXT + i) table (get_or (table_at xs WORKED) i blank)))
  unfolding insertions values_in values_of
  insertion-at i b = new-at table (low32_at xs NEXT) i (table_at xs WORKED) b

  insertions-length : length (insertions xs table) ≡ length (table_at xs WORKED)
  unfolding insertions values_in values_of
  insertions-length = new-length table (low32_at xs NEXT) (table_at xs WORKED)

values_length : (xs : List ℕ) → length (values_in xs) ≡ low32_at xs WORKED
unfolding values_in
values_length xs = length-map (table_at xs WORKED) (λ e. (row_meant e).values) ∙ table-length xs WORKED

-- ---- What the specification says, by the space there is

unfoldable result_of : RustResult (Unit {0}) Reason → List RowOperation → Result
result_of (Ok t) os = went os
result_of (Err r) os = Actions.fails (reason_meant r)

insert_all-by : (t : ℕ) (vss : List (List ℤ)) (m : Image)
    → insert_all t vss m ≡ result_of (space_for (length m.rows) m.next (length vss)) (map inserts (new_rows t m.next vss))
unfolding insert_all space_for result_of
insert_all-by t vss m = go (ltb most_rows (length m.rows + length vss)) (ltb last_handle (m.next + length vss))
  where
    os : List RowOperation
    os = map inserts (new_rows t m.next vss)

    go : (a b : Bool) → (if a then Actions.fails full else if b then Actions.fails handles_used_up else went os)
        ≡ result_of (if a then Err Full else if b then Err HandlesUsedUp else Ok tt) os
    go true b = refl
    go false true = refl
    go false false = refl

insert_all-space : {xs tables : List ℕ} {s : State} (table n : ℕ) → n ≡ low32_at xs WORKED → Represents xs tables s
    → insert_all table (values_in xs) s.image ≡ result_of (space_for (length (table_at xs LIVE)) (low32_at xs NEXT) n) (insertions xs table)
unfolding insertions
insert_all-space {xs} {tables} {s} table n sized p =
    let len : length (values_in xs) ≡ n = values_length xs ∙ sym sized in
    insert_all-by table (values_in xs) s.image ∙ rw (live-length p, p.next, len)

-- ---- One insert

module _ {xs : List ℕ} (table : ℕ) (e : Slot) (proper : Proper (row_meant (inserted_slot xs table e)))
    (room : length (table_at xs LIVE) < ROWS) (left : low32_at xs NEXT < last_handle) where
  insert-joinable : Running xs → Joinable xs (as_effect 1 0 (inserted_slot xs table e))
  unfolding inserted_slot row_of
  insert-joinable run =
      let new = inserted_slot xs table e in
      joinable run.reached run.represents (fits-insert run.represents new refl proper room left) (says-insert new)

  insert-moves : {ys : List ℕ} → Bytes ys → Inserted xs ys table e
      → Moves xs ys (inserts (row_meant (inserted_slot xs table e)) ∷ [])
  unfolding inserted_slot row_of
  insert-moves bytes t =
      let new = inserted_slot xs table e in
      moves-one (inserts (row_meant new)) t (λ tables start s r p.
      let fits = fits-insert p new refl proper room left in
      (fits, turned-insert r p bytes new fits (omega arith) t))

-- a slot of a table, as a row of another
inserted-proper : (xs : List ℕ) → Bytes xs → (table : ℕ) → table ≤ 3 → (base i : ℕ)
    → Proper (row_meant (inserted_slot xs table (get_or (table_at xs base) i blank)))
unfolding inserted_slot row_of
inserted-proper xs bytes table t base i =
    let f = table_fits_lem xs bytes base i in
    proper-slot
    (record {
      handle = low32-lt xs bytes NEXT;
      kind = omega arith;
      mask = omega arith;
      table = omega arith;
      v0 = f.v0;
      v1 = f.v1;
      v2 = f.v2;
      v3 = f.v3;
    })
    t

-- ---- The loop

pub record Inserting (xs zs : List ℕ) (table i : ℕ) : Type 0 where
  pub moves : Moves xs zs (take i (insertions xs table))
  pub live : length (table_at zs LIVE) ≡ length (table_at xs LIVE) + i
  pub next : low32_at zs NEXT ≡ low32_at xs NEXT + i

-- there is space for all
record Roomy (xs : List ℕ) (n : ℕ) : Type 0 where
  live : length (table_at xs LIVE) + n ≤ most_rows
  next : low32_at xs NEXT + n ≤ last_handle

space-roomy : (xs : List ℕ) (n : ℕ) → space_for (length (table_at xs LIVE)) (low32_at xs NEXT) n ≡ Ok tt → Roomy xs n
unfolding space_for
space-roomy xs n e = go (ltb most_rows live) refl (ltb last_handle next) refl e
  where
    live : ℕ
    live = length (table_at xs LIVE) + n

    next : ℕ
    next = low32_at xs NEXT + n

    go : (a : Bool) → ltb most_rows live ≡ a → (b : Bool) → ltb last_handle next ≡ b
        → (if a then Err Full else if b then Err HandlesUsedUp else Ok (tt {0})) ≡ Ok (tt {0}) → Roomy xs n
    go true p b q e = absurd (let z : ◌≡◌ {A = ℕ} 0 1 = cc in omega arith)
    go false p true q e = absurd (let z : ◌≡◌ {A = ℕ} 0 1 = cc in omega arith)
    go false p false q e = record { live = ltb-false most_rows live p; next = ltb-false last_handle next q }

pub inserting-start : (xs : List ℕ) (table : ℕ) → Inserting xs xs table 0
inserting-start xs table = record { moves = moves-none; live = omega arith; next = omega arith }

module _ {xs zs : List ℕ} {table n i : ℕ} (run : Running xs) (t : table ≤ 3)
    (sized : n ≡ low32_at xs WORKED) (space : space_for (length (table_at xs LIVE)) (low32_at xs NEXT) n ≡ Ok tt)
    (inv : Inserting xs zs table i) where
  pub inserting-running : Running zs
  inserting-running = moves-running run inv.moves

  worked_same : table_at zs WORKED ≡ table_at xs WORKED
  unfolding table_bytes
  worked_same = table_kept inv.moves.between WORKED ROWS run.represents.laid.worked (omega arith) (omega arith)

  pub inserting-within : i < n → i < low32_at zs WORKED
  inserting-within b = omega (arith, table-length zs WORKED, table-length xs WORKED, ap length worked_same)

  module _ (some : i < n) {e : Slot} {k : ℕ} (read : e ≡ get_or (table_at zs WORKED) i blank)
      (narrowed : table < 256 → k ≡ table) where
    proper : Proper (row_meant (inserted_slot zs k e))
    proper =
        let q : k ≡ table = narrowed (omega arith) in
        rw (read, q) (inserted-proper zs inserting-running.represents.bytes table t WORKED i)

    room_for : length (table_at zs LIVE) < ROWS
    room_for = let r = space-roomy xs n space in omega (arith, inv.live, r.live)

    handle_left : low32_at zs NEXT < last_handle
    handle_left = let r = space-roomy xs n space in omega (arith, inv.next, r.next)

    -- what the insert requires
    pub inserting-can : (length (table_at zs LIVE) < ROWS) × (low32_at zs NEXT < last_handle)
        × Joinable zs (as_effect 1 0 (inserted_slot zs k e))
    inserting-can = (room_for, handle_left, insert-joinable k e proper room_for handle_left inserting-running)

    is-next : get_or (insertions xs table) i nothing ≡ inserts (row_meant (inserted_slot zs k e))
    unfolding inserted_slot
    is-next =
        let q : k ≡ table = narrowed (omega arith) in
        let b : i < length (table_at xs WORKED) = omega (arith, table-length xs WORKED) in
        insertion-at xs table i b ∙ rw (read, q, worked_same, inv.next)

    pub inserting-next : {ws : List ℕ} → Bytes ws → Inserted zs ws k e → Inserting xs ws table (i + 1)
    inserting-next {ws} bytes t' =
        let b : i < length (insertions xs table) = omega (arith, table-length xs WORKED, insertions-length xs table) in
        let l : length (table_at ws LIVE) ≡ length (table_at zs LIVE) + 1 = ap length t'.rows ∙ simp length-append in
        record {
          moves =
              rw add-one
              (moves_next (insertions xs table) i nothing (inserts (row_meant (inserted_slot zs k e))) b is-next inv.moves
              (insert-moves k e proper room_for handle_left bytes t'));
          live = omega (arith, inv.live);
          next = omega (arith, t'.handle, inv.next);
        }

  pub inserting-done : n ≤ i → Acts xs zs (insert_all table (values_in xs)) (Ok tt)
  unfolding result_of
  inserting-done none =
      let all : take i (insertions xs table) ≡ insertions xs table =
      take_all i (insertions xs table) (omega (arith, table-length xs WORKED, insertions-length xs table)) in
      moves-acts (insertions xs table) run (rw all at inv.moves) (λ tables s p. insert_all-space table n sized p ∙ rw space)

-- ---- No space

module _ {xs : List ℕ} (table n : ℕ) (run : Running xs) (sized : n ≡ low32_at xs WORKED) where
  pub inserting-fails : {reason : Reason} → space_for (length (table_at xs LIVE)) (low32_at xs NEXT) n ≡ Err reason
      → Acts xs xs (insert_all table (values_in xs)) (Err (Failed reason))
  unfolding result_of Actions.fails
  inserting-fails {reason} e =
      record {
        laid = run.represents.laid;
        shown = refl;
        beyond = kept_refl;
        follows = λ tables start s r p. rw (insert_all-space table n sized p, e) (fails {r = reason} {os = []} (rw (made_all-none s) p));
      }
