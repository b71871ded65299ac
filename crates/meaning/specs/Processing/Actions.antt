-- What an operation of the log and an action of a rule do: all rows are chosen and all expressions worked out before a row changes; one
-- that fails changes no row and ends the run.
use Rattle.std.specs.Prelude.{List, [], ◌∷◌, ◌++◌, map, ℕ, suc, ◌+◌, ℤ, ltb, length, if◌then◌else◌}
use Rattle.meaning.specs.Base.{maybe, bit, each_or}
use Rattle.meaning.specs.Covers.{most_rows, last_handle, Row, Image, Query, Term, Action, LogOperation, Outcome, Reason}
use Rattle.meaning.specs.Covers.{current, rollback, insert_row, insert_from_query, delete_rows, update_rows, insert, delete, update}
use Rattle.meaning.specs.Covers.{rolled_back, failed, no_such_row, full, handles_used_up, sum_out_of_range}
use Rattle.meaning.specs.RowOperations.{RowOperation, inserts, deletes, updates, row_at, make_all}
use Rattle.meaning.specs.Processing.TransitionTables.{Transition}
use Rattle.meaning.specs.Processing.Queries.{chosen, work_out_all}

-- The row operations made; the run goes on, or ends with them.
pub data Result : Type 0 where
  went : List RowOperation → Result
  ends : Outcome → List RowOperation → Result

-- the one way or the other
unfoldable pub onward : {A : Type 0} → Result → (List RowOperation → A) → (Outcome → List RowOperation → A) → A
onward (went os) f g = f os
onward (ends o os) f g = g o os

-- what was made before, and then more
unfoldable pub following : List RowOperation → Result → Result
following os (went new) = went (os ++ new)
following os (ends o new) = ends o (os ++ new)

-- on from the image that an image has become, unless the run has ended
unfoldable pub and_then : Image → Result → (Image → Result) → Result
and_then m (went os) f = following os (f (make_all os m))
and_then m (ends o os) f = ends o os

unfoldable pub fails : Reason → Result
fails r = ends (failed r) []

-- ---- Insert

-- each takes the next handle
unfoldable pub new_rows : ℕ → ℕ → List (List ℤ) → List Row
new_rows t h [] = []
new_rows t h (vs ∷ more) = record { handle = h; table = t; values = vs } ∷ new_rows t (suc h) more

-- reason 2 if live rows plus rows to insert pass 64; 3 if the next handle plus rows to insert passes 4294967295
unfoldable pub insert_all : ℕ → List (List ℤ) → Image → Result
insert_all t vss m =
    if ltb most_rows (length m.rows + length vss) then fails full else
    if ltb last_handle (m.next + length vss) then fails handles_used_up else
    went (map inserts (new_rows t m.next vss))

-- ---- Delete

unfoldable pub delete_all : List Row → Result
delete_all rs = went (map deletes rs)

-- ---- Update

-- a value for each set bit of the mask, lowest first, over the old values from column c on
unfoldable pub masked : ℕ → ℕ → List ℤ → List ℤ → List ℤ
masked mask c vs [] = []
masked mask c [] (old ∷ olds) = old ∷ olds
masked mask c (v ∷ vs) (old ∷ olds) = if bit mask c then v ∷ masked mask (suc c) vs olds else old ∷ masked mask (suc c) (v ∷ vs) olds

unfoldable pub updated_row : ℕ → List ℤ → Row → Row
updated_row mask vs r = record { handle = r.handle; table = r.table; values = masked mask 0 vs r.values }

-- each row with its values
unfoldable pub updates_of : ℕ → List Row → List (List ℤ) → List RowOperation
updates_of mask [] vss = []
updates_of mask (r ∷ rs) [] = []
updates_of mask (r ∷ rs) (vs ∷ vss) = updates mask r (updated_row mask vs r) ∷ updates_of mask rs vss

unfoldable pub update_all : ℕ → List Row → List (List ℤ) → Result
update_all mask rs vss = went (updates_of mask rs vss)

-- ---- An operation of the log: a lookup by handle that finds nothing is reason 1

unfoldable pub operate : LogOperation → Image → Result
operate (insert t vs) m = insert_all t (vs ∷ []) m
operate (delete h) m = maybe (row_at h m.rows) (fails no_such_row) (λ r. delete_all (r ∷ []))
operate (update h mask vs) m = maybe (row_at h m.rows) (fails no_such_row) (λ r. update_all mask (r ∷ []) (vs ∷ []))

-- ---- An action of a rule: reason 4 comes before 2 and 3

unfoldable pub rows_of : ℕ → List Term → Query
rows_of t ts = record { source = current t; terms = ts }

unfoldable pub perform : Transition → Action → Image → Result
perform t rollback m = ends rolled_back []
perform t (insert_row n vs) m = insert_all n (vs ∷ []) m
perform t (insert_from_query n q es) m =
    maybe (each_or (work_out_all es) (chosen t m.rows q)) (fails sum_out_of_range) (λ vss. insert_all n vss m)
perform t (delete_rows n ts) m = delete_all (chosen t m.rows (rows_of n ts))
perform t (update_rows n mask es ts) m =
    let rs = chosen t m.rows (rows_of n ts) in
    maybe (each_or (work_out_all es) rs) (fails sum_out_of_range) (update_all mask rs)
