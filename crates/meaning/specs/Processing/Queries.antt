-- Queries: the rows that a source shows, the terms that hold of a row, the expressions over it.
use Rattle.std.specs.Prelude.{Bool, not, List, ℕ, ℤ, pos, eqb, get_or}
use Rattle.std.proofs.Math.Option.{Option, some}
use Rattle.meaning.specs.Base.{select, any, all, each_or}
use Rattle.meaning.specs.Values.{agree, compare, plus}
use Rattle.meaning.specs.Covers.{Row, Source, Pair, Term, Query, Expression}
use Rattle.meaning.specs.Covers.{current, inserted, deleted, new_updated, old_updated, constant, columns, match, no_match, fixed, column, sum}
use Rattle.meaning.specs.Processing.TransitionTables.{Transition}

-- the value of a row in a column
unfoldable pub cell : Row → ℕ → ℤ
cell r c = get_or r.values c (pos 0)

-- own row and source row agree on all pairs
unfoldable pub agree_on : List Pair → Row → Row → Bool
agree_on ps own other = all (λ p. agree (cell own p.own) (cell other p.other)) ps

module _ (t : Transition) (rows : List Row) where
  -- tables 0..3 are always current; transition tables stay as they were drawn
  unfoldable pub source_rows : Source → List Row
  source_rows (current n) = select (λ r. eqb r.table n) rows
  source_rows inserted = t.inserted_rows
  source_rows deleted = t.deleted_rows
  source_rows new_updated = t.new_updated
  source_rows old_updated = t.old_updated

  -- match holds if some row of the source agrees on all pairs; no match is its opposite
  unfoldable pub holds : Row → Term → Bool
  holds r (constant k c v) = compare k (cell r c) v
  holds r (columns k c d) = compare k (cell r c) (cell r d)
  holds r (match s ps) = any (agree_on ps r) (source_rows s)
  holds r (no_match s ps) = not (any (agree_on ps r) (source_rows s))

  unfoldable pub all_hold : List Term → Row → Bool
  all_hold ts r = all (holds r) ts

  -- by rising handle, as the rows stand in the source
  unfoldable pub chosen : Query → List Row
  chosen q = select (all_hold q.terms) (source_rows q.source)

-- none where a sum leaves 32 bits
unfoldable pub work_out : Row → Expression → Option ℤ
work_out r (fixed v) = some v
work_out r (column c) = some (cell r c)
work_out r (sum c v) = plus (cell r c) v

unfoldable pub work_out_all : List Expression → Row → Option (List ℤ)
work_out_all es r = each_or (work_out r) es
