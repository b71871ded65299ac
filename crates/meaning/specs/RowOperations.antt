-- Row operations and net effects (document 001, section 2).
use Rattle.std.specs.Prelude.{Bool, false, not, List, [], ◌∷◌, ◌++◌, map, ℕ, suc, eqb, ltb, get_or, if◌then◌else◌}
use Rattle.std.proofs.Math.Option.{Option}
use Rattle.std.specs.Int.Bits.{bit_or}
use Rattle.meaning.specs.Base.{select, first_with}
use Rattle.meaning.specs.Covers.{Row, Image}

-- A row operation: the row that it inserts; the row that it deletes, as it is then; the columns that it names, and the row before and
-- after. An update counts even if the value stays the same.
pub data RowOperation : Type 0 where
  inserts : Row → RowOperation
  deletes : Row → RowOperation
  updates : ℕ → Row → Row → RowOperation

unfoldable pub handle_of : RowOperation → ℕ
handle_of (inserts r) = r.handle
handle_of (deletes r) = r.handle
handle_of (updates m old new) = old.handle

-- ---- What an operation does to an image

-- the row with a handle
unfoldable pub row_at : ℕ → List Row → Option Row
row_at h rows = first_with (λ r. eqb r.handle h) rows

unfoldable pub without : ℕ → List Row → List Row
without h rows = select (λ r. not (eqb r.handle h)) rows

-- a row in the place of the one with a handle
unfoldable pub with_row : ℕ → Row → List Row → List Row
with_row h new rows = map (λ r. if eqb r.handle h then new else r) rows

-- an insert takes the next handle, which then rises by one: handles are never given twice
unfoldable pub make : RowOperation → Image → Image
make (inserts r) m = record { next = suc m.next; rows = m.rows ++ (r ∷ []) }
make (deletes r) m = record { next = m.next; rows = without r.handle m.rows }
make (updates mask old new) m = record { next = m.next; rows = with_row old.handle new m.rows }

-- one after another
unfoldable pub make_all : List RowOperation → Image → Image
make_all [] m = m
make_all (o ∷ os) m = make_all os (make o m)

-- ---- Net effects

-- What a stretch of operations did to one handle: nothing, inserted into a table, deleted with a row, or updated with a column mask and
-- the old row.
pub data Effect : Type 0 where
  nothing : Effect
  inserted : ℕ → Effect
  deleted : Row → Effect
  updated : ℕ → Row → Effect

-- The kinds by number: 0 nothing, 1 inserted, 2 deleted, 3 updated.
unfoldable pub kind : Effect → ℕ
kind nothing = 0
kind (inserted t) = 1
kind (deleted r) = 2
kind (updated m r) = 3

-- marks a join that no run can reach
abbrev pub unreachable : ℕ
unreachable = 4

-- How two kinds join: a line for the kind before, a column for the kind that comes after it.
unfoldable pub join_table : List (List ℕ)
join_table =
    (0 ∷ 1 ∷ 2 ∷ 3 ∷ []) ∷
    (1 ∷ unreachable ∷ 0 ∷ 1 ∷ []) ∷
    (2 ∷ unreachable ∷ unreachable ∷ unreachable ∷ []) ∷
    (3 ∷ unreachable ∷ 2 ∷ 3 ∷ []) ∷ []

unfoldable pub join_kind : ℕ → ℕ → ℕ
join_kind a b = get_or (get_or join_table a []) b unreachable

-- The later effect over the earlier one: two updates unite their masks and keep the first old row; a deleted row is as it was when it
-- was deleted.
unfoldable pub over : Effect → Effect → Effect
over nothing b = b
over (inserted t) b = b
over (deleted r) b = b
over (updated m r) nothing = nothing
over (updated m r) (inserted t) = inserted t
over (updated m r) (deleted s) = deleted s
over (updated m r) (updated n s) = updated (bit_or m n) r

-- The two effects as an effect of kind k: nothing, the later one, or the earlier one.
unfoldable pub joined_as : ℕ → Effect → Effect → Effect
joined_as k a b = if eqb k 0 then nothing else if eqb k (kind b) then over a b else a

unfoldable pub join : Effect → Effect → Effect
join a b = joined_as (join_kind (kind a) (kind b)) a b

-- what one operation does to its row's handle
unfoldable pub effect_of : RowOperation → Effect
effect_of (inserts r) = inserted r.table
effect_of (deletes r) = deleted r
effect_of (updates m old new) = updated m old

-- what one operation does to a handle
unfoldable pub single : ℕ → RowOperation → Effect
single h o = if eqb (handle_of o) h then effect_of o else nothing

-- each operation in turn joins what was before
unfoldable pub joined_on : ℕ → Effect → List RowOperation → Effect
joined_on h e [] = e
joined_on h e (o ∷ os) = joined_on h (join e (single h o)) os

-- the net effect of a stretch on a handle
unfoldable pub net : ℕ → List RowOperation → Effect
net h os = joined_on h nothing os

-- ---- The net effect of a stretch on all handles

-- by rising handle, each handle once, and only those with an effect
abbrev pub NetEffect : Type 0
NetEffect = List (ℕ × Effect)

-- a handle among rising ones
unfoldable pub place : ℕ → List ℕ → List ℕ
place h [] = h ∷ []
place h (k ∷ ks) = if ltb h k then h ∷ k ∷ ks else if eqb h k then k ∷ ks else k ∷ place h ks

unfoldable pub named_on : List ℕ → List RowOperation → List ℕ
named_on hs [] = hs
named_on hs (o ∷ os) = named_on (place (handle_of o) hs) os

-- the handles that a stretch names, rising, each once
unfoldable pub named : List RowOperation → List ℕ
named os = named_on [] os

-- in front, if it is something
unfoldable pub entry : ℕ → Effect → NetEffect → NetEffect
entry h nothing es = es
entry h (inserted t) es = (h, inserted t) ∷ es
entry h (deleted r) es = (h, deleted r) ∷ es
entry h (updated m r) es = (h, updated m r) ∷ es

unfoldable pub entries : (ℕ → Effect) → List ℕ → NetEffect
entries f [] = []
entries f (h ∷ hs) = entry h (f h) (entries f hs)

unfoldable pub net_effect : List RowOperation → NetEffect
net_effect os = entries (λ h. net h os) (named os)

-- what it says of a handle
unfoldable pub effect_at : ℕ → NetEffect → Effect
effect_at h [] = nothing
effect_at h (p ∷ ps) = if eqb p.0 h then p.1 else effect_at h ps

-- an effect is on a table
unfoldable pub on_table : ℕ → Effect → Bool
on_table t nothing = false
on_table t (inserted u) = eqb u t
on_table t (deleted r) = eqb r.table t
on_table t (updated m r) = eqb r.table t

-- what a net effect says of the rows of a table
unfoldable pub own_of : ℕ → NetEffect → NetEffect
own_of t es = select (λ p. on_table t p.1) es
