-- The row operations of a log operation or an action fit the image one after another: inserted rows take the next handles while there is
-- room, and deleted or updated rows are live rows with distinct handles, so that each is still there when its turn comes.
use Rattle.std.specs.Prelude.{if◌then◌else◌}
use mathlib.Core.Path.{◌≡◌, refl, ap, ◌∙◌, subst}
use mathlib.Core.Bool.{Bool, true, false}
use mathlib.Core.List.{List, [], ◌∷◌, map}
use mathlib.Core.Option.{Option, none, some}
use Prim.Native.Nat.{ℕ, zero, suc, ◌+◌, ◌≤◌, ◌<◌}
use native.Mathlib.Omega.{arith}
use lib.IntN.{ℤ, pos, ◌+ℤ◌}
use lib.Signed.{mag}
use lib.Dec.{eqb, ltb, leb}
use lib.Count.{ones}
use lib.ListN.{length, get_or, length-append}
use borrow.Author.Tests.{ltb-false, leb-true, ne_eqb}
use Rattle.meaning.specs.Base.{bit, select, both, each_or, Each, no_element, an_element}
use Rattle.meaning.specs.Values.{in_range, plus}
use Rattle.meaning.specs.Covers.{most_rows, last_handle, Row, Image, Source, Term, Query, Expression, Action, LogOperation, Outcome}
use Rattle.meaning.specs.Covers.{Reason, rolled_back, failed, current, inserted, deleted, new_updated, old_updated, fixed}
use Rattle.meaning.specs.Covers.{column, sum, rollback, insert_row, insert_from_query, delete_rows, update_rows, insert, delete, update}
use Rattle.meaning.specs.Covers.{no_such_row, full, handles_used_up, sum_out_of_range}
use Rattle.meaning.specs.RowOperations.{RowOperation, inserts, deletes, updates, row_at, make, make_all}
use Rattle.meaning.specs.Processing.TransitionTables.{Transition}
use Rattle.meaning.specs.Processing.Queries.{cell, source_rows, all_hold, chosen, work_out, work_out_all}
use Rattle.meaning.specs.Processing.Actions.{Result, went, ends, following, and_then, fails, new_rows, insert_all, delete_all, masked}
use Rattle.meaning.specs.Processing.Actions.{updated_row, updates_of, update_all, operate, rows_of, perform}
use Rattle.meaning.specs.Trace.{OnlyIn}
use Rattle.meaning.specs.Made.{InRange, Proper, Rising, no_row, above, Sound}
use Rattle.meaning.specs.Made.{insert_fits, delete_fits, update_fits, Made, Taken, none_taken, one_taken}
use Rattle.meaning.specs.Made as Of
use Rattle.meaning.proofs.Lists.{clash, same_some, each-select, eqb-self, if-so, maybe-so}
use Rattle.meaning.proofs.Lookups.{row_at-head, row_at-skip, found-so, found-handle, row_at-without-other, row_at-with_row-other}
use Rattle.meaning.proofs.Lookups.{made-append}
use Rattle.meaning.proofs.Images.{rising-proper, make_all-sound}
use Rattle.meaning.proofs.SetColumns.{bit_at, masked-elsewhere, masked-length}

-- ---- What parsers yield

-- four values
pub record Four (vs : List ℤ) : Type 0 where
  pub four : length vs ≡ 4
  pub ranged : InRange vs

-- a mask is 1..15
abbrev pub IsMask : ℕ → Type 0
IsMask mask = (1 ≤ mask) × (mask ≤ 15)

pub data GoodOperation : LogOperation → Type 0 where
  good_insert : {t : ℕ} {vs : List ℤ} → t ≤ 3 → Four vs → GoodOperation (insert t vs)
  good_delete : {h : ℕ} → GoodOperation (delete h)
  good_update : {h mask : ℕ} {vs : List ℤ} → IsMask mask → length vs ≡ ones mask → InRange vs → GoodOperation (update h mask vs)

-- a sum is tested when it is worked out
pub data GoodExpression : Expression → Type 0 where
  good_fixed : {v : ℤ} → mag v ≤ 2147483647 → GoodExpression (fixed v)
  good_column : {c : ℕ} → GoodExpression (column c)
  good_sum : {c : ℕ} {v : ℤ} → GoodExpression (sum c v)

pub data GoodAction : Action → Type 0 where
  good_rollback : GoodAction rollback
  good_insert_row : {t : ℕ} {vs : List ℤ} → t ≤ 3 → Four vs → GoodAction (insert_row t vs)
  good_insert_from : {t : ℕ} {q : Query} {es : List Expression} → t ≤ 3 → length es ≡ 4 → Each GoodExpression es
      → GoodAction (insert_from_query t q es)
  good_delete_rows : {t : ℕ} {ts : List Term} → GoodAction (delete_rows t ts)
  good_update_rows : {t mask : ℕ} {es : List Expression} {ts : List Term} → IsMask mask → length es ≡ ones mask → Each GoodExpression es
      → GoodAction (update_rows t mask es ts)

-- ---- Results whose operations fit

-- the outcomes with which an operation or an action ends a run
pub data Breaks : Outcome → Type 0 where
  by_rollback : Breaks rolled_back
  by_failure : {r : Reason} → Breaks (failed r)

-- and that end the run, if they do, with such an outcome
pub data MadeOf (m : Image) : Result → Type 0 where
  went_made : {os : List RowOperation} → Made m os → MadeOf m (went os)
  ends_made : {o : Outcome} {os : List RowOperation} → Breaks o → Made m os → MadeOf m (ends o os)

pub fails-made : {m : Image} (r : Reason) → MadeOf m (fails r)
unfolding fails
fails-made r = ends_made by_failure Of.none

following-made : {m : Image} {os : List RowOperation} {r : Result} → Made m os → MadeOf (make_all os m) r → MadeOf m (following os r)
unfolding following
following-made g (went_made h) = went_made (made-append g h)
following-made g (ends_made n h) = ends_made n (made-append g h)

pub and_then-made : {m : Image} {r : Result} {f : Image → Result} → Sound m → MadeOf m r → ((n : Image) → Sound n → MadeOf n (f n))
    → MadeOf m (and_then m r f)
unfolding and_then
and_then-made {m} s (went_made {os = os} g) k = following-made g (k (make_all os m) (make_all-sound s g))
and_then-made s (ends_made n g) k = ends_made n g

-- ---- Insert

inserts-made : (t : ℕ) (vss : List (List ℤ)) (m : Image) → t ≤ 3 → Each Four vss → length m.rows + length vss ≤ most_rows
    → m.next + length vss ≤ last_handle → Made m (map inserts (new_rows t m.next vss))
unfolding new_rows make
inserts-made t [] m l no_element room left = Of.none
inserts-made t (vs ∷ vss) m l (an_element f fs) room left =
    let r : Row = record { handle = m.next; table = t; values = vs } in
    let roomy : length m.rows < most_rows = omega arith in
    let handle_left : m.next < last_handle = omega arith in
    Of.more {m = m} (insert_fits refl (record { table_fits = l; four = f.four; in_range = f.ranged }) roomy handle_left)
    (inserts-made t vss (make (inserts r) m) l fs (simp length-append (omega arith)) (omega arith))

pub insert_all-made : (t : ℕ) (vss : List (List ℤ)) (m : Image) → t ≤ 3 → Each Four vss → MadeOf m (insert_all t vss m)
unfolding insert_all
insert_all-made t vss m l fs =
    if-so (MadeOf m) (ltb most_rows (length m.rows + length vss)) (λ e. fails-made full) (λ room.
    if-so (MadeOf m) (ltb last_handle (m.next + length vss)) (λ e. fails-made handles_used_up) (λ left.
    went_made (inserts-made t vss m l fs (ltb-false _ _ room) (ltb-false _ _ left))))

-- ---- Rows that are taken from an image: proper, live, by rising handle

taken-lower : {rows rs : List Row} {low low' : ℕ} → low' ≤ low → Taken rows low rs → Taken rows low' rs
taken-lower l none_taken = none_taken
taken-lower {low' = low'} l (one_taken {r = r} a p q c) = one_taken {low = low'} {r = r} (omega arith) p q c

taken-select : {rows rs : List Row} {low : ℕ} (p : Row → Bool) → Taken rows low rs → Taken rows low (select p rs)
taken-select p none_taken = none_taken
taken-select {rows} {low = low} p (one_taken {r = r} {rs = rs} a b q c) = go (p r) (taken-select p c)
  where
    go : (t : Bool) → Taken rows r.handle (select p rs) → Taken rows low (if t then r ∷ select p rs else select p rs)
    go true ih = one_taken {r = r} a b q ih
    go false ih = taken-lower (omega arith) ih

-- taken too from other rows, in which a lookup of a handle above `low` finds the same
pub taken_in : {rows rows' rs : List Row} {low : ℕ} → ((h : ℕ) → low < h → row_at h rows' ≡ row_at h rows) → Taken rows low rs
    → Taken rows' low rs
taken_in f none_taken = none_taken
taken_in {rows' = rows'} f (one_taken {low = low} {r = r} a p q c) =
    one_taken {r = r} a p (f r.handle a ∙ q) (taken_in (λ h l. f h (let k : low < h = omega arith in k)) c)

-- all rows of a sound image may be taken
pub rising-taken : {high low : ℕ} {rows : List Row} → Rising high low rows → Taken rows low rows
rising-taken no_row = none_taken
rising-taken (above {r = r} {rs = rs} a b p c) =
    one_taken {r = r} a p (row_at-head r.handle r rs (eqb-self r.handle))
    (taken_in (λ h l. row_at-skip h r rs (ne_eqb r.handle h (λ e. omega arith))) (rising-taken c))

-- one row that a lookup has found
one-taken : (m : Image) (h : ℕ) (r : Row) → Sound m → row_at h m.rows ≡ some r → Taken m.rows 0 (r ∷ [])
one-taken m h r s q =
    one_taken {r = r} (positive s.rises q) (found-so h r (rising-proper s.rises) q)
    (ap (λ (k : ℕ). row_at k m.rows) (found-handle h r m.rows q) ∙ q) none_taken
  where
    above_low : {high low : ℕ} {rs : List Row} → Rising high low rs → Each (λ x. low < x.handle) rs
    above_low no_row = no_element
    above_low {low = low} (above {r = x} {rs = rs} a b p c) = an_element a (on (above_low c))
      where
        on : {xs : List Row} → Each (λ y. x.handle < y.handle) xs → Each (λ y. low < y.handle) xs
        on no_element = no_element
        on (an_element {x = y} l ls) = an_element (let k : low < y.handle = omega arith in k) (on ls)

    positive : {rs : List Row} {high : ℕ} → Rising high 0 rs → row_at h rs ≡ some r → 0 < r.handle
    positive c q = found-so {P = λ x. 0 < x.handle} h r (above_low c) q

-- ---- Delete

deletes-made : {low : ℕ} (rs : List Row) (m : Image) → Taken m.rows low rs → Made m (map deletes rs)
unfolding make
deletes-made [] m none_taken = Of.none
deletes-made (r ∷ rs) m (one_taken a p q c) =
    Of.more (delete_fits q)
    (deletes-made rs (make (deletes r) m)
    (taken_in (λ h l. row_at-without-other h r.handle m.rows (ne_eqb r.handle h (λ e. omega arith))) c))

pub delete_all-made : {low : ℕ} (rs : List Row) (m : Image) → Taken m.rows low rs → MadeOf m (delete_all rs)
unfolding delete_all
delete_all-made rs m c = went_made (deletes-made rs m c)

-- ---- Update

masked-range : (mask c : ℕ) (vs olds : List ℤ) → InRange vs → InRange olds → InRange (masked mask c vs olds)
unfolding masked
masked-range mask c vs [] f g = no_element
masked-range mask c [] (o ∷ os) f g = g
masked-range mask c (v ∷ vs) (o ∷ os) (an_element a f) (an_element b g) =
    go (bit mask c) (masked-range mask (suc c) vs os f g) (masked-range mask (suc c) (v ∷ vs) os (an_element a f) g)
  where
    go : (t : Bool) → InRange (masked mask (suc c) vs os) → InRange (masked mask (suc c) (v ∷ vs) os)
        → InRange (if t then v ∷ masked mask (suc c) vs os else o ∷ masked mask (suc c) (v ∷ vs) os)
    go true p q = an_element a p
    go false p q = an_element b q

pub updated_row-only : (mask : ℕ) (vs : List ℤ) (r : Row) → OnlyIn mask r (updated_row mask vs r)
unfolding updated_row cell
updated_row-only mask vs r =
    record {
      same_handle = refl;
      same_table = refl;
      elsewhere = λ c e. masked-elsewhere mask 0 vs r.values c (bit_at mask (let k : c ≡ 0 + c = omega arith in k) e);
    }

pub updated_row-proper : (mask : ℕ) (vs : List ℤ) (r : Row) → InRange vs → Proper r → Proper (updated_row mask vs r)
unfolding updated_row
updated_row-proper mask vs r f p =
    record {
      table_fits = p.table_fits;
      four = masked-length mask 0 vs r.values ∙ p.four;
      in_range = masked-range mask 0 vs r.values f p.in_range;
    }

updates-made : {low : ℕ} (mask : ℕ) (rs : List Row) (vss : List (List ℤ)) (m : Image) → Taken m.rows low rs → Each InRange vss
    → Made m (updates_of mask rs vss)
unfolding updates_of make
updates-made mask [] vss m c f = Of.none
updates-made mask (r ∷ rs) [] m c f = Of.none
updates-made mask (r ∷ rs) (vs ∷ vss) m (one_taken a p q c) (an_element f fs) =
    let new = updated_row mask vs r in
    let only = updated_row-only mask vs r in
    Of.more (update_fits q only (updated_row-proper mask vs r f p))
    (updates-made mask rs vss (make (updates mask r new) m)
    (taken_in (λ h l. row_at-with_row-other h r.handle new m.rows only.same_handle (ne_eqb r.handle h (λ e. omega arith))) c) fs)

pub update_all-made : {low : ℕ} (mask : ℕ) (rs : List Row) (vss : List (List ℤ)) (m : Image) → Taken m.rows low rs → Each InRange vss
    → MadeOf m (update_all mask rs vss)
unfolding update_all
update_all-made mask rs vss m c f = went_made (updates-made mask rs vss m c f)

-- ---- An operation of the log

pub operate-made : (q : LogOperation) (m : Image) → GoodOperation q → Sound m → MadeOf m (operate q m)
unfolding operate
operate-made (insert t vs) m (good_insert l f) s = insert_all-made t (vs ∷ []) m l (an_element f no_element)
operate-made (delete h) m good_delete s =
    maybe-so (MadeOf m) (row_at h m.rows) (λ e. fails-made no_such_row) (λ r e. delete_all-made (r ∷ []) m (one-taken m h r s e))
operate-made (update h mask vs) m (good_update i n f) s =
    maybe-so (MadeOf m) (row_at h m.rows) (λ e. fails-made no_such_row)
    (λ r e. update_all-made mask (r ∷ []) (vs ∷ []) m (one-taken m h r s e) (an_element f no_element))

-- ---- Expressions

-- each result of a list of results, where there is one
pub each-result : {A B : Type 0} {P : A → Type 0} {Q : B → Type 0} {xs : List A} (f : A → Option B) (ys : List B)
    → ((a : A) (b : B) → P a → f a ≡ some b → Q b) → Each P xs → each_or f xs ≡ some ys → (length ys ≡ length xs) × Each Q ys
each-result {Q = Q} f ys g no_element e = subst (λ zs. (length zs ≡ 0) × Each Q zs) (same_some e) (refl, no_element)
each-result {A} {B} {P} {Q} f ys g (an_element {x = x} {xs = xs} p ps) e =
    go (f x) (each_or f xs) refl refl e (λ bs c. each-result f bs g ps c)
  where
    go : (o : Option B) (os : Option (List B)) → f x ≡ o → each_or f xs ≡ os → both o os ≡ some ys
        → ((bs : List B) → each_or f xs ≡ some bs → (length bs ≡ length xs) × Each Q bs) → (length ys ≡ suc (length xs)) × Each Q ys
    go none os d c e ih = clash refl e
    go (some b) none d c e ih = clash refl e
    go (some b) (some bs) d c e ih =
        let r = ih bs c in
        subst (λ zs. (length zs ≡ suc (length xs)) × Each Q zs) (same_some e) (ap suc r.0, an_element (g x b p d) r.1)

pub cell-range : (r : Row) (c : ℕ) → InRange r.values → mag (cell r c) ≤ 2147483647
unfolding cell
cell-range r c f = go r.values c f
  where
    go : (vs : List ℤ) (c : ℕ) → InRange vs → mag (get_or vs c (pos 0)) ≤ 2147483647
    go [] c no_element = omega arith
    go (v ∷ vs) zero (an_element a f) = a
    go (v ∷ vs) (suc c) (an_element a f) = go vs c f

pub plus-range : (a b v : ℤ) → plus a b ≡ some v → mag v ≤ 2147483647
unfolding plus in_range
plus-range a b v e = go (leb (mag (a +ℤ b)) 2147483647) refl e
  where
    go : (t : Bool) → leb (mag (a +ℤ b)) 2147483647 ≡ t → (if t then some (a +ℤ b) else none) ≡ some v → mag v ≤ 2147483647
    go true l e = subst (λ z. mag z ≤ 2147483647) (same_some e) (leb-true _ _ l)
    go false l e = clash refl e

-- a row with values in range, whatever table it names: an action reads no more of those that a query shows
pub record Ranged (r : Row) : Type 0 where
  pub in_range : InRange r.values

pub proper-ranged : {r : Row} → Proper r → Ranged r
proper-ranged p = record { in_range = p.in_range }

rising-ranged : {high low : ℕ} {rs : List Row} → Rising high low rs → Each Ranged rs
rising-ranged no_row = no_element
rising-ranged (above a b p c) = an_element (proper-ranged p) (rising-ranged c)

work_out-range : (r : Row) (e : Expression) (v : ℤ) → Ranged r → GoodExpression e → work_out r e ≡ some v → mag v ≤ 2147483647
unfolding work_out
work_out-range r (fixed w) v p (good_fixed l) q = subst (λ z. mag z ≤ 2147483647) (same_some q) l
work_out-range r (column c) v p good_column q = subst (λ z. mag z ≤ 2147483647) (same_some q) (cell-range r c p.in_range)
work_out-range r (sum c w) v p good_sum q = plus-range (cell r c) w v q

work_out_all-range : (es : List Expression) (r : Row) (vs : List ℤ) → Ranged r → Each GoodExpression es → work_out_all es r ≡ some vs
    → (length vs ≡ length es) × InRange vs
unfolding work_out_all
work_out_all-range es r vs p g q = each-result (work_out r) vs (λ e v l f. work_out-range r e v p l f) g q

-- ---- The rows that a query shows

pub record RangedTables (t : Transition) : Type 0 where
  pub of_inserted : Each Ranged t.inserted_rows
  pub of_deleted : Each Ranged t.deleted_rows
  pub of_new : Each Ranged t.new_updated
  pub of_old : Each Ranged t.old_updated

source-ranged : (t : Transition) (rows : List Row) (s : Source) → RangedTables t → Each Ranged rows → Each Ranged (source_rows t rows s)
unfolding source_rows
source-ranged t rows (current n) p f = each-select (λ r. eqb r.table n) f
source-ranged t rows inserted p f = p.of_inserted
source-ranged t rows deleted p f = p.of_deleted
source-ranged t rows new_updated p f = p.of_new
source-ranged t rows old_updated p f = p.of_old

chosen-ranged : (t : Transition) (m : Image) (q : Query) → RangedTables t → Sound m → Each Ranged (chosen t m.rows q)
unfolding chosen
chosen-ranged t m q p s =
    each-select (all_hold t m.rows q.terms) (source-ranged t m.rows q.source p (rising-ranged s.rises))

-- of a table, they may be taken
pub chosen-taken : (t : Transition) (m : Image) (n : ℕ) (ts : List Term) → Sound m → Taken m.rows 0 (chosen t m.rows (rows_of n ts))
unfolding chosen source_rows rows_of
chosen-taken t m n ts s = taken-select (all_hold t m.rows ts) (taken-select (λ r. eqb r.table n) (rising-taken s.rises))

-- ---- An action of a rule

pub perform-made : (t : Transition) (a : Action) (m : Image) → RangedTables t → GoodAction a → Sound m → MadeOf m (perform t a m)
unfolding perform
perform-made t rollback m p good_rollback s = ends_made by_rollback Of.none
perform-made t (insert_row n vs) m p (good_insert_row l f) s = insert_all-made n (vs ∷ []) m l (an_element f no_element)
perform-made t (insert_from_query n q es) m p (good_insert_from l k g) s =
    maybe-so (MadeOf m) (each_or (work_out_all es) (chosen t m.rows q)) (λ e. fails-made sum_out_of_range) (λ vss e.
    insert_all-made n vss m l
    (each-result {Q = Four} (work_out_all es) vss
    (λ r vs f d. let w = work_out_all-range es r vs f g d in record { four = w.0 ∙ k; ranged = w.1 })
    (chosen-ranged t m q p s) e).1)
perform-made t (delete_rows n ts) m p good_delete_rows s = delete_all-made (chosen t m.rows (rows_of n ts)) m (chosen-taken t m n ts s)
perform-made t (update_rows n mask es ts) m p (good_update_rows i k g) s =
    let rs = chosen t m.rows (rows_of n ts) in
    maybe-so (MadeOf m) (each_or (work_out_all es) rs) (λ e. fails-made sum_out_of_range) (λ vss e.
    update_all-made mask rs vss m (chosen-taken t m n ts s)
    (each-result {Q = InRange} (work_out_all es) vss (λ r vs f d. (work_out_all-range es r vs f g d).1)
    (chosen-ranged t m (rows_of n ts) p s) e).1)
