-- What an operation of the log and an action make where nothing fails, by their definitions alone: an expression that has a result comes
-- to what it is worth, so the values for the chosen rows are a map over them, and operations built along rows are one for each, in order.
use Rattle.std.specs.Prelude.{if◌then◌else◌}
use mathlib.Core.Path.{◌≡◌, refl, sym, ap, ap₂, ◌∙◌, subst}
use mathlib.Core.Bool.{Bool, true, false}
use mathlib.Core.List.{List, [], ◌∷◌, map}
use mathlib.Core.Option.{Option, none, some}
use Prim.Native.Nat.{ℕ, zero, suc, ◌+◌}
use native.Mathlib.Omega.{arith}
use lib.IntN.{ℤ, ◌+ℤ◌}
use lib.Signed.{mag}
use lib.Count.{ones}
use lib.Dec.{eqb, ltb, leb}
use lib.ListN.{length, length-map, get_elem?}
use Rattle.meaning.specs.Base.{both, each_or, ◌∈◌, first, later, Each, no_element, an_element}
use Rattle.meaning.specs.Values.{in_range, plus}
use Rattle.meaning.specs.Covers.{most_rows, last_handle, Row, Image, Expression, Term, Query, Reason, fixed, column, sum}
use Rattle.meaning.specs.Covers.{insert_from_query, delete_rows, update_rows, delete, update}
use Rattle.meaning.specs.RowOperations.{RowOperation, inserts, deletes, updates, row_at}
use Rattle.meaning.specs.Processing.TransitionTables.{Transition}
use Rattle.meaning.specs.Processing.Queries.{cell, source_rows, all_hold, chosen, work_out, work_out_all}
use Rattle.meaning.specs.Processing.Actions.{fails, new_rows, insert_all, delete_all, updates_of, update_all, operate, rows_of, perform}
use Rattle.meaning.specs.Made.{Proper}
use Rattle.meaning.specs.Theorems.Performs.{worth, row_after, OneEach, GoesOn, goes, stops, inserts_at, LogMakes, ActionGives}
use Rattle.meaning.proofs.Lists.{clash, same_some, each-select, if-so, maybe-so}
use Rattle.meaning.proofs.Lookups.{Look, head, look, row_at-none, found-so, found-handle}
use Rattle.meaning.proofs.Lookups.{Look.later as behind}
use Rattle.meaning.proofs.SetColumns.{row-after}

-- ---- Expressions

plus-worth : (a b v : ℤ) → plus a b ≡ some v → v ≡ a +ℤ b
unfolding plus in_range
plus-worth a b v q = go (leb (mag (a +ℤ b)) 2147483647) q
  where
    go : (t : Bool) → (if t then some (a +ℤ b) else none) ≡ some v → v ≡ a +ℤ b
    go true q = sym (same_some q)
    go false q = clash refl q

work_out-worth : (x : Row) (e : Expression) (v : ℤ) → work_out x e ≡ some v → v ≡ worth x e
unfolding work_out
work_out-worth x (fixed w) v q = sym (same_some q)
work_out-worth x (column c) v q = sym (same_some q)
work_out-worth x (sum c w) v q = plus-worth (cell x c) w v q

-- results that are all there are those of a map
results-map : {A B : Type 0} (f : A → Option B) (g : A → B) → ((x : A) (y : B) → f x ≡ some y → y ≡ g x)
    → (xs : List A) (ys : List B) → each_or f xs ≡ some ys → ys ≡ map g xs
results-map f g h [] ys q = sym (same_some q)
results-map {A} {B} f g h (x ∷ xs) ys q = go (f x) (each_or f xs) refl q (results-map f g h xs)
  where
    go : (o : Option B) (os : Option (List B)) → f x ≡ o → both o os ≡ some ys → ((zs : List B) → os ≡ some zs → zs ≡ map g xs)
        → ys ≡ g x ∷ map g xs
    go none os e q ih = clash refl q
    go (some y) none e q ih = clash refl q
    go (some y) (some zs) e q ih = sym (same_some q) ∙ ap₂ (λ (b : B) (bs : List B). b ∷ bs) (h x y e) (ih zs refl)

-- the values of a row, and those of all chosen rows
abbrev worths : List Expression → Row → List ℤ
worths es x = map (worth x) es

all-worth : (es : List Expression) (xs : List Row) (vss : List (List ℤ)) → each_or (work_out_all es) xs ≡ some vss
    → vss ≡ map (worths es) xs
unfolding work_out_all
all-worth es = results-map (work_out_all es) (worths es) (λ x. results-map (work_out x) (worth x) (work_out-worth x) es)

-- ---- One operation for each row

module _ {f : ℕ → Row → RowOperation} where
  no_row : OneEach [] f []
  no_row = record { as_many = refl; each = λ k x q. clash refl q }

  one-row : {x : Row} {xs : List Row} {o : RowOperation} {os : List RowOperation} → o ≡ f 0 x → OneEach xs (λ k y. f (suc k) y) os
      → OneEach (x ∷ xs) f (o ∷ os)
  one-row {x} {xs} {o} {os} e rest = record { as_many = ap suc rest.as_many; each = go }
    where
      go : (k : ℕ) (y : Row) → get_elem? (x ∷ xs) k ≡ some y → get_elem? (o ∷ os) k ≡ some (f k y)
      go zero y q = ap some (e ∙ ap (f 0) (same_some q))
      go (suc k) y q = rest.each k y q

module _ (n : ℕ) (values : Row → List ℤ) where
  abbrev insertion : ℕ → Row → RowOperation
  insertion h x = inserts (record { handle = h; table = n; values = values x })

  one-insert : (h : ℕ) (xs : List Row) → OneEach xs (λ k x. insertion (h + k) x) (map inserts (new_rows n h (map values xs)))
  unfolding new_rows
  one-insert h [] = no_row
  one-insert h (x ∷ xs) =
      let here : h ≡ h + 0 = omega arith in
      let on : (k : ℕ) → suc h + k ≡ h + suc k = λ k. omega arith in
      one-row (ap (λ (j : ℕ). insertion j x) here)
      (subst (λ (f : ℕ → ℕ). OneEach xs (λ k y. insertion (f k) y) (map inserts (new_rows n (suc h) (map values xs)))) (λ i k. on k i)
      (one-insert (suc h) xs))

one-delete : (xs : List Row) → OneEach xs (λ k x. deletes x) (map deletes xs)
one-delete [] = no_row
one-delete (x ∷ xs) = one-row refl (one-delete xs)

module _ (mask : ℕ) (values : Row → List ℤ) (as_many_lem : (x : Row) → length (values x) ≡ ones mask) where
  one-update : (xs : List Row) → Each Proper xs
      → OneEach xs (λ k x. updates mask x (row_after mask (values x) x)) (updates_of mask xs (map values xs))
  unfolding updates_of
  one-update [] no_element = no_row
  one-update (x ∷ xs) (an_element p rest) =
      one-row (ap (updates mask x) (row-after mask (values x) x (as_many_lem x) p.four)) (one-update xs rest)

-- ---- Inserts and lookups

module _ {so : List RowOperation → Type 0} where
  fails-stops : (r : Reason) → GoesOn so (fails r)
  unfolding fails
  fails-stops r = stops

  insert-goes : (n : ℕ) (vss : List (List ℤ)) (m : Image) → so (map inserts (new_rows n m.next vss)) → GoesOn so (insert_all n vss m)
  unfolding insert_all
  insert-goes n vss m p =
      if-so (GoesOn so) (ltb most_rows (length m.rows + length vss)) (λ e. fails-stops _)
      (λ e. if-so (GoesOn so) (ltb last_handle (m.next + length vss)) (λ d. fails-stops _) (λ d. goes p))

pub insert-one : (n : ℕ) (vs : List ℤ) (m : Image) → GoesOn (λ os. os ≡ inserts_at m n 0 vs ∷ []) (insert_all n (vs ∷ []) m)
unfolding new_rows
insert-one n vs m =
    let z : m.next ≡ m.next + 0 = omega arith in
    insert-goes n (vs ∷ []) m (ap (λ (h : ℕ). inserts (record { handle = h; table = n; values = vs }) ∷ []) z)

found_in : (h : ℕ) (r : Row) (rs : List Row) → row_at h rs ≡ some r → r ∈ rs
found_in h r [] q = clash (row_at-none h) q
found_in h r (x ∷ xs) q = go (look h x xs (some r) q) (found_in h r xs)
  where
    go : Look h x xs (some r) → (row_at h xs ≡ some r → r ∈ xs) → r ∈ (x ∷ xs)
    go (head e o) ih = first (same_some o)
    go (behind e o) ih = later (ih o)

-- ---- Operations of the log, and actions, on an image

module _ (m : Image) where
  pub log-deletes : (h : ℕ) → GoesOn (LogMakes m (delete h)) (operate (delete h) m)
  unfolding operate delete_all
  log-deletes h =
      maybe-so (GoesOn (LogMakes m (delete h))) (row_at h m.rows) (λ e. fails-stops _)
      (λ x e. goes (x, found_in h x m.rows e, found-handle h x m.rows e, refl))

  pub log-updates : (h mask : ℕ) (vs : List ℤ) → length vs ≡ ones mask → Each Proper m.rows
      → GoesOn (LogMakes m (update h mask vs)) (operate (update h mask vs) m)
  unfolding operate update_all updates_of
  log-updates h mask vs as_many_lem proper =
      maybe-so (GoesOn (LogMakes m (update h mask vs))) (row_at h m.rows) (λ e. fails-stops _)
      (λ x e.
      let after = row-after mask vs x as_many_lem (found-so h x proper e).four in
      goes (x, found_in h x m.rows e, found-handle h x m.rows e, ap (λ (y : Row). updates mask x y ∷ []) after))

  module _ (t : Transition) where
    pub action-inserts : (n : ℕ) (q : Query) (es : List Expression)
        → ActionGives m t (insert_from_query n q es) (perform t (insert_from_query n q es) m)
    unfolding perform
    action-inserts n q es =
        let xs = chosen t m.rows q in
        maybe-so (ActionGives m t (insert_from_query n q es)) (each_or (work_out_all es) xs) (λ e. fails-stops _)
        (λ vss e. rw (all-worth es xs vss e) (insert-goes n (map (worths es) xs) m (one-insert n (worths es) m.next xs)))

    pub action-deletes : (n : ℕ) (ts : List Term) → ActionGives m t (delete_rows n ts) (perform t (delete_rows n ts) m)
    unfolding perform delete_all
    action-deletes n ts = goes (one-delete (chosen t m.rows (rows_of n ts)))

    chosen-proper : (n : ℕ) (ts : List Term) → Each Proper m.rows → Each Proper (chosen t m.rows (rows_of n ts))
    unfolding chosen source_rows rows_of
    chosen-proper n ts proper = each-select (all_hold t m.rows ts) (each-select (λ r. eqb r.table n) proper)

    pub action-updates : (n mask : ℕ) (es : List Expression) (ts : List Term) → length es ≡ ones mask → Each Proper m.rows
        → ActionGives m t (update_rows n mask es ts) (perform t (update_rows n mask es ts) m)
    unfolding perform update_all
    action-updates n mask es ts as_many_lem proper =
        let xs = chosen t m.rows (rows_of n ts) in
        maybe-so (ActionGives m t (update_rows n mask es ts)) (each_or (work_out_all es) xs) (λ e. fails-stops _)
        (λ vss e. rw (all-worth es xs vss e)
        (goes (one-update mask (worths es) (λ x. length-map es (worth x) ∙ as_many_lem) xs (chosen-proper n ts proper))))
