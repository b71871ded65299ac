-- Reasons: an operation or an action ends in one of a few ways, each with the tests that lead there, and no two reasons are due at once.
use Rattle.std.specs.Prelude.{if◌then◌else◌}
use mathlib.Core.Path.{◌≡◌, refl, ap, subst}
use mathlib.Core.Logic.{◌↔◌, ◌≢◌}
use mathlib.Core.Bool.{Bool, true, false}
use mathlib.Core.List.{List, [], ◌∷◌}
use mathlib.Core.Option.{Option, none, some}
use Prim.Native.Nat.{ℕ, suc, ◌+◌, ◌<◌}
use native.Mathlib.Omega.{arith}
use lib.IntN.{ℤ, pos, negsuc, ◌+ℤ◌}
use lib.Signed.{mag}
use lib.Dec.{ltb, leb}
use lib.ListN.{length}
use borrow.Author.Tests.{ltb-true, ltb-false, leb-false, lt-leb}
use Rattle.meaning.specs.Base.{maybe, both, each_or, ◌∈◌, first, later}
use Rattle.meaning.specs.Values.{in_range, plus}
use Rattle.meaning.specs.Covers.{most_rows, last_handle, Row, Image, Expression, Action, LogOperation, Reason, rolled_back, failed}
use Rattle.meaning.specs.Covers.{fixed, column, sum, rollback, insert_row, insert_from_query, delete_rows, update_rows}
use Rattle.meaning.specs.Covers.{insert, delete, update, no_such_row, full, handles_used_up, sum_out_of_range}
use Rattle.meaning.specs.RowOperations.{RowOperation, deletes, row_at}
use Rattle.meaning.specs.Processing.TransitionTables.{Transition}
use Rattle.meaning.specs.Processing.Queries.{cell, chosen, work_out, work_out_all}
use Rattle.meaning.specs.Processing.Actions.{Result, went, ends, fails, insert_all, delete_all, updates_of, update_all}
use Rattle.meaning.specs.Processing.Actions.{rows_of, operate, perform}
use Rattle.meaning.specs.Made.{Sound}
use Rattle.meaning.specs.Runs.{Accepted, image_after}
use Rattle.meaning.specs.Theorems.Reasons.{Leaves32, SumLeaves, Stops, SomeStops, NoRow, TooMany, UsedUp, Due}
use Rattle.meaning.specs.Theorems.Reasons.{DueInLog, DueInAction, FailsWhen, Reasons}
use Rattle.meaning.proofs.Lists.{clash, if-so, maybe-so}
use Rattle.meaning.proofs.Admitted.{admitted}
use Rattle.meaning.proofs.OnlyLog.{only-log}
use Rattle.meaning.proofs.Lookups.{found-handle, found-so, row-none}

-- ---- Sums

mag-leaves : (z : ℤ) → (2147483647 < mag z) ↔ Leaves32 z
mag-leaves (pos n) = (λ h. h, λ h. h)
mag-leaves (negsuc n) = (λ h. omega arith, λ h. omega arith)

plus_none : (a b : ℤ) → (plus a b ≡ none) ↔ Leaves32 (a +ℤ b)
unfolding plus in_range
plus_none a b = (go (leb (mag (a +ℤ b)) 2147483647) refl, λ l. rw (lt-leb (mag (a +ℤ b)) 2147483647 ((mag-leaves (a +ℤ b)).1 l)))
  where
    go : (t : Bool) → leb (mag (a +ℤ b)) 2147483647 ≡ t → (if t then some (a +ℤ b) else none) ≡ none → Leaves32 (a +ℤ b)
    go true e q = clash q refl
    go false e q = (mag-leaves (a +ℤ b)).0 (leb-false (mag (a +ℤ b)) 2147483647 e)

work_out-none : (x : Row) (e : Expression) → (work_out x e ≡ none) ↔ SumLeaves x e
unfolding work_out
work_out-none x (fixed v) = (λ q. clash q refl, λ b. absurd b)
work_out-none x (column c) = (λ q. clash q refl, λ b. absurd b)
work_out-none x (sum c v) = plus_none (cell x c) v

-- ---- Results of a list, or none where an element stops it

module _ {A B : Type 0} (f : A → Option B) {P : A → Type 0} (stops : (x : A) → (f x ≡ none) ↔ P x) where
  abbrev Stopped : List A → Type 0
  Stopped xs = (x : A) × (x ∈ xs) × P x

  data Worked (xs : List A) : Option (List B) → Type 0 where
    stopped : Stopped xs → Worked xs none
    worked : {ys : List B} → ¬ Stopped xs → length ys ≡ length xs → Worked xs (some ys)

  not_in : {x : A} {xs : List A} → x ∈ xs → xs ≢ []
  not_in (first e) q = let z : ◌≡◌ {A = ℕ} 0 1 = cc in omega arith
  not_in (later i) q = let z : ◌≡◌ {A = ℕ} 0 1 = cc in omega arith

  works : (xs : List A) → Worked xs (each_or f xs)
  works [] = worked (λ s. not_in s.1 refl) refl
  works (x ∷ xs) = go (f x) refl (works xs)
    where
      on : {b : B} → f x ≡ some b → ¬ Stopped xs → ¬ Stopped (x ∷ xs)
      on e n (y, first s, p) = clash ((stops x).1 (subst P s p)) e
      on e n (y, later i, p) = n (y, i, p)

      go : {os : Option (List B)} (o : Option B) → f x ≡ o → Worked xs os → Worked (x ∷ xs) (both o os)
      go none e w = stopped (x, first refl, (stops x).0 e)
      go (some b) e (stopped s) = stopped (s.0, later s.1, s.2)
      go (some b) e (worked n l) = worked (on e n) (ap suc l)

  works-none : (xs : List A) → (each_or f xs ≡ none) ↔ Stopped xs
  works-none xs = go (works xs)
    where
      go : {o : Option (List B)} → Worked xs o → (o ≡ none) ↔ Stopped xs
      go (stopped s) = (λ q. s, λ t. refl)
      go (worked n l) = (λ q. clash q refl, λ t. absurd (n t))

row-stops : (es : List Expression) (x : Row) → (work_out_all es x ≡ none) ↔ Stops es x
unfolding work_out_all
row-stops es x = works-none (work_out x) (work_out-none x) es

-- ---- The ways to end

data Way (due : Reason → Type 0) : Result → Type 0 where
  failing : (r : Reason) → due r → ((s : Reason) → due s → s ≡ r) → Way due (fails r)
  going : {os : List RowOperation} → ((s : Reason) → ¬ due s) → Way due (went os)
  rolling : ((s : Reason) → ¬ due s) → Way due (ends rolled_back [])

way-fails : {due : Reason → Type 0} {x : Result} → Way due x → FailsWhen due x
unfolding fails
way-fails {due} (failing r d only) =
    record {
      exactly = λ s. (λ p. subst due (let e : ◌≡◌ {A = Result} (ends (failed r) []) (ends (failed s) []) = p in cc) d, λ e. rw (only s e));
      changes_none = λ s os p. let e : ◌≡◌ {A = Result} (ends (failed r) []) (ends (failed s) os) = p in cc;
    }
way-fails (going n) =
    record {
      exactly = λ s. (λ p. absurd (let z : ◌≡◌ {A = ℕ} 0 1 = cc in omega arith), λ e. absurd (n s e));
      changes_none = λ s os p. absurd (let z : ◌≡◌ {A = ℕ} 0 1 = cc in omega arith);
    }
way-fails (rolling n) =
    record {
      exactly = λ s. (λ p. absurd (let z : ◌≡◌ {A = ℕ} 0 1 = cc in omega arith), λ e. absurd (n s e));
      changes_none = λ s os p. absurd (let z : ◌≡◌ {A = ℕ} 0 1 = cc in omega arith);
    }

-- ---- No two reasons are due at once

module _ (m : Image) (n : ℕ) where
  none-due : {N S : Type 0} → ¬ N → ¬ S → ¬ TooMany m n → ¬ UsedUp m n → (s : Reason) → ¬ Due m N S n s
  none-due no_row no_sum few left no_such_row d = no_row d
  none-due no_row no_sum few left sum_out_of_range d = no_sum d
  none-due no_row no_sum few left full d = few d.1
  none-due no_row no_sum few left handles_used_up d = left d.2

  module _ (S : Type 0) where
    by-sum : S → (s : Reason) → Due m ⊥ S n s → s ≡ sum_out_of_range
    by-sum k no_such_row d = absurd d
    by-sum k sum_out_of_range d = refl
    by-sum k full d = absurd (d.0 k)
    by-sum k handles_used_up d = absurd (d.0 k)

    by-full : ¬ S → TooMany m n → (s : Reason) → Due m ⊥ S n s → s ≡ full
    by-full no_sum k no_such_row d = absurd d
    by-full no_sum k sum_out_of_range d = absurd (no_sum d)
    by-full no_sum k full d = refl
    by-full no_sum k handles_used_up d = absurd (d.1 k)

    by-handles : ¬ S → ¬ TooMany m n → (s : Reason) → Due m ⊥ S n s → s ≡ handles_used_up
    by-handles no_sum few no_such_row d = absurd d
    by-handles no_sum few sum_out_of_range d = absurd (no_sum d)
    by-handles no_sum few full d = absurd (few d.1)
    by-handles no_sum few handles_used_up d = refl

  by-lookup : (N : Type 0) → ¬ TooMany m n → ¬ UsedUp m n → (s : Reason) → Due m N ⊥ n s → s ≡ no_such_row
  by-lookup N few left no_such_row d = refl
  by-lookup N few left sum_out_of_range d = absurd d
  by-lookup N few left full d = absurd (few d.1)
  by-lookup N few left handles_used_up d = absurd (left d.2)

-- ---- Inserts

fit : {a b : ℕ} → ltb a b ≡ false → ¬ (a < b)
fit {a} {b} e l = let k = ltb-false a b e in omega arith

insert-way : {S : Type 0} (t : ℕ) (vss : List (List ℤ)) (m : Image) → ¬ S → Way (Due m ⊥ S (length vss)) (insert_all t vss m)
unfolding insert_all
insert-way {S} t vss m no_sum =
    let n = length vss in
    if-so (Way (Due m ⊥ S n)) (ltb most_rows (length m.rows + n))
    (λ e. let k = ltb-true _ _ e in failing full (no_sum, k) (by-full m n S no_sum k))
    (λ e. if-so (Way (Due m ⊥ S n)) (ltb last_handle (m.next + n))
    (λ d. failing handles_used_up (no_sum, fit e, ltb-true _ _ d) (by-handles m n S no_sum (fit e)))
    (λ d. going (none-due m n (λ b. b) no_sum (fit e) (fit d))))

-- ---- Lookups

-- ---- Rows that are worked out, or of which one stops it

worked-way : {es : List Expression} {xs : List Row} {o : Option (List (List ℤ))} {f : List (List ℤ) → Result} (m : Image) (n : ℕ)
    → Worked (work_out_all es) (row-stops es) xs o
    → ((vss : List (List ℤ)) → ¬ SomeStops es xs → length vss ≡ length xs → Way (Due m ⊥ (SomeStops es xs) n) (f vss))
    → Way (Due m ⊥ (SomeStops es xs) n) (maybe o (fails sum_out_of_range) f)
worked-way {es} {xs} m n (stopped s) k = failing sum_out_of_range s (by-sum m n (SomeStops es xs) s)
worked-way m n (worked {ys = vss} no_sum l) k = k vss no_sum l

-- ---- On a sound image, where what inserts no row meets no limit

module _ (m : Image) (sound : Sound m) where
  few : ¬ TooMany m 0
  few k = let l = sound.rows_fit in omega arith

  left : ¬ UsedUp m 0
  left k = let l = sound.next_fits in omega arith

  lookup-way : (h : ℕ) (f : Row → List RowOperation)
      → Way (Due m (NoRow m h) ⊥ 0) (maybe (row_at h m.rows) (fails no_such_row) (λ r. went (f r)))
  lookup-way h f =
      maybe-so (Way (Due m (NoRow m h) ⊥ 0)) (row_at h m.rows)
      (λ e. failing no_such_row (row-none h m.rows e) (by-lookup m 0 (NoRow m h) few left))
      (λ x e. going (none-due m 0 (λ (n : NoRow m h). found-so h x n e (found-handle h x m.rows e)) (λ b. b) few left))

  log-way : (q : LogOperation) → Way (DueInLog m q) (operate q m)
  unfolding operate delete_all update_all
  log-way (insert t vs) = insert-way t (vs ∷ []) m (λ b. b)
  log-way (delete h) = lookup-way h (λ r. deletes r ∷ [])
  log-way (update h mask vs) = lookup-way h (λ r. updates_of mask (r ∷ []) (vs ∷ []))

  action-way : (t : Transition) (a : Action) → Way (DueInAction m t a) (perform t a m)
  unfolding perform delete_all update_all
  action-way t rollback = rolling (none-due m 0 (λ b. b) (λ b. b) few left)
  action-way t (insert_row n vs) = insert-way n (vs ∷ []) m (λ b. b)
  action-way t (insert_from_query n q es) =
      let xs = chosen t m.rows q in
      worked-way m _ (works (work_out_all es) (row-stops es) xs) (λ vss no_sum l.
      subst (λ (k : ℕ). Way (Due m ⊥ (SomeStops es xs) k) (insert_all n vss m)) l (insert-way n vss m no_sum))
  action-way t (delete_rows n ts) = going (none-due m 0 (λ b. b) (λ b. b) few left)
  action-way t (update_rows n mask es ts) =
      worked-way m _ (works (work_out_all es) (row-stops es) (chosen t m.rows (rows_of n ts))) (λ vss no_sum l.
      going (none-due m 0 (λ b. b) no_sum few left))

pub reasons : {image book log : List ℕ} (a : Accepted image book log) → Reasons a
reasons a =
    record {
      of_log = λ p q. way-fails (log-way (image_after a p.before) ((admitted a).sound p) q);
      of_actions = λ p t act. way-fails (action-way (image_after a p.before) ((admitted a).sound p) t act);
      only_log = only-log a;
    }
