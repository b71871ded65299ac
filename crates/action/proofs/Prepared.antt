-- What stands ready before an action changes a row: the rows that its query yields are chosen, and where every expression of every one of
-- them has a value, the rows worked out are these with their values; else some sum left 32 bits, and the action fails for it.
use Rattle.std.specs.Prelude.{Result, Ok, Err}
use mathlib.Core.Path.{◌≡◌, refl, sym, ap, ◌∙◌}
use mathlib.Core.List.{List, [], ◌∷◌, map}
use mathlib.Core.Option.{Option, none, some}
use Prim.Native.Nat.{ℕ, ◌≤◌}
use native.Mathlib.Omega.{arith}
use lib.IntN.{ℤ}
use lib.ListN.{length, length-map}
use borrow.Author.Tests.{lt-ltb}
use Rattle.meaning.specs.Base.{maybe, each_or, Each, no_element, an_element}
use Rattle.meaning.specs.Covers.{Row, Query, Term, Expression, insert_from_query, delete_rows, update_rows}
use Rattle.meaning.specs.Processing.Queries.{chosen, work_out, work_out_all}
use Rattle.meaning.specs.Processing.Actions.{perform, rows_of, insert_all, delete_all, updated_row, masked, fails}
use Rattle.meaning.proofs.Lists.{clash, same_some}
use Rattle.meaning.proofs.ActionsFit.{each-result, chosen-taken}
use Rattle.meaning.specs.Made.{Taken}
use Rattle.words.specs.Words.{Bytes}
use Rattle.slots.specs.declared.Slot.{Slot}
use Rattle.slots.specs.Slots.{table_at}
use Rattle.terms.specs.declared.Query.{Query as QueryAt}
use Rattle.terms.specs.declared.Terms.{Terms}
use Rattle.terms.specs.Terms.{source_meant, terms_meant, query_meant}
use Rattle.room.specs.Room.{CHOSEN, WORKED, Laid, row_meant, rows_meant, rows_with, live_rows, transition_in}
use Rattle.room.specs.Represents.{Running}
use Rattle.room.proofs.Live.{reached-sound}
use Rattle.query.specs.Chosen.{Chose}
use Rattle.rows.specs.declared.Reason.{Reason}
use Rattle.rows.specs.declared.Reason.TheVariants.{SumOutOfRange}
use Rattle.working.specs.Working.{if_worked, OutOfRange, WorkedOut, WorkedValues}
use Rattle.changes.specs.declared.Stop.TheVariants.{Failed}
use Rattle.changes.specs.Steps.{Step, Acts, values_in, Rewritten, UpdatesAll}
use Rattle.action.proofs.Aside.{Aside, aside-chosen, aside-worked, aside-more, chosen-stays, live-aside, acts-after, fails-after}

-- ---- Lists of results

each-any : {A : Type 0} (xs : List A) → Each (λ x. Unit {0}) xs
each-any [] = no_element
each-any (x ∷ xs) = an_element tt (each-any xs)

worked-lengths : (es : List Expression) (rs : List Row) (vss : List (List ℤ)) → each_or (work_out_all es) rs ≡ some vss
    → (length vss ≡ length rs) × Each (λ vs. length vs ≡ length es) vss
unfolding work_out_all
worked-lengths es rs vss q =
    each-result {P = λ r. Unit {0}} {Q = λ vs. length vs ≡ length es} (work_out_all es) vss
    (λ r vs u e. (each-result {P = λ x. Unit {0}} {Q = λ v. Unit {0}} (work_out r) vs (λ x v a b. tt) (each-any es) e).0)
    (each-any rs) q

-- all four values are replaced
masked-all : (vs olds : List ℤ) → length vs ≡ 4 → length olds ≡ 4 → masked 15 0 vs olds ≡ vs
unfolding masked
masked-all [] olds p q = absurd (omega arith)
masked-all (a ∷ []) olds p q = absurd (omega arith)
masked-all (a ∷ b ∷ []) olds p q = absurd (omega arith)
masked-all (a ∷ b ∷ c ∷ []) olds p q = absurd (omega arith)
masked-all (a ∷ b ∷ c ∷ d ∷ e ∷ vs) olds p q = absurd (omega arith)
masked-all (a ∷ b ∷ c ∷ d ∷ []) [] p q = absurd (omega arith)
masked-all (a ∷ b ∷ c ∷ d ∷ []) (w ∷ []) p q = absurd (omega arith)
masked-all (a ∷ b ∷ c ∷ d ∷ []) (w ∷ x ∷ []) p q = absurd (omega arith)
masked-all (a ∷ b ∷ c ∷ d ∷ []) (w ∷ x ∷ y ∷ []) p q = absurd (omega arith)
masked-all (a ∷ b ∷ c ∷ d ∷ []) (w ∷ x ∷ y ∷ z ∷ []) p q = refl
masked-all (a ∷ b ∷ c ∷ d ∷ []) (w ∷ x ∷ y ∷ z ∷ u ∷ olds) p q = absurd (omega arith)

values-with : (l : List Slot) (vss : List (List ℤ)) → length vss ≡ length (rows_meant l) → Each (λ vs. length vs ≡ 4) vss
    → map (λ (r : Row). r.values) (rows_with 15 (rows_meant l) vss) ≡ vss
unfolding rows_meant row_meant rows_with updated_row
values-with [] [] q f = refl
values-with [] (vs ∷ vss) q f = absurd (omega arith)
values-with (e ∷ l) [] q f = absurd (omega arith)
values-with (e ∷ l) (vs ∷ vss) q (an_element four f) =
    rw (masked-all vs (row_meant e).values four refl, values-with l vss (omega arith) f)

values_of : (l : List Slot) → map (λ e. (row_meant e).values) l ≡ map (λ (r : Row). r.values) (rows_meant l)
unfolding rows_meant
values_of [] = refl
values_of (e ∷ l) = ap (λ (vss : List (List ℤ)). (row_meant e).values ∷ vss) (values_of l)

-- ---- Ready

pub record Prepared (xs zs : List ℕ) (q : Query) (es : List Expression) (mask : ℕ) (r : Result (Unit {0}) Reason) : Type 0 where
  pub aside : Aside xs zs
  pub rows : rows_meant (table_at zs CHOSEN) ≡ chosen (transition_in xs) (live_rows xs) q
  pub worked : if_worked r (rows_meant (table_at zs WORKED))
      ≡ maybe (each_or (work_out_all es) (rows_meant (table_at zs CHOSEN))) none
      (λ vss. some (rows_with mask (rows_meant (table_at zs CHOSEN)) vss))
  pub stopped : OutOfRange r

pub prepared : {xs ys zs : List ℕ} {q : Query} {es : List Expression} {mask : ℕ} {r : Result (Unit {0}) Reason} → Laid xs → Chose xs ys q
    → WorkedOut ys zs es mask r → Prepared xs zs q es mask r
prepared {xs} {ys} {zs} l c w =
    let a = aside-chosen l c in
    let same : table_at zs CHOSEN ≡ table_at ys CHOSEN = chosen-stays a.laid w.works in
    record {
      aside = aside-more a (aside-worked a.laid w.works);
      rows = ap rows_meant same ∙ c.rows;
      worked = rw same w.rows;
      stopped = w.stopped;
    }

-- the values that were worked out
pub record Ready (zs : List ℕ) (es : List Expression) (mask : ℕ) : Type 0 where
  pub values : List (List ℤ)
  pub found : each_or (work_out_all es) (rows_meant (table_at zs CHOSEN)) ≡ some values
  pub each : length values ≡ length (rows_meant (table_at zs CHOSEN))
  pub long : Each (λ vs. length vs ≡ length es) values
  pub rows : rows_meant (table_at zs WORKED) ≡ rows_with mask (rows_meant (table_at zs CHOSEN)) values

pub ready : {xs zs : List ℕ} {q : Query} {es : List Expression} {mask : ℕ} → Prepared xs zs q es mask (Ok tt) → Ready zs es mask
unfolding if_worked
ready {zs = zs} {es = es} {mask = mask} p = go (each_or (work_out_all es) (rows_meant (table_at zs CHOSEN))) refl p.worked
  where
    go : (o : Option (List (List ℤ))) → each_or (work_out_all es) (rows_meant (table_at zs CHOSEN)) ≡ o
        → some (rows_meant (table_at zs WORKED)) ≡ maybe o none (λ vss. some (rows_with mask (rows_meant (table_at zs CHOSEN)) vss))
        → Ready zs es mask
    go none e w = clash w refl
    go (some vss) e w =
        let n = worked-lengths es (rows_meant (table_at zs CHOSEN)) vss e in
        record { values = vss; found = e; each = n.0; long = n.1; rows = same_some w }

unready : {xs zs : List ℕ} {q : Query} {es : List Expression} {mask : ℕ} {reason : Reason} → Prepared xs zs q es mask (Err reason)
    → each_or (work_out_all es) (rows_meant (table_at zs CHOSEN)) ≡ none
unfolding if_worked
unready {zs = zs} {es = es} {mask = mask} p = go (each_or (work_out_all es) (rows_meant (table_at zs CHOSEN))) refl p.worked
  where
    go : (o : Option (List (List ℤ))) → each_or (work_out_all es) (rows_meant (table_at zs CHOSEN)) ≡ o
        → none ≡ maybe o none (λ vss. some (rows_with mask (rows_meant (table_at zs CHOSEN)) vss))
        → each_or (work_out_all es) (rows_meant (table_at zs CHOSEN)) ≡ none
    go none e w = e
    go (some vss) e w = clash (sym w) refl

-- ---- The rows of a table

query-rows : (s : List ℕ) (triggers : ℕ) (q : QueryAt) → q.source ≤ 3
    → query_meant s triggers q ≡ rows_of q.source (terms_meant s triggers q.terms)
unfolding query_meant source_meant rows_of
query-rows s triggers q h = rw (lt-ltb q.source 4 (omega arith))

pub table-chosen : {xs ys : List ℕ} (s : List ℕ) (triggers table : ℕ) (terms : Terms) → table ≤ 3
    → Chose xs ys (query_meant s triggers (record { source = table; terms = terms }))
    → Chose xs ys (rows_of table (terms_meant s triggers terms))
table-chosen s triggers table terms h c = rw (query-rows s triggers (record { source = table; terms = terms }) h) at c

module _ {xs ys : List ℕ} (run : Running xs) (a : Aside xs ys) (table : ℕ) (ts : List Term)
    (rows : rows_meant (table_at ys CHOSEN) ≡ chosen (transition_in xs) (live_rows xs) (rows_of table ts)) where
  pub taken-rows : Taken (live_rows ys) 0 (rows_meant (table_at ys CHOSEN))
  taken-rows =
      rw (live-aside run.represents.laid a, rows, run.represents.rows)
      (chosen-taken (transition_in xs) run.state.image table ts (reached-sound run.reached))

  pub acts-delete : {zs : List ℕ} → Bytes ys → Acts ys zs (λ m. delete_all (rows_meant (table_at ys CHOSEN))) (Ok tt)
      → Acts xs zs (perform (transition_in xs) (delete_rows table ts)) (Ok tt)
  unfolding perform
  acts-delete bytes act =
      acts-after run.represents.laid a bytes (λ tables s p. rw (← p.rows, rows)) act

-- ---- An insert of one row

pub acts-insert : {xs ys zs : List ℕ} {vs : List ℤ} {r : Step} (table : ℕ) → Laid xs → WorkedValues xs ys vs → Bytes ys
    → Acts ys zs (insert_all table (values_in ys)) r → Acts xs zs (insert_all table (vs ∷ [])) r
unfolding values_in
acts-insert table l w bytes act =
    acts-after l (aside-worked l w.works) bytes (λ tables s p. rw w.values) act

-- ---- An insert from a query

module _ {xs zs : List ℕ} {q : Query} {es : List Expression} (table : ℕ) (l : Laid xs) where
  pub query-fails : {reason : Reason} → Prepared xs zs q es 15 (Err reason) → Bytes zs
      → Acts xs zs (perform (transition_in xs) (insert_from_query table q es)) (Err (Failed reason))
  unfolding perform fails
  query-fails p bytes =
      rw p.stopped (fails-after l p.aside bytes SumOutOfRange (λ tables s r. rw (← r.rows, ← p.rows, unready p)))

  pub query-inserts : {ws : List ℕ} {r : Step} → length es ≡ 4 → Prepared xs zs q es 15 (Ok tt) → Bytes zs
      → Acts zs ws (insert_all table (values_in zs)) r → Acts xs ws (perform (transition_in xs) (insert_from_query table q es)) r
  unfolding perform values_in
  query-inserts four p bytes act =
      let y = ready p in
      let f : Each (λ vs. length vs ≡ 4) y.values = rw (← four) y.long in
      let same : map (λ e. (row_meant e).values) (table_at zs WORKED) ≡ y.values =
      values_of (table_at zs WORKED) ∙ ap (map (λ (r : Row). r.values)) y.rows
      ∙ values-with (table_at zs CHOSEN) y.values y.each f in
      acts-after l p.aside bytes (λ tables s r. rw (← r.rows, ← p.rows, y.found, same)) act

-- ---- An update

ready-each : {zs : List ℕ} {es : List Expression} {mask : ℕ} (y : Ready zs es mask) → length y.values ≡ length (table_at zs CHOSEN)
unfolding rows_meant
ready-each {zs = zs} y = y.each ∙ length-map (table_at zs CHOSEN) row_meant

pub update-ready : {xs zs : List ℕ} {q : Query} {es : List Expression} {mask : ℕ} → Prepared xs zs q es mask (Ok tt) → Rewritten zs mask
update-ready p =
    let y = ready p in
    record { values = y.values; each = ready-each y; rows = y.rows }

module _ {xs zs : List ℕ} {mask : ℕ} {es : List Expression} (table : ℕ) (ts : List Term) (l : Laid xs) where
  pub update-fails : {reason : Reason} → Prepared xs zs (rows_of table ts) es mask (Err reason) → Bytes zs
      → Acts xs zs (perform (transition_in xs) (update_rows table mask es ts)) (Err (Failed reason))
  unfolding perform fails
  update-fails p bytes =
      rw p.stopped (fails-after l p.aside bytes SumOutOfRange (λ tables s r. rw (← r.rows, ← p.rows, unready p)))

  pub query-updates : {ws : List ℕ} → Prepared xs zs (rows_of table ts) es mask (Ok tt) → Bytes zs → UpdatesAll zs ws mask
      → Acts xs ws (perform (transition_in xs) (update_rows table mask es ts)) (Ok tt)
  unfolding perform
  query-updates p bytes u =
      let y = ready p in
      acts-after l p.aside bytes (λ tables s r. rw (← r.rows, ← p.rows, y.found)) (u.acts y.values (ready-each y) y.rows)
