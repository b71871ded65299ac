-- Laws of tests over lists: over rows that stand as slots, and over the rows of a source.
-- A source's rows are those that it shows of the table where they stand, so a test over them is a test over that table.
use Rattle.std.specs.Prelude.{if◌then◌else◌}
use mathlib.Core.Path.{◌≡◌, refl, sym, ap, ◌∙◌}
use mathlib.Core.Bool.{Bool, true, false, ◌&&◌, ◌||◌}
use mathlib.Core.List.{List, [], ◌∷◌, map}
use Prim.Native.Nat.{ℕ, ◌+◌, ◌≤◌, ◌<◌}
use lib.Dec.{eqb, ltb}
use lib.ListN.{get_or}
use Rattle.meaning.specs.Base.{any, select, some_in}
use Rattle.meaning.specs.Covers.{Row, Pair}
use Rattle.meaning.specs.Reading.{bad, got}
use Rattle.meaning.specs.ByteLayouts.{pair}
use Rattle.meaning.specs.Values.{signed}
use Rattle.meaning.specs.Processing.Queries.{cell, source_rows, holds, all_hold, chosen}
use Rattle.words.specs.Words.{Peeked}
use Rattle.words.proofs.Laws.{split}
use Rattle.slots.specs.declared.Slot.{Slot}
use Rattle.slots.specs.Slots.{table_at, blank, slot_value}
use Rattle.terms.specs.declared.Query.{Query}
use Rattle.terms.specs.Terms.{source_meant, match_meant, terms_meant, query_meant}
use Rattle.terms.proofs.Laws.{column-looked, column-wrong}
use Rattle.room.specs.Room.{row_meant, rows_meant, live_rows, transition_in}
use Rattle.room.proofs.Cells.{value_cell}
use Rattle.query.specs.Chosen.{base_of, shows, rows_from}
use Rattle.query.specs.Picks.{match_holds, term_holds}

-- ---- A pair of columns, by the bytes that were looked at

module _ {s : List ℕ} {at a : ℕ} (x : Peeked s at a) where
  pub pair-own-wrong : 3 < a → pair s at ≡ bad
  unfolding pair
  pair-own-wrong h = rw (column-wrong x h)

  module _ {b : ℕ} (h : a ≤ 3) (y : Peeked s (at + 1) b) where
    pub pair-other-wrong : 3 < b → pair s at ≡ bad
    unfolding pair
    pair-other-wrong k = rw (column-looked x h) (rw (column-wrong y k))

    pub pair_read : b ≤ 3 → pair s at ≡ got (record { own = a; other = b }) (at + 1 + 1)
    unfolding pair
    pair_read k = rw (column-looked x h) (rw (column-looked y k))

-- ---- Two tests in a row are one

module _ {A : Type 0} (p q : A → Bool) where
  select-if : (b : Bool) (x : A) (l : List A)
      → select p (if b then x ∷ l else l) ≡ (if b && p x then x ∷ select p l else select p l)
  select-if true x l = refl
  select-if false x l = refl

  pub select-select : (l : List A) → select p (select q l) ≡ select (λ x. q x && p x) l
  select-select [] = refl
  select-select (x ∷ l) =
      select-if (q x) x (select q l) ∙ ap (λ (r : List A). if q x && p x then x ∷ r else r) (select-select l)

-- ---- Slots as rows

module _ {A B : Type 0} (f : A → B) (p : B → Bool) where
  pub any-map : (l : List A) → any p (map f l) ≡ any (λ x. p (f x)) l
  any-map [] = refl
  any-map (x ∷ l) = ap (λ (b : Bool). p (f x) || b) (any-map l)

  map-if : (b : Bool) (x : A) (l : List A) → map f (if b then x ∷ l else l) ≡ (if b then f x ∷ map f l else map f l)
  map-if true x l = refl
  map-if false x l = refl

  pub select-map : (l : List A) → select p (map f l) ≡ map f (select (λ x. p (f x)) l)
  select-map [] = refl
  select-map (x ∷ l) =
      ap (λ (r : List B). if p (f x) then f x ∷ r else r) (select-map l) ∙ sym (map-if (p (f x)) x (select (λ x. p (f x)) l))

some-map : {A B : Type 0} (f : A → B) (l : List A) → some_in (map f l) ≡ some_in l
some-map f [] = refl
some-map f (x ∷ l) = refl

-- the value of a slot in a column, as it was read at a place of a table
pub cell-read : (l : List Slot) (column : ℕ) {v i k : ℕ} → i ≡ k → v ≡ slot_value (get_or l i blank) column
    → signed v ≡ cell (row_meant (get_or l k blank)) column
cell-read l column {v} {i} {k} same is = rw (is, same) (value_cell (get_or l k blank) column)

-- ---- The rows of a source

-- a source from 4 on shows every row that stands there
shows-each : (source : ℕ) → ltb source 4 ≡ false → (l : List Slot) → rows_meant l ≡ rows_meant (select (shows source) l)
unfolding shows rows_meant
shows-each source e [] = refl
shows-each source e (x ∷ l) = rw e (ap (λ (r : List Row). row_meant x ∷ r) (shows-each source e l))

-- and one below 4 those of its table
shows-table : (source : ℕ) → ltb source 4 ≡ true → (l : List Slot)
    → select (λ r. eqb r.table source) (rows_meant l) ≡ rows_meant (select (shows source) l)
unfolding shows rows_meant row_meant
shows-table source e l =
    select-map row_meant (λ r. eqb r.table source) l
    ∙ (λ i. map row_meant (select (λ x. if sym e i then eqb x.table source else true) l))

pub rows-from : (xs : List ℕ) (source : ℕ) → rows_from xs source ≡ rows_meant (select (shows source) (table_at xs (base_of source)))
unfolding rows_from source_rows source_meant base_of live_rows transition_in
rows-from xs source =
    split (ltb source 4) (λ e. rw e (shows-table source e (table_at xs 4))) (λ e4.
    rw e4
    (split (eqb source 4) (λ e. rw e (shows-each source e4 (table_at xs 1544))) (λ n4.
    rw n4
    (split (eqb source 5) (λ e. rw e (shows-each source e4 (table_at xs 3084))) (λ n5.
    rw n5
    (split (eqb source 6) (λ e. rw e (shows-each source e4 (table_at xs 4624))) (λ n6.
    rw n6 (shows-each source e4 (table_at xs 6164)))))))))

-- a match of a row that stands as a slot is the term's
pub match-holds : (xs : List ℕ) (ps : List Pair) (source : ℕ) (negated : Bool)
    → match_holds xs ps source negated ≡ term_holds xs (match_meant negated (source_meant source) ps)
unfolding match_holds term_holds holds rows_from
match-holds xs ps source true = refl
match-holds xs ps source false = refl

-- a test over the rows of a source, as one over the table where they stand
module _ (xs : List ℕ) (source : ℕ) (p : Row → Bool) where
  pub select-rows : select p (rows_from xs source)
      ≡ rows_meant (select (λ e. shows source e && p (row_meant e)) (table_at xs (base_of source)))
  unfolding rows_meant
  select-rows =
      ap (select p) (rows-from xs source)
      ∙ select-map row_meant p (select (shows source) (table_at xs (base_of source)))
      ∙ ap (map row_meant) (select-select (λ e. p (row_meant e)) (shows source) (table_at xs (base_of source)))

-- ---- The rows that a query yields

-- a row that stands where a source's rows do is one that the query yields
abbrev pub wanted : List ℕ → List ℕ → ℕ → Query → Slot → Bool
wanted xs book triggers q e =
    shows q.source e && all_hold (transition_in xs) (live_rows xs) (terms_meant book triggers q.terms) (row_meant e)

module _ (xs book : List ℕ) (triggers : ℕ) (q : Query) where
  pub chosen-rows : chosen (transition_in xs) (live_rows xs) (query_meant book triggers q)
      ≡ rows_meant (select (wanted xs book triggers q) (table_at xs (base_of q.source)))
  unfolding chosen query_meant rows_from
  chosen-rows = select-rows xs q.source (all_hold (transition_in xs) (live_rows xs) (terms_meant book triggers q.terms))

  pub some-chosen : some_in (chosen (transition_in xs) (live_rows xs) (query_meant book triggers q))
      ≡ some_in (select (wanted xs book triggers q) (table_at xs (base_of q.source)))
  unfolding rows_meant
  some-chosen = ap some_in chosen-rows ∙ some-map row_meant (select (wanted xs book triggers q) (table_at xs (base_of q.source)))
