-- Places that are written one after another into an array of 64. Those written so far stand for the rows that were kept so far; the rest of
-- the array is as it was, so the places that are narrowed and those that are kept may stand in one array.
use Rattle.std.specs.Prelude.{if◌then◌else◌}
use mathlib.Core.Path.{◌≡◌, refl, ap, ◌∙◌}
use mathlib.Core.Bool.{Bool, true, false}
use mathlib.Core.List.{List, [], ◌∷◌, ◌++◌, map, map-append, append-nil}
use Prim.Native.Nat.{ℕ, zero, suc, ◌+◌, ◌≤◌, ◌<◌}
use native.Mathlib.Omega.{arith}
use borrow.Author.Tests.{lt-ltb, ltb-true, ltb-false}
use lib.Dec.{ltb}
use lib.ListN.{length, get_or, set, take, length-set}
use lib.Seq.{take-suc, take_all, take-set-le, get_or-set_same, get_or-set_other}
use Rattle.meaning.specs.Base.{select, some_in}
use Rattle.words.specs.Words.{low32_at}
use Rattle.words.proofs.Laws.{split}
use Rattle.slots.specs.declared.Slot.{Slot}
use Rattle.slots.specs.Slots.{table_at, blank}
use Rattle.slots.proofs.Tables.{table-length}
use Rattle.query.specs.declared.Picked.{Picked}
use Rattle.query.specs.Picks.{slots_of, Within, PicksOut}

-- ---- One element more at the end

module _ {A : Type 0} (test : A → Bool) where
  select-last : (b : Bool) (x : A) (l m : List A) → (if b then x ∷ (l ++ m) else (l ++ m)) ≡ (if b then x ∷ l else l) ++ m
  select-last true x l m = refl
  select-last false x l m = refl

  select-append : (l m : List A) → select test (l ++ m) ≡ select test l ++ select test m
  select-append [] m = refl
  select-append (x ∷ l) m =
      ap (λ (r : List A). if test x then x ∷ r else r) (select-append l m) ∙ select-last (test x) x (select test l) (select test m)

  module _ (l : List A) (x : A) where
    select_yes : test x ≡ true → select test (l ++ (x ∷ [])) ≡ select test l ++ (x ∷ [])
    select_yes e = select-append l (x ∷ []) ∙ rw e

    select_no : test x ≡ false → select test (l ++ (x ∷ [])) ≡ select test l
    select_no e = select-append l (x ∷ []) ∙ rw e (append-nil (select test l))

-- the slots at the first n places
abbrev pub slots_at : List Slot → List ℕ → ℕ → List Slot
slots_at l places n = map (λ i. get_or l i blank) (take n places)

pub slots-more : (l : List Slot) (places : List ℕ) (j : ℕ) → j < length places
    → slots_at l places (j + 1) ≡ slots_at l places j ++ (get_or l (get_or places j 0) blank ∷ [])
slots-more l places j h =
    let next : j + 1 ≡ suc j = omega arith in
    rw (next, take-suc places j 0 h) (map-append (λ i. get_or l i blank) (take j places) (get_or places j 0 ∷ []))

-- there is one where n is above 0
some-slots : (l : List Slot) (places : List ℕ) (n : ℕ) → n ≤ length places → ltb 0 n ≡ some_in (slots_at l places n)
some-slots l places zero h = refl
some-slots l [] (suc n) h = absurd (omega arith)
some-slots l (x ∷ places) (suc n) h = lt-ltb 0 (suc n) (omega arith)

pub some-picked : {l rows : List Slot} {p : Picked} → PicksOut l rows p → length p.places ≡ 64 → ltb 0 p.count ≡ some_in rows
unfolding slots_of
some-picked {l} {rows} {p} k long =
    rw (← k.slots) (some-slots l p.places p.count (omega (arith, k.within.few)))

-- ---- What was written so far

pub record Written (l rows : List Slot) (places : List ℕ) (n : ℕ) : Type 0 where
  pub len : length places ≡ 64
  pub inside : (k : ℕ) → k < n → get_or places k 0 < length l
  pub list : slots_at l places n ≡ rows

pub written_none : (l : List Slot) {places : List ℕ} → length places ≡ 64 → Written l [] places 0
written_none l e = record { len = e; inside = λ k h. absurd (omega arith); list = refl }

pub written-more : {l rows : List Slot} {places : List ℕ} {n : ℕ} (v : ℕ) → Written l rows places n → n < 64 → v < length l
    → Written l (rows ++ (get_or l v blank ∷ [])) (set places n v) (n + 1)
written-more {l} {rows} {places} {n} v w few h =
    let long : length places ≡ 64 = w.len in
    let size : length (set places n v) ≡ 64 = simp length-set w.len in
    let last : get_or (set places n v) n 0 ≡ v = get_or-set_same places n v 0 (omega arith) in
    record {
      len = size;
      inside = λ k less.
          split (ltb k n)
          (λ e.
          let low : k < n = ltb-true k n e in
          rw (get_or-set_other places n k v 0 (omega arith)) (w.inside k low))
          (λ e.
          let high : n ≤ k = ltb-false k n e in
          let same : k ≡ n = omega arith in
          rw (same, last) h);
      list =
          slots-more l (set places n v) n (omega arith)
          ∙ rw (last, take-set-le n places n v (omega arith), w.list);
    }

pub written-picks : {l rows : List Slot} {places : List ℕ} {n : ℕ} → Written l rows places n → n ≤ 64
    → PicksOut l rows (record { count = n; places = places })
unfolding slots_of
written-picks w few = record { within = record { few = few; inside = w.inside }; slots = w.list }

-- ---- A table's slots that pass a test: those of the first j are written

pub record Showing (test : Slot → Bool) (l : List Slot) (places : List ℕ) (n j : ℕ) : Type 0 where
  pub few : length l ≤ 64
  pub low : n ≤ j
  pub high : j ≤ length l
  pub written : Written l (select test (take j l)) places n

module _ {test : Slot → Bool} (l : List Slot) {places : List ℕ} where
  pub showing-start : length l ≤ 64 → length places ≡ 64 → Showing test l places 0 0
  showing-start few e = record { few = few; low = omega arith; high = omega arith; written = written_none l e }

  module _ {n j : ℕ} (s : Showing test l places n j) where
    last-shown : j < length l → take (j + 1) l ≡ take j l ++ (get_or l j blank ∷ [])
    last-shown h = let next : j + 1 ≡ suc j = omega arith in rw next (take-suc l j blank h)

    pub showing-yes : (v : ℕ) → j < length l → v ≡ j → test (get_or l j blank) ≡ true → Showing test l (set places n v) (n + 1) (j + 1)
    showing-yes v h is e =
        let full : n < 64 = omega (arith, s.few, s.low) in
        record {
          few = s.few;
          low = omega (arith, s.low);
          high = omega arith;
          written = rw (last-shown h, select_yes test (take j l) (get_or l j blank) e, is) (written-more j s.written full h);
        }

    pub showing-no : j < length l → test (get_or l j blank) ≡ false → Showing test l places n (j + 1)
    showing-no h e =
        record {
          few = s.few;
          low = omega (arith, s.low);
          high = omega arith;
          written = rw (last-shown h, select_no test (take j l) (get_or l j blank) e) s.written;
        }

    pub showing-done : length l ≤ j → PicksOut l (select test l) (record { count = n; places = places })
    showing-done h =
        let most : n ≤ 64 = omega (arith, s.few, s.low, s.high) in
        let all : take j l ≡ l = take_all j l h in
        written-picks (rw all at s.written) most

-- ---- Picked slots that pass a test: those of the first j are written over the places

pub record Narrowing (test : Slot → Bool) (l : List Slot) (rows : Picked) (places : List ℕ) (n j : ℕ) : Type 0 where
  pub within : Within l rows
  pub len : length rows.places ≡ 64
  pub low : n ≤ j
  pub high : j ≤ rows.count
  pub rest : (k : ℕ) → j ≤ k → get_or places k 0 ≡ get_or rows.places k 0
  pub written : Written l (select test (slots_at l rows.places j)) places n

module _ {test : Slot → Bool} (l : List Slot) (rows : Picked) where
  pub narrowing-start : Within l rows → length rows.places ≡ 64 → Narrowing test l rows rows.places 0 0
  narrowing-start w e =
      record { within = w; len = e; low = omega arith; high = omega arith; rest = λ k h. refl; written = written_none l e }

  module _ {places : List ℕ} {n j : ℕ} (s : Narrowing test l rows places n j) where
    -- what a turn asks
    narrowing-inside : j < rows.count → get_or places j 0 < length l
    narrowing-inside h = rw (s.rest j (omega arith)) (s.within.inside j h)

    narrowing-few : j < rows.count → j < 64
    narrowing-few h = omega (arith, s.within.few)

    narrowing-room : j < rows.count → n < 64
    narrowing-room h = omega (arith, s.low, narrowing-few h)

    last-picked : j < rows.count → slots_at l rows.places (j + 1) ≡ slots_at l rows.places j ++ (get_or l (get_or places j 0) blank ∷ [])
    last-picked h =
        rw (s.rest j (omega arith)) (slots-more l rows.places j (omega (arith, s.len, narrowing-few h)))

    pub narrowing-yes : j < rows.count → test (get_or l (get_or places j 0) blank) ≡ true
        → Narrowing test l rows (set places n (get_or places j 0)) (n + 1) (j + 1)
    narrowing-yes h e =
        let v = get_or places j 0 in
        let full : n < 64 = narrowing-room h in
        let low : n ≤ j = s.low in
        record {
          within = s.within;
          len = s.len;
          low = omega (arith, s.low);
          high = omega arith;
          rest = λ k later. get_or-set_other places n k v 0 (omega arith) ∙ s.rest k (omega arith);
          written =
              rw (last-picked h, select_yes test (slots_at l rows.places j) (get_or l v blank) e)
              (written-more v s.written full (narrowing-inside h));
        }

    pub narrowing-no : j < rows.count → test (get_or l (get_or places j 0) blank) ≡ false → Narrowing test l rows places n (j + 1)
    narrowing-no h e =
        record {
          within = s.within;
          len = s.len;
          low = omega (arith, s.low);
          high = omega arith;
          rest = λ k later. s.rest k (omega arith);
          written = rw (last-picked h, select_no test (slots_at l rows.places j) (get_or l (get_or places j 0) blank) e) s.written;
        }

    pub narrowing-done : rows.count ≤ j → PicksOut l (select test (slots_of l rows)) (record { count = n; places = places })
    unfolding slots_of
    narrowing-done h =
        let most : n ≤ 64 = omega (arith, s.within.few, s.low, s.high) in
        let all : j ≡ rows.count = omega (arith, s.high) in
        written-picks (rw all at s.written) most

-- a place that is read is one of a table in the room
pub narrowing-stands : {test : Slot → Bool} (xs : List ℕ) (base : ℕ) (rows : Picked) {places : List ℕ} {n j i : ℕ}
    → Narrowing test (table_at xs base) rows places n j → j < rows.count → i ≡ get_or places j 0 → i < low32_at xs base
narrowing-stands xs base rows s h is =
    omega (arith, is, narrowing-inside (table_at xs base) rows s h, table-length xs base)
