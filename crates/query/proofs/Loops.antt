-- The choice of rows at picked places, one after another, into the table of the chosen ones.
use mathlib.Core.Path.{◌≡◌, sym, ap, ◌∙◌}
use mathlib.Core.List.{List, [], ◌∷◌, ◌++◌, map-append}
use Prim.Native.Nat.{ℕ, ◌+◌, ◌%◌, ◌≤◌, ◌<◌}
use native.Mathlib.Omega.{arith}
use lib.ListN.{length, get_or, take, length-map}
use lib.Seq.{length-take-le}
use Rattle.meaning.specs.Base.{select}
use Rattle.meaning.specs.Covers.{Row}
use Rattle.words.specs.Words.{low32_at}
use Rattle.slots.specs.Slots.{table_at, table_bytes, Frame, Stands, Holds, blank, with_kind}
use Rattle.slots.proofs.Frames.{frame-refl, frame-trans}
use Rattle.slots.proofs.Tables.{table-length, table-kept-below, stands-kept-below}
use Rattle.terms.specs.declared.Query.{Query}
use Rattle.terms.specs.Terms.{query_meant}
use Rattle.room.specs.Room.{CHOSEN, ROWS, Laid, row_meant, rows_meant}
use Rattle.room.proofs.Kept.{kept-below, live-kept, transition-kept}
use Rattle.query.specs.declared.Picked.{Picked}
use Rattle.query.specs.Chosen.{base_of, Chose}
use Rattle.query.specs.Picks.{slots_of, Within, PicksOut}
use Rattle.query.proofs.Laws.{wanted, chosen-rows}
use Rattle.query.proofs.Keeping.{source-below, base-stands, laid_kept}
use Rattle.query.proofs.Narrowing.{slots_at, slots-more}

-- ---- The choice: the rows chosen so far are those at the first j places

-- x0 is the room with no row chosen; only the chosen rows change from there. A chosen row's kind is its place, which is no part of the row.
pub record Choosing (x0 x : List ℕ) (base : ℕ) (rows : Picked) (j : ℕ) : Type 0 where
  pub source : Stands base ROWS x0
  pub below : base + table_bytes ROWS ≤ CHOSEN
  pub within : Within (table_at x0 base) rows
  pub len : length rows.places ≡ 64
  pub high : j ≤ rows.count
  pub frame : Frame CHOSEN (CHOSEN + table_bytes ROWS) x0 x
  pub stands : Stands CHOSEN ROWS x
  pub chosen : rows_meant (table_at x CHOSEN) ≡ rows_meant (slots_at (table_at x0 base) rows.places j)

-- with an emptied table
module _ {xs x0 : List ℕ} (l : Laid xs) (h : Holds CHOSEN ROWS xs x0 []) where
  pub emptied-laid : Laid x0
  emptied-laid = laid_kept l h.frame h.stands

  module _ (q : Query) {base : ℕ} (rows : Picked) (e : base ≡ base_of q.source) where
    pub choosing-start : Within (table_at x0 base) rows → length rows.places ≡ 64 → Choosing x0 x0 base rows 0
    choosing-start within long =
        record {
          source = base-stands emptied-laid q.source e;
          below = rw e (source-below q.source);
          within = within;
          len = long;
          high = omega arith;
          frame = frame-refl;
          stands = h.stands;
          chosen = ap rows_meant h.list;
        }

    pub choosing-done : (book : List ℕ) (triggers : ℕ) {x : List ℕ} {j : ℕ}
        → PicksOut (table_at x0 base) (select (wanted x0 book triggers q) (table_at x0 base)) rows
        → Choosing x0 x base rows j → rows.count ≤ j
        → Chose xs x (query_meant book triggers q)
    unfolding slots_of
    choosing-done book triggers {x} {j} picks s none =
        let same = kept-below h.frame in
        let all : j ≡ rows.count = omega (arith, s.high) in
        let here = rows_meant (select (wanted x0 book triggers q) (table_at x0 base)) in
        let chosen : rows_meant (table_at x CHOSEN) ≡ here = rw (s.chosen, all) (ap rows_meant picks.slots) in
        record {
          frame = frame-trans h.frame s.frame;
          stands = s.stands;
          rows =
              rw (← transition-kept same l (omega arith) (omega arith), ← live-kept same l (omega arith) (omega arith))
              (chosen ∙ rw e (sym (chosen-rows x0 book triggers q)));
        }

module _ {x0 x : List ℕ} {base : ℕ} (rows : Picked) {j : ℕ} (s : Choosing x0 x base rows j) (more : j < rows.count) where
  table_kept : table_at x base ≡ table_at x0 base
  table_kept = table-kept-below s.frame base ROWS s.source s.below

  -- what the turn's calls require
  choosing-few : j < 64
  choosing-few = omega (arith, s.within.few)

  pub choosing-stands : Stands base ROWS x
  choosing-stands = stands-kept-below s.frame base ROWS s.source s.below

  pub choosing-room : low32_at x CHOSEN < ROWS
  unfolding rows_meant
  choosing-room =
      let taken : length (take j rows.places) ≡ j = length-take-le j rows.places (omega (arith, s.len, choosing-few)) in
      let each = length-map (take j rows.places) (λ i. get_or (table_at x0 base) i blank) in
      let mine = length-map (slots_at (table_at x0 base) rows.places j) row_meant in
      let size : length (table_at x CHOSEN) ≡ j =
      sym (length-map (table_at x CHOSEN) row_meant) ∙ ap length s.chosen ∙ mine ∙ each ∙ taken in
      omega (arith, table-length x CHOSEN, choosing-few)

  module _ {i : ℕ} (is : i ≡ get_or rows.places j 0) where
    pub choosing-inside : i < low32_at x base
    choosing-inside = omega (arith, is, s.within.inside j more, table-length x base, ap length table_kept)

    pub choosing-more : {y : List ℕ} → Holds CHOSEN ROWS x y (table_at x CHOSEN ++ (with_kind (get_or (table_at x base) i blank) (i % 256) ∷ []))
        → Choosing x0 y base rows (j + 1)
    unfolding rows_meant row_meant with_kind
    choosing-more {y} h =
        record {
          source = s.source;
          below = s.below;
          within = s.within;
          len = s.len;
          high = omega arith;
          frame = frame-trans s.frame h.frame;
          stands = h.stands;
          chosen =
              let l = slots_at (table_at x0 base) rows.places j in
              let e = get_or (table_at x0 base) (get_or rows.places j 0) blank in
              let next = slots-more (table_at x0 base) rows.places j (omega (arith, s.len, choosing-few)) in
              rw (h.list, table_kept, is, next)
              (map-append row_meant (table_at x CHOSEN) (with_kind e (get_or rows.places j 0 % 256) ∷ [])
              ∙ ap (λ (rs : List Row). rs ++ (row_meant e ∷ [])) s.chosen
              ∙ sym (map-append row_meant l (e ∷ [])));
        }
