-- The loop over the chosen rows: the rows worked out so far, then what those that are left give, are what all of them give. Only the table of rows worked out changes, and the chosen rows stand below it.
use Rattle.std.specs.Prelude.{Result, Ok, Err}
use mathlib.Core.Path.{◌≡◌, refl, sym, ap, ◌∙◌}
use mathlib.Core.List.{List, [], ◌∷◌, ◌++◌, append-nil, append_assoc}
use mathlib.Core.Option.{Option, none, some}
use Prim.Native.Nat.{ℕ, suc, ◌+◌, ◌≤◌, ◌<◌}
use native.Mathlib.Numerals.{add-one}
use native.Mathlib.Omega.{arith}
use lib.IntN.{ℤ}
use lib.ListN.{length, get_or, drop, drop_of_length-le, length-append}
use lib.Seq.{drop-cons, set_at, get_or-append_seam}
use Rattle.meaning.specs.Base.{maybe, both, each_or}
use Rattle.meaning.specs.Covers.{Row, Expression}
use Rattle.meaning.specs.Processing.Queries.{work_out_all}
use Rattle.meaning.specs.Processing.Actions.{updated_row}
use Rattle.words.specs.Words.{low32_at}
use Rattle.slots.specs.declared.Slot.{Slot}
use Rattle.slots.specs.Slots.{table_at, table_bytes, Frame, Stands, Holds, blank}
use Rattle.slots.proofs.Frames.{frame-refl, frame-trans}
use Rattle.slots.proofs.Tables.{table-length, table-kept-below, stands-kept-below, holds-size}
use Rattle.rows.specs.declared.Reason.{Reason}
use Rattle.room.specs.Room.{CHOSEN, WORKED, ROWS, Laid, row_meant, rows_meant, rows_with}
use Rattle.room.proofs.Live.{rows_pushed}
use Rattle.working.specs.Working.{worked_row, if_worked, OutOfRange, Works, AsChosen, RowWorked, WorkedOut, WorkedValues}

-- ---- Row by row

module _ (es : List Expression) (mask : ℕ) where
  -- what all rows give, as in the contract
  whole : List Row → Option (List Row)
  whole rs = maybe (each_or (work_out_all es) rs) none (λ vss. some (rows_with mask rs vss))

  whole-cons : (r : Row) (rs : List Row) (m : Option (List ℤ)) (ms : Option (List (List ℤ)))
      → maybe (both m ms) none (λ vss. some (rows_with mask (r ∷ rs) vss))
      ≡ both (maybe m none (λ vs. some (updated_row mask vs r))) (maybe ms none (λ vss. some (rows_with mask rs vss)))
  unfolding rows_with
  whole-cons r rs none ms = refl
  whole-cons r rs (some vs) none = refl
  whole-cons r rs (some vs) (some vss) = refl

  -- is what each of them gives
  whole_each : (rs : List Row) → whole rs ≡ each_or (worked_row es mask) rs
  unfolding whole rows_with worked_row
  whole_each [] = refl
  whole_each (r ∷ rs) =
      whole-cons r rs (work_out_all es r) (each_or (work_out_all es) rs)
      ∙ ap (both (maybe (work_out_all es r) none (λ vs. some (updated_row mask vs r)))) (whole_each rs)

-- rows, and then more, unless there are none
unfoldable pub following : List Row → Option (List Row) → Option (List Row)
following l none = none
following l (some rs) = some (l ++ rs)

following-more : (l : List Row) (r : Row) (m : Option (List Row)) → following l (both (some r) m) ≡ following (l ++ (r ∷ [])) m
unfolding following
following-more l r none = refl
following-more l r (some rs) = ap some (sym (append_assoc l (r ∷ []) rs))

-- ---- The loop

-- x0 is the room with no row worked out; only the rows worked out change from there
pub record Turning (x0 x : List ℕ) (es : List Expression) (mask i : ℕ) : Type 0 where
  pub chosen : Stands CHOSEN ROWS x0
  pub frame : Frame WORKED (WORKED + table_bytes ROWS) x0 x
  pub stands : Stands WORKED ROWS x
  pub sofar : length (table_at x WORKED) ≡ i
  pub list : each_or (worked_row es mask) (rows_meant (table_at x0 CHOSEN))
      ≡ following (rows_meant (table_at x WORKED)) (each_or (worked_row es mask) (rows_meant (drop i (table_at x0 CHOSEN))))

following-nothing : (m : Option (List Row)) → m ≡ following [] m
unfolding following
following-nothing none = refl
following-nothing (some rs) = refl

-- ---- An emptied table

module _ {xs x0 : List ℕ} (laid : Laid xs) (h : Holds WORKED ROWS xs x0 []) where
  pub chosen-stands : Stands CHOSEN ROWS x0
  unfolding table_bytes
  chosen-stands = stands-kept-below h.frame CHOSEN ROWS laid.chosen (omega arith)

  chosen-kept : table_at x0 CHOSEN ≡ table_at xs CHOSEN
  unfolding table_bytes
  chosen-kept = table-kept-below h.frame CHOSEN ROWS laid.chosen (omega arith)

  pub room-for-one : low32_at x0 WORKED < ROWS
  room-for-one = omega (arith, table-length x0 WORKED, ap length h.list)

  -- one row that is pushed there
  pub one-row : {y : List ℕ} {vs : List ℤ} (e : Slot) → Holds WORKED ROWS x0 y (table_at x0 WORKED ++ (e ∷ []))
      → (row_meant e).values ≡ vs → WorkedValues xs y vs
  one-row {y} {vs} e p q =
      record {
        works = record { frame = frame-trans h.frame p.frame; stands = p.stands };
        values = rw (p.list, h.list) (ap (λ (v : List ℤ). v ∷ []) q);
      }

  module _ (es : List Expression) (mask : ℕ) where
    pub turning-start : Turning x0 x0 es mask 0
    unfolding rows_meant
    turning-start =
        let none : table_at x0 WORKED ≡ [] = h.list in
        record {
          chosen = chosen-stands;
          frame = frame-refl;
          stands = h.stands;
          sofar = rw none;
          list = rw none (following-nothing (each_or (worked_row es mask) (rows_meant (table_at x0 CHOSEN))));
        }

    pub turning-done : {x : List ℕ} {i : ℕ} → Turning x0 x es mask i → low32_at x0 CHOSEN ≤ i → WorkedOut xs x es mask (Ok tt)
    unfolding if_worked whole following rows_meant
    turning-done {x} {i} t z =
        let past : length (table_at x0 CHOSEN) ≤ i = omega (arith, table-length x0 CHOSEN) in
        record {
          works = record { frame = frame-trans h.frame t.frame; stands = t.stands };
          rows =
              sym
              (whole_each es mask (rows_meant (table_at xs CHOSEN))
              ∙ rw (← chosen-kept)
              (t.list ∙ rw (drop_of_length-le (table_at x0 CHOSEN) {i = i} past) (ap some (append-nil (rows_meant (table_at x WORKED))))));
          stopped = tt;
        }

    -- where what all rows give is nothing
    pub turning-failed : {y : List ℕ} {r : Reason} → Works x0 y → each_or (worked_row es mask) (rows_meant (table_at x0 CHOSEN)) ≡ none
        → OutOfRange (Err r) → WorkedOut xs y es mask (Err r)
    unfolding if_worked whole
    turning-failed w z s =
        record {
          works = record { frame = frame-trans h.frame w.frame; stands = w.stands };
          rows = sym (whole_each es mask (rows_meant (table_at xs CHOSEN)) ∙ rw (← chosen-kept) z);
          stopped = s;
        }

module _ {x0 x : List ℕ} {es : List Expression} {mask i : ℕ} (t : Turning x0 x es mask i) where
  table_kept : table_at x CHOSEN ≡ table_at x0 CHOSEN
  unfolding table_bytes
  table_kept = table-kept-below t.frame CHOSEN ROWS t.chosen (omega arith)

  -- what the turn's calls require
  pub turning-stands : Stands CHOSEN ROWS x
  unfolding table_bytes
  turning-stands = stands-kept-below t.frame CHOSEN ROWS t.chosen (omega arith)

  pub turning-sized : low32_at x CHOSEN ≡ low32_at x0 CHOSEN
  turning-sized = omega (arith, table-length x CHOSEN, ap length table_kept, table-length x0 CHOSEN)

  -- chosen row k, pushed, is chosen row i, pushed, where k is i
  pub turning-pushed : {y : List ℕ} {k : ℕ}
      → Holds WORKED ROWS x y (table_at x WORKED ++ (get_or (table_at x CHOSEN) k blank ∷ [])) → k ≡ i
      → Holds WORKED ROWS x y (table_at x WORKED ++ (get_or (table_at x CHOSEN) i blank ∷ []))
  turning-pushed p is = rw is at p

  module _ (more : i < low32_at x0 CHOSEN) where
    pub turning-within : i < low32_at x CHOSEN
    turning-within = omega (arith, turning-sized)

    pub turning-room : low32_at x WORKED < ROWS
    turning-room = omega (arith, t.sofar, table-length x WORKED, turning-within, turning-stands.size)

    -- chosen row i, pushed
    module _ {y : List ℕ} (p : Holds WORKED ROWS x y (table_at x WORKED ++ (get_or (table_at x CHOSEN) i blank ∷ []))) where
      y_kept : table_at y CHOSEN ≡ table_at x CHOSEN
      unfolding table_bytes
      y_kept = table-kept-below p.frame CHOSEN ROWS turning-stands (omega arith)

      y-sized : low32_at y WORKED ≡ i + 1
      y-sized = holds-size WORKED ROWS p ∙ simp length-append (omega (arith, t.sofar))

      pub turning-ready : AsChosen y i
      unfolding table_bytes
      turning-ready =
          record {
            chosen = stands-kept-below p.frame CHOSEN ROWS turning-stands (omega arith);
            worked = p.stands;
            below = omega (arith, turning-within, table-length x CHOSEN, ap length y_kept, table-length y CHOSEN);
            within = omega (arith, y-sized);
            same =
                rw (y_kept, p.list, ← t.sofar)
                (get_or-append_seam (table_at x WORKED) (get_or (table_at x CHOSEN) (length (table_at x WORKED)) blank) [] blank);
          }

      rest : drop i (table_at x0 CHOSEN) ≡ get_or (table_at y CHOSEN) i blank ∷ drop (suc i) (table_at x0 CHOSEN)
      rest = drop-cons (table_at x0 CHOSEN) i blank (omega (arith, table-length x0 CHOSEN)) ∙ rw (y_kept, table_kept)

      module _ {z : List ℕ} {r : Result (Unit {0}) Reason} (w : RowWorked y z es mask i r) where
        abbrev new : Slot
        new = get_or (table_at z WORKED) i blank

        z-list : table_at z WORKED ≡ table_at x WORKED ++ (new ∷ [])
        z-list =
            w.others
            ∙ rw p.list (set_at (table_at x WORKED) (get_or (table_at x CHOSEN) i blank) [] new i t.sofar)

        turning-works : Works x0 z
        turning-works =
            record { frame = frame-trans t.frame (frame-trans p.frame w.works.frame); stands = w.works.stands }

        -- and worked out
        pub turning-more : r ≡ Ok tt → Turning x0 z es mask (i + 1)
        unfolding rows_meant if_worked
        turning-more e =
            let is : some (row_meant new) ≡ worked_row es mask (row_meant (get_or (table_at y CHOSEN) i blank)) = rw e at w.row in
            record {
              chosen = t.chosen;
              frame = turning-works.frame;
              stands = w.works.stands;
              sofar = rw z-list (simp length-append (omega (arith, t.sofar)));
              list =
                  let m = each_or (worked_row es mask) (rows_meant (drop (suc i) (table_at x0 CHOSEN))) in
                  t.list
                  ∙ rw (rest, ← is, add-one)
                  (following-more (rows_meant (table_at x WORKED)) (row_meant new) m
                  ∙ ap (λ (l : List Row). following l m) (sym (ap rows_meant z-list ∙ rows_pushed (table_at x WORKED) new)));
            }

        -- a sum that leaves 32 bits
        pub turning-out : {xs : List ℕ} {reason : Reason} → Laid xs → Holds WORKED ROWS xs x0 [] → r ≡ Err reason
            → WorkedOut xs z es mask (Err reason)
        unfolding rows_meant following if_worked
        turning-out laid h e =
            let is : none ≡ worked_row es mask (row_meant (get_or (table_at y CHOSEN) i blank)) = rw e at w.row in
            turning-failed laid h es mask turning-works (t.list ∙ rw (rest, ← is)) (rw e at w.stopped)
