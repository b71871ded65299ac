-- The loop that works out one row in the room: worked row i alone changes, and as the chosen rows stand below it, the expressions are
-- worked out over what chosen row i was at the start. A value stored in a column is that of the row that is filled.
use Rattle.std.specs.Prelude.{Ok, Err}
use mathlib.Core.Path.{◌≡◌, refl, sym, ap, ◌∙◌}
use mathlib.Core.Bool.{true, false}
use mathlib.Core.List.{List}
use mathlib.Core.Option.{Option, none, some}
use Prim.Native.Nat.{ℕ, ◌+◌, ◌≤◌, ◌<◌}
use native.Mathlib.Omega.{arith}
use lib.Count.{ones}
use lib.IntN.{ℤ}
use lib.ListN.{length, get_or, set, length-set}
use lib.Seq.{get_or-set_same, set-get_or, set-set}
use Rattle.meaning.specs.Base.{bit}
use Rattle.meaning.specs.Covers.{Row, Expression}
use Rattle.meaning.specs.Reading.{bad, got}
use Rattle.meaning.specs.Values.{signed}
use Rattle.meaning.specs.ByteLayouts.{expression}
use Rattle.meaning.specs.Processing.Queries.{work_out}
use Rattle.words.specs.Words.{low32_at, readable}
use Rattle.slots.specs.declared.Slot.{Slot}
use Rattle.slots.specs.Slots.{table_at, table_bytes, Stands, Holds, blank, with_value}
use Rattle.slots.proofs.Frames.{frame-refl, frame-trans, word-kept-below}
use Rattle.slots.proofs.Tables.{table-length, table-kept-below, stands-kept-below}
use Rattle.rows.specs.declared.Reason.TheVariants.{SumOutOfRange}
use Rattle.room.specs.Room.{CHOSEN, WORKED, ROWS, row_meant}
use Rattle.working.specs.Working.{worked_row, if_worked, Works, AsChosen, RowWorked}
use Rattle.working.proofs.Expressions.{Working, working-start, working-done, working-bad, working-unset, working-out, working-set}

-- ---- What changes

-- of x0, which was ready for row i, worked row i alone has changed
pub record Changed (x0 x : List ℕ) (i : ℕ) : Type 0 where
  pub ready : AsChosen x0 i
  pub works : Works x0 x
  pub others : table_at x WORKED ≡ set (table_at x0 WORKED) i (get_or (table_at x WORKED) i blank)

pub changed-start : {x : List ℕ} {i : ℕ} → AsChosen x i → Changed x x i
changed-start {x} {i} r =
    record {
      ready = r;
      works = record { frame = frame-refl; stands = r.worked };
      others = sym (set-get_or (table_at x WORKED) i blank);
    }

module _ {x0 x : List ℕ} {i : ℕ} (c : Changed x0 x i) where
  -- what the turn's calls require
  pub changed-stands : Stands CHOSEN ROWS x
  unfolding table_bytes
  changed-stands = stands-kept-below c.works.frame CHOSEN ROWS c.ready.chosen (omega arith)

  pub changed-chosen : table_at x CHOSEN ≡ table_at x0 CHOSEN
  unfolding table_bytes
  changed-chosen = table-kept-below c.works.frame CHOSEN ROWS c.ready.chosen (omega arith)

  pub changed-below : i < low32_at x CHOSEN
  changed-below = rw (word-kept-below c.works.frame CHOSEN (omega arith)) c.ready.below

  changed-size : length (table_at x WORKED) ≡ low32_at x0 WORKED
  changed-size = rw c.others (length-set (table_at x0 WORKED) i (get_or (table_at x WORKED) i blank) ∙ table-length x0 WORKED)

  pub changed-within : i < low32_at x WORKED
  changed-within = omega (arith, c.ready.within, changed-size, table-length x WORKED)

  -- worked row i in the place of what it was
  module _ {y : List ℕ} (e : Slot) (p : Holds WORKED ROWS x y (set (table_at x WORKED) i e)) where
    pub changed_row : get_or (table_at y WORKED) i blank ≡ e
    changed_row = rw p.list (get_or-set_same (table_at x WORKED) i e blank (omega (arith, changed-within, table-length x WORKED)))

    pub changed-again : Changed x0 y i
    changed-again =
        record {
          ready = c.ready;
          works = record { frame = frame-trans c.works.frame p.frame; stands = p.stands };
          others = rw changed_row (p.list ∙ ap (λ (l : List Slot). set l i e) c.others ∙ set-set (table_at x0 WORKED) i _ e);
        }

-- ---- The loop

abbrev chosen_row : List ℕ → ℕ → Row
chosen_row x i = row_meant (get_or (table_at x CHOSEN) i blank)

abbrev wanted : List ℕ → List ℕ → ℕ → ℕ → ℕ → Option Row
wanted x0 book mask at i = worked_row (readable (ones mask) expression book at) mask (chosen_row x0 i)

pub record Storing (x0 x book : List ℕ) (mask at i here c : ℕ) : Type 0 where
  pub changed : Changed x0 x i
  pub working : Working book mask (chosen_row x0 i) (wanted x0 book mask at i) (get_or (table_at x WORKED) i blank) here c

module _ (book : List ℕ) (mask : ℕ) where
  pub storing-start : {x : List ℕ} {i : ℕ} (at : ℕ) → AsChosen x i → Storing x x book mask at i at 0
  storing-start {x} {i} at r =
      record { changed = changed-start r; working = rw r.same (working-start book mask at (get_or (table_at x CHOSEN) i blank)) }

  module _ {x0 x : List ℕ} {at i here c : ℕ} (f : Storing x0 x book mask at i here c) where
    -- the row is done after the last column, and where an expression cannot be read
    stored : some (row_meant (get_or (table_at x WORKED) i blank)) ≡ wanted x0 book mask at i
        → RowWorked x0 x (readable (ones mask) expression book at) mask i (Ok tt)
    unfolding if_worked
    stored q = record { works = f.changed.works; others = f.changed.others; row = q; stopped = tt }

    pub storing-done : mask ≤ 15 → 4 ≤ c → RowWorked x0 x (readable (ones mask) expression book at) mask i (Ok tt)
    storing-done small h = stored (working-done book mask f.working small h)

    pub storing-bad : expression book here ≡ bad → RowWorked x0 x (readable (ones mask) expression book at) mask i (Ok tt)
    storing-bad e = stored (working-bad book mask f.working e)

    module _ (h : c < 4) where
      pub storing-unset : bit mask c ≡ false → Storing x0 x book mask at i here (c + 1)
      storing-unset e = record { changed = f.changed; working = working-unset book mask f.working h e }

      module _ (e : bit mask c ≡ true) {w : Expression} {next : ℕ} (q : expression book here ≡ got w next) where
        -- what is worked out over chosen row i as it is, is over what it was
        over : (m : Option ℤ) → m ≡ work_out (chosen_row x i) w → m ≡ work_out (chosen_row x0 i) w
        over m n = rw (← changed-chosen f.changed) n

        pub storing-out : none ≡ work_out (chosen_row x i) w → RowWorked x0 x (readable (ones mask) expression book at) mask i (Err SumOutOfRange)
        unfolding if_worked
        storing-out n =
            record {
              works = f.changed.works;
              others = f.changed.others;
              row = working-out book mask f.working h e q (over none n);
              stopped = refl;
            }

        pub storing-set : {y : List ℕ} (v : ℕ) → some (signed v) ≡ work_out (chosen_row x i) w
            → Holds WORKED ROWS x y (set (table_at x WORKED) i (with_value (get_or (table_at x WORKED) i blank) c v))
            → Storing x0 y book mask at i next (c + 1)
        storing-set v n p =
            record {
              changed = changed-again f.changed _ p;
              working = rw (changed_row f.changed _ p) (working-set book mask f.working h e q v (over (some (signed v)) n));
            }
