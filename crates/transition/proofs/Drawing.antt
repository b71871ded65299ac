-- The loop of `draw`, of the slots alone: what the four tables show so far, and then what the effects that are left show there, is what
-- all of them show. So each table is at every turn no longer than at the end, and has room for one row more.
use Rattle.std.proofs.lemmas.List.{drop_more}
use mathlib.Core.Path.{◌≡◌, refl, sym, ap, ◌∙◌}
use mathlib.Core.Logic.{◌≢◌}
use mathlib.Core.List.{List, [], ◌∷◌, ◌++◌, append-nil, append_assoc, map}
use mathlib.Core.Option.{Option, none, some}
use Prim.Native.Nat.{ℕ, ◌+◌, ◌≤◌, ◌<◌}
use native.Mathlib.Omega.{arith}
use borrow.Author.Tests.{ltb-true, ltb-false, eqb-true, eqb-false}
use lib.Dec.{eqb, ltb}
use lib.ListN.{length, get_or, drop, length-append, drop_of_length-le}
use Rattle.meaning.specs.Base.{before, gather}
use Rattle.meaning.specs.Covers.{Row, Rule}
use Rattle.meaning.specs.Processing.TransitionTables.{Transition, transition, inserted_row, deleted_row, new_row, old_row}
use Rattle.words.specs.Words.{low32_at}
use Rattle.words.proofs.Laws.{split}
use Rattle.slots.specs.declared.Slot.{Slot}
use Rattle.slots.specs.Slots.{table_at, table_bytes, Frame, Stands, Holds, Sorted, blank}
use Rattle.slots.proofs.Frames.{frame-refl, frame-trans, frame-wider, frame-join, word-kept-above}
use Rattle.slots.proofs.Tables.{table-length, table-kept-below, table-kept-above, stands-kept-below, stands-kept-above}
use Rattle.room.specs.Room.{LIVE, INSERTED, DELETED, NEW, OLD, CHOSEN, WORKED, STRETCH, ROWS, ENTRIES, wait_at, Laid}
use Rattle.room.specs.Room.{rows_meant, entry_meant, wait_meant, live_rows, transition_in, waits_in}
use Rattle.room.specs.Drawn.{drawn_for, Few, Drew}
use Rattle.slots.proofs.Order.{strict}
use Rattle.room.proofs.Live.{rows-length}
use Rattle.room.proofs.Kept.{kept-below, kept_above, transition-kept}
use Rattle.transition.proofs.Lookups.{live-kept, rows-kept, still-live}
use Rattle.transition.specs.Shown.{slot_in, RoomFor, Grown, LiveRises, inserted_of, deleted_of, new_of, old_of}
use Rattle.transition.specs.Shown.{RoomForAll, Shown, Bare, AllBare}

-- ---- Emptying

bare-below : {lo hi base : ℕ} {xs ys : List ℕ} → Frame lo hi xs ys → Bare base xs → base + table_bytes ROWS ≤ lo → Bare base ys
bare-below {base = base} f b h =
    record {
      stands = stands-kept-below f base ROWS b.stands h;
      none = table-kept-below f base ROWS b.stands h ∙ b.none;
    }

made-bare : {base : ℕ} {xs ys : List ℕ} → Holds base ROWS xs ys [] → Bare base ys
made-bare h = record { stands = h.stands; none = h.list }

pub all-emptied : {x0 x1 x2 x3 x4 : List ℕ} → Holds INSERTED ROWS x0 x1 [] → Holds DELETED ROWS x1 x2 [] → Holds NEW ROWS x2 x3 []
    → Holds OLD ROWS x3 x4 [] → AllBare x0 x4
unfolding table_bytes
all-emptied {x0} {x1} {x2} {x3} {x4} a b c d =
    let f4 : Frame OLD CHOSEN x3 x4 = frame-wider d.frame (omega arith) (omega arith) in
    let f3 : Frame NEW CHOSEN x2 x4 = frame-join c.frame f4 (omega arith) (omega arith) (omega arith) (omega arith) in
    let f2 : Frame DELETED CHOSEN x1 x4 = frame-join b.frame f3 (omega arith) (omega arith) (omega arith) (omega arith) in
    record {
      frame = frame-join a.frame f2 (omega arith) (omega arith) (omega arith) (omega arith);
      inserted = bare-below f2 (made-bare a) (omega arith);
      deleted = bare-below f3 (made-bare b) (omega arith);
      new = bare-below f4 (made-bare c) (omega arith);
      old = made-bare d;
    }

-- ---- What stays where only the four tables are written

module _ {xs ys : List ℕ} (w : Laid xs) (f : Frame INSERTED CHOSEN xs ys) where
  wait-kept : (j : ℕ) → j < 16 → table_at ys (wait_at j) ≡ table_at xs (wait_at j)
  wait-kept j h = table-kept-above f (wait_at j) ENTRIES (w.waits j h) (omega arith)

  drawn-kept : (k : ℕ) (rule : Rule) → k < 16 → drawn_for ys k rule ≡ drawn_for xs k rule
  unfolding drawn_for waits_in
  drawn-kept k rule h = rw (rows-kept f (omega arith) w.live, wait-kept k h)

  laid_kept : Stands INSERTED ROWS ys → Stands DELETED ROWS ys → Stands NEW ROWS ys → Stands OLD ROWS ys → Laid ys
  unfolding table_bytes
  laid_kept a b c d =
      record {
        long = rw f.len w.long;
        live = stands-kept-below f LIVE ROWS w.live (omega arith);
        inserted = a;
        deleted = b;
        new = c;
        old = d;
        chosen = stands-kept-above f CHOSEN ROWS w.chosen (omega arith);
        worked = stands-kept-above f WORKED ROWS w.worked (omega arith);
        waits = λ j h. stands-kept-above f (wait_at j) ENTRIES (w.waits j h) (omega arith);
        stretch = stands-kept-above f STRETCH ENTRIES w.stretch (omega arith);
      }

-- what the loop leans on, of the room that it begins with
pub record Begun (rule : Rule) (k : ℕ) (x : List ℕ) : Type 0 where
  pub laid : Laid x
  pub within : k < 16
  pub sorted : Sorted (table_at x LIVE)
  pub few : Few (drawn_for x k rule)

begin : {rule : Rule} {xs x : List ℕ} (k : ℕ) → Laid xs → k < 16 → Sorted (table_at xs LIVE) → Few (drawn_for xs k rule) → AllBare xs x
    → Begun rule k x
begin {rule} k w b s few e =
    record {
      laid = laid_kept w e.frame e.inserted.stands e.deleted.stands e.new.stands e.old.stands;
      within = b;
      sorted = rw (live-kept e.frame (omega arith) w.live) s;
      few = rw (drawn-kept w e.frame k rule b) few;
    }

-- ---- One table of the four: what it shows, and then what is left

pub record Part (f : Slot → Option Row) (base : ℕ) (l : List Slot) (x : List ℕ) (i : ℕ) : Type 0 where
  pub stands : Stands base ROWS x
  pub list : gather f l ≡ rows_meant (table_at x base) ++ gather f (drop i l)

before_more : {A : Type 0} (o : Option A) (r : List A) → before o r ≡ before o [] ++ r
before_more none r = refl
before_more (some a) r = refl

module _ {f : Slot → Option Row} {base : ℕ} {l : List Slot} {x : List ℕ} where
  part-start : Bare base x → Part f base l x 0
  unfolding rows_meant
  part-start b = record { stands = b.stands; list = rw b.none }

  module _ (i : ℕ) (p : Part f base l x i) where
    -- the next effect, and those after it
    part-next : {e : Slot} → i < length l → e ≡ get_or l i blank
        → gather f l ≡ (rows_meant (table_at x base) ++ before (f e) []) ++ gather f (drop (i + 1) l)
    part-next {e} h q =
        p.list
        ∙ rw (
          drop_more l i blank h,
          ← q,
          before_more (f e) (gather f (drop (i + 1) l)),
          ← append_assoc (rows_meant (table_at x base)) (before (f e) []) (gather f (drop (i + 1) l)),
        )

    part_room : {e : Slot} → i < length l → e ≡ get_or l i blank → length (gather f l) ≤ ROWS → RoomFor base x (f e)
    part_room {e} h q few =
        let total = simp length-append at (ap length (part-next h q)) in
        record {
          stands = p.stands;
          spare = omega (arith, total, rows-length (table_at x base), table-length x base);
        }

    part_step : {y : List ℕ} {e : Slot} → i < length l → e ≡ get_or l i blank → Grown base x y (f e) → Part f base l y (i + 1)
    part_step h q g =
        record {
          stands = g.stands;
          list = part-next h q ∙ ap (λ (r : List Row). r ++ gather f (drop (i + 1) l)) (sym g.rows);
        }

    part-done : length l ≤ i → rows_meant (table_at x base) ≡ gather f l
    part-done h = sym (p.list ∙ rw (drop_of_length-le l h, append-nil))

-- ---- The four tables

gather-map : {A B C : Type 0} (g : B → Option C) (h : A → B) (l : List A) → gather g (map h l) ≡ gather (λ x. g (h x)) l
gather-map g h [] = refl
gather-map g h (x ∷ l) = ap (before (g (h x))) (gather-map g h l)

-- what all that waits for rule k shows in each
module _ (rule : Rule) (k : ℕ) (x : List ℕ) where
  drawn-inserted : (drawn_for x k rule).inserted_rows ≡ gather (inserted_of rule (live_rows x)) (table_at x (wait_at k))
  unfolding drawn_for transition waits_in wait_meant entry_meant inserted_of
  drawn-inserted = gather-map (λ p. inserted_row rule (live_rows x) p.0 p.1) entry_meant (table_at x (wait_at k))

  drawn-deleted : (drawn_for x k rule).deleted_rows ≡ gather (deleted_of rule (live_rows x)) (table_at x (wait_at k))
  unfolding drawn_for transition waits_in wait_meant entry_meant deleted_of
  drawn-deleted = gather-map (λ p. deleted_row rule p.1) entry_meant (table_at x (wait_at k))

  drawn-new : (drawn_for x k rule).new_updated ≡ gather (new_of rule (live_rows x)) (table_at x (wait_at k))
  unfolding drawn_for transition waits_in wait_meant entry_meant new_of
  drawn-new = gather-map (λ p. new_row rule (live_rows x) p.0 p.1) entry_meant (table_at x (wait_at k))

  drawn-old : (drawn_for x k rule).old_updated ≡ gather (old_of rule (live_rows x)) (table_at x (wait_at k))
  unfolding drawn_for transition waits_in wait_meant entry_meant old_of
  drawn-old = gather-map (λ p. old_row rule p.1) entry_meant (table_at x (wait_at k))

same_tables : {t u : Transition} → t.inserted_rows ≡ u.inserted_rows → t.deleted_rows ≡ u.deleted_rows → t.new_updated ≡ u.new_updated
    → t.old_updated ≡ u.old_updated → t ≡ u
same_tables a b c d = λ i. record { inserted_rows = a i; deleted_rows = b i; new_updated = c i; old_updated = d i }

-- the loop: the first i of the effects that wait for rule k in x0 are shown
pub record Drawing (rule : Rule) (k : ℕ) (x0 x : List ℕ) (i : ℕ) : Type 0 where
  pub begun : Begun rule k x0
  pub frame : Frame INSERTED CHOSEN x0 x
  pub inserted : Part (inserted_of rule (live_rows x0)) INSERTED (table_at x0 (wait_at k)) x i
  pub deleted : Part (deleted_of rule (live_rows x0)) DELETED (table_at x0 (wait_at k)) x i
  pub new : Part (new_of rule (live_rows x0)) NEW (table_at x0 (wait_at k)) x i
  pub old : Part (old_of rule (live_rows x0)) OLD (table_at x0 (wait_at k)) x i

pub draw-start : {rule : Rule} {xs x : List ℕ} (k : ℕ) → Laid xs → k < 16 → Sorted (table_at xs LIVE) → Few (drawn_for xs k rule)
    → AllBare xs x → Drawing rule k x x 0
draw-start k w h s few b =
    record {
      begun = begin k w h s few b;
      frame = frame-refl;
      inserted = part-start b.inserted;
      deleted = part-start b.deleted;
      new = part-start b.new;
      old = part-start b.old;
    }

module _ {rule : Rule} {x0 x : List ℕ} (k i : ℕ) (d : Drawing rule k x0 x i) where
  -- at a turn
  draw-laid : Laid x
  draw-laid = laid_kept d.begun.laid d.frame d.inserted.stands d.deleted.stands d.new.stands d.old.stands

  rows_same : live_rows x ≡ live_rows x0
  rows_same = rows-kept d.frame (omega arith) d.begun.laid.live

  pub draw-live : LiveRises x
  draw-live = still-live d.frame (omega arith) (record { stands = d.begun.laid.live; sorted = d.begun.sorted })

  pub draw-wait : Stands (wait_at k) ENTRIES x
  draw-wait = draw-laid.waits k d.begun.within

  module _ (more : i < low32_at x0 (wait_at k)) where
    pub draw-within : i < low32_at x (wait_at k)
    draw-within = omega (arith, word-kept-above d.frame (wait_at k) (omega arith))

    was : slot_in x (wait_at k) i ≡ slot_in x0 (wait_at k) i
    was = ap (λ (l : List Slot). get_or l i blank) (wait-kept d.begun.laid d.frame k d.begun.within)

    inside : i < length (table_at x0 (wait_at k))
    inside = omega (arith, table-length x0 (wait_at k))

    pub draw-ready : RoomForAll rule (slot_in x (wait_at k) i) x
    draw-ready =
        let few : Few (drawn_for x0 k rule) = d.begun.few in
        record {
          inserted = rw rows_same (part_room i d.inserted inside was (rw (drawn-inserted rule k x0) at few.inserted));
          deleted = rw rows_same (part_room i d.deleted inside was (rw (drawn-deleted rule k x0) at few.deleted));
          new = rw rows_same (part_room i d.new inside was (rw (drawn-new rule k x0) at few.new));
          old = rw rows_same (part_room i d.old inside was (rw (drawn-old rule k x0) at few.old));
        }

    pub draw-step : {y : List ℕ} → Shown rule (slot_in x (wait_at k) i) x y → Drawing rule k x0 y (i + 1)
    draw-step s =
        record {
          begun = d.begun;
          frame = frame-trans d.frame s.frame;
          inserted = part_step i d.inserted inside was (rw rows_same at s.inserted);
          deleted = part_step i d.deleted inside was (rw rows_same at s.deleted);
          new = part_step i d.new inside was (rw rows_same at s.new);
          old = part_step i d.old inside was (rw rows_same at s.old);
        }

  -- nothing is left: the four tables are those of the consideration
  draw-tables : low32_at x0 (wait_at k) ≤ i → transition_in x ≡ drawn_for x0 k rule
  unfolding transition_in
  draw-tables h =
      let past : length (table_at x0 (wait_at k)) ≤ i = omega (arith, table-length x0 (wait_at k)) in
      same_tables
      (part-done i d.inserted past ∙ sym (drawn-inserted rule k x0))
      (part-done i d.deleted past ∙ sym (drawn-deleted rule k x0))
      (part-done i d.new past ∙ sym (drawn-new rule k x0))
      (part-done i d.old past ∙ sym (drawn-old rule k x0))

-- ---- What waited is emptied

module _ {x y : List ℕ} (k : ℕ) (w : Laid x) (b : k < 16) (h : Holds (wait_at k) ENTRIES x y []) where
  tables-kept : transition_in y ≡ transition_in x
  tables-kept = transition-kept (kept-below h.frame) w (omega arith) (omega arith)

  others-kept : (j : ℕ) → j < 16 → j ≢ k → table_at y (wait_at j) ≡ table_at x (wait_at j)
  unfolding table_bytes
  others-kept j m n =
      split (ltb j k)
      (λ t. let l = ltb-true j k t in table-kept-below h.frame (wait_at j) ENTRIES (w.waits j m) (omega arith))
      (λ t.
      let l : k < j = strict k j (ltb-false j k t) n in
      table-kept-above h.frame (wait_at j) ENTRIES (w.waits j m) (omega arith))

  waits-stand : (j : ℕ) → j < 16 → Stands (wait_at j) ENTRIES y
  unfolding table_bytes
  waits-stand j m =
      split (ltb j k)
      (λ t. let l = ltb-true j k t in stands-kept-below h.frame (wait_at j) ENTRIES (w.waits j m) (omega arith))
      (λ t.
      split (eqb j k)
      (λ u. rw (eqb-true j k u) h.stands)
      (λ u.
      let l : k < j = strict k j (ltb-false j k t) (eqb-false j k u) in
      stands-kept-above h.frame (wait_at j) ENTRIES (w.waits j m) (omega arith)))

  laid-after : Laid y
  unfolding table_bytes
  laid-after =
      record {
        long = rw h.frame.len w.long;
        live = stands-kept-below h.frame LIVE ROWS w.live (omega arith);
        inserted = stands-kept-below h.frame INSERTED ROWS w.inserted (omega arith);
        deleted = stands-kept-below h.frame DELETED ROWS w.deleted (omega arith);
        new = stands-kept-below h.frame NEW ROWS w.new (omega arith);
        old = stands-kept-below h.frame OLD ROWS w.old (omega arith);
        chosen = stands-kept-below h.frame CHOSEN ROWS w.chosen (omega arith);
        worked = stands-kept-below h.frame WORKED ROWS w.worked (omega arith);
        waits = waits-stand;
        stretch = stands-kept-above h.frame STRETCH ENTRIES w.stretch (omega arith);
      }

pub draw-done : {rule : Rule} {xs x0 x y : List ℕ} (k i : ℕ) → Laid xs → AllBare xs x0
    → Drawing rule k x0 x i → low32_at x0 (wait_at k) ≤ i → Holds (wait_at k) ENTRIES x y [] → Drew xs y k rule
unfolding table_bytes
draw-done {rule} {xs} {x0} {x} {y} k i w e d z h =
    let b : k < 16 = d.begun.within in
    let f : Frame INSERTED CHOSEN xs x = frame-trans e.frame d.frame in
    let g : Frame INSERTED STRETCH xs y = frame-join f h.frame (omega arith) (omega arith) (omega arith) (omega arith) in
    let wx : Laid x = draw-laid k i d in
    record {
      laid = laid-after k wx b h;
      tables = tables-kept k wx b h ∙ draw-tables k i d z ∙ drawn-kept w e.frame k rule b;
      emptied = h.list;
      others = λ j m q. others-kept k wx b h j m q ∙ wait-kept w f j m;
      stretch = table-kept-above g STRETCH ENTRIES w.stretch (omega arith);
      before = kept-below g;
      beyond = kept_above {lo = INSERTED} (frame-wider g (omega arith) (omega arith));
    }
