-- The marks: a state at the start has them all at 0, and a drawing moves one up to now. What waits for that rule is then the net effect of
-- no operation, as its table is empty; the rest of the state stays, as do the live rows and the other tables.
use mathlib.Core.Path.{◌≡◌, refl, sym, ap, ◌∙◌}
use mathlib.Core.Bool.{Bool, true, false}
use mathlib.Core.List.{List, [], append-nil}
use Prim.Native.Nat.{ℕ, ◌≤◌, ◌<◌}
use native.Mathlib.Omega.{arith}
use lib.Dec.{eqb, ltb}
use lib.ListN.{length, get_or, set, drop, length-set}
use lib.Seq.{drop-length, get_or-set_same, get_or-set_other, set_out}
use borrow.Author.Tests.{eqb-true, eqb-false, ltb-true, ltb-false}
use Rattle.meaning.specs.Covers.{Rule, Image}
use Rattle.meaning.specs.RowOperations.{RowOperation, make_all, net_effect, own_of}
use Rattle.meaning.specs.Processing.{State, since, waits, moved, after_log}
use Rattle.meaning.specs.Made.{Sound, Made.none as none_made}
use Rattle.meaning.proofs.NetEffects.{net_effect-none}
use Rattle.words.specs.Words.{Bytes, low32_at}
use Rattle.words.proofs.Laws.{all_same}
use Rattle.slots.specs.Slots.{table_at}
use Rattle.room.specs.Room.{NEXT, STRETCH, wait_at, Laid, wait_meant, live_rows, waits_in, stretch_in}
use Rattle.room.specs.Joins.{RulesEnd}
use Rattle.room.specs.Drawn.{Drew}
use Rattle.room.specs.Represents.{Represents, Settled, Reached, starting, seen, made_all}
use Rattle.meaning.proofs.OwnTable.{own-none}
use Rattle.room.proofs.Kept.{word_kept, live-kept}
use Rattle.room.proofs.Settling.{settled-waits}

-- ---- A mark is moved

-- a consideration's state
pub seen-moved : (rules : List Rule) (s : State) (k : ℕ) (os : List RowOperation) → made_all os (seen s k) ≡ moved rules s k os
unfolding seen made_all moved
seen-moved rules s k os = refl

pub seen-mark : (s : State) (k : ℕ) → k < length s.marks → get_or (seen s k).marks k 0 ≡ length s.done
unfolding seen
seen-mark s k b = get_or-set_same s.marks k (length s.done) 0 b

pub seen-length : (s : State) (k : ℕ) → length (seen s k).marks ≡ length s.marks
unfolding seen
seen-length s k = length-set s.marks k (length s.done)

-- a list with an element stored has it, or what was there
set-at-most : (l : List ℕ) (k n : ℕ) → ((j : ℕ) → get_or l j 0 ≤ n) → (j : ℕ) → get_or (set l k n) j 0 ≤ n
set-at-most l k n f j = go (eqb j k) refl (ltb k (length l)) refl
  where
    go : (t : Bool) → eqb j k ≡ t → (u : Bool) → ltb k (length l) ≡ u → get_or (set l k n) j 0 ≤ n
    go true e true b = rw (eqb-true j k e, get_or-set_same l k n 0 (ltb-true k (length l) b)) (omega arith)
    go true e false b = rw (set_out l k n (ltb-false k (length l) b)) (f j)
    go false e u b = rw (get_or-set_other l k j n 0 (eqb-false j k e)) (f j)

pub reached-seen : {start : Image} {s : State} → Reached start s → (k : ℕ) → Reached start (seen s k)
unfolding seen
reached-seen {s = s} r k =
    record {
      sound = r.sound;
      made = r.made;
      image = r.image;
      marked = set-at-most s.marks k (length s.done) r.marked;
    }

-- ---- What waits then

pub seen_none : (s : State) (k : ℕ) → k < length s.marks → waits (seen s k) k ≡ []
unfolding waits since seen
seen_none s k b = rw (get_or-set_same s.marks k (length s.done) 0 b, drop-length s.done) net_effect-none

pub seen_other : (s : State) (k j : ℕ) → eqb j k ≡ false → waits (seen s k) j ≡ waits s j
unfolding waits since seen
seen_other s k j e = rw (get_or-set_other s.marks k j (length s.done) 0 (eqb-false j k e))

-- ---- The room after a drawing

pub drew : {s : State} {xs ys tables : List ℕ} {k : ℕ} {rule : Rule} → Settled xs tables s → Drew xs ys k rule → Bytes ys
    → k < length s.marks → Settled ys tables (seen s k)
unfolding waits since seen waits_in stretch_in wait_meant
drew {s} {xs} {ys} {tables} {k} p d bytes mark =
    let r = p.represents in
    record {
      represents =
          record {
            laid = d.laid;
            bytes = bytes;
            next = word_kept d.before NEXT (omega arith) (omega arith) ∙ r.next;
            rows = live-kept d.before r.laid (omega arith) (omega arith) ∙ r.rows;
            ended = r.ended;
            joined = s.done;
            since = [];
            whole = sym (append-nil s.done);
            marked = set-at-most s.marks k (length s.done) (λ j. rw whole (r.marked j));
            waiting = λ j b a. go j b a (eqb j k) refl;
            stretch = ap wait_meant d.stretch ∙ r.stretch ∙ ap net_effect p.none;
          };
      none = refl;
    }
  where
    whole : s.done ≡ p.represents.joined
    whole = p.represents.whole ∙ rw p.none (append-nil p.represents.joined)

    go : (j : ℕ) → j < 16 → get_or tables j 0 ≤ 3 → (t : Bool) → eqb j k ≡ t
        → waits_in ys j ≡ own_of (get_or tables j 0) (net_effect (drop (get_or (set s.marks k (length s.done)) j 0) s.done))
    go j b a true e = rw (eqb-true j k e, d.emptied) (sym (ap (own_of (get_or tables k 0)) (seen_none s k mark) ∙ own-none (get_or tables k 0)))
    go j b a false e =
        ap wait_meant (d.others j b (eqb-false j k e)) ∙ settled-waits p j b a ∙ ap (own_of (get_or tables j 0)) (sym (seen_other s k j e))

-- ---- The start

pub starting-log : (rules : List Rule) (order : List ℕ) (start : Image) (os : List RowOperation)
    → made_all os (starting rules start) ≡ after_log rules order start os
unfolding starting made_all after_log
starting-log rules order start os = refl

pub reached-starting : (rules : List Rule) {start : Image} → Sound start → Reached start (starting rules start)
unfolding starting make_all
reached-starting rules s =
    record { sound = s; made = none_made; image = refl; marked = λ k. rw (all_same {A = ℕ} (length rules) k 0) (omega arith) }

pub represents-starting : (rules : List Rule) {start : Image} {xs tables : List ℕ} → Laid xs → Bytes xs
    → low32_at xs NEXT ≡ start.next → live_rows xs ≡ start.rows
    → ((k : ℕ) → k < 16 → table_at xs (wait_at k) ≡ []) → table_at xs STRETCH ≡ [] → RulesEnd tables
    → Represents xs tables (starting rules start)
unfolding starting waits_in stretch_in wait_meant
represents-starting rules {start} {tables = tables} laid bytes next rows empty none ended =
    record {
      laid = laid;
      bytes = bytes;
      next = next;
      rows = rows;
      ended = ended;
      joined = [];
      since = [];
      whole = refl;
      marked = λ k. rw (all_same {A = ℕ} (length rules) k 0) (omega arith);
      waiting = λ k b a. rw (empty k b, all_same {A = ℕ} (length rules) k 0, net_effect-none) (sym (own-none (get_or tables k 0)));
      stretch = rw none (sym net_effect-none);
    }
