-- A change of the chosen rows and of those worked out, and of nothing else, is aside from what the room represents: live rows, next handle,
-- transition tables and what waits stand elsewhere. So what acts after such a change acts from the room before it.
use Rattle.std.specs.Prelude.{Err}
use mathlib.Core.Path.{◌≡◌, ap, ◌∙◌}
use mathlib.Core.List.{List, []}
use Prim.Native.Nat.{ℕ}
use native.Mathlib.Omega.{arith}
use lib.ListN.{length}
use Rattle.meaning.specs.Covers.{Image, failed, Query}
use Rattle.meaning.specs.Processing.{State}
use Rattle.meaning.specs.Processing.Actions.{Result, ends}
use Rattle.words.specs.Words.{Bytes}
use Rattle.slots.specs.Slots.{table_at, table_bytes, Frame}
use Rattle.slots.proofs.Frames.{frame-wider, frame-trans, word-kept-below}
use Rattle.slots.proofs.Tables.{table-kept-below, table-kept-above, stands-kept-below}
use Rattle.room.specs.Room.{NEXT, CHOSEN, WAITS, END, ROWS, ENTRIES, wait_at, Laid, Kept, wait_meant, live_rows, transition_in, waits_in, stretch_in, STRETCH}
use Rattle.room.specs.Represents.{Represents, Running}
use Rattle.room.proofs.Kept.{kept_trans, kept-below, live-kept, transition-kept, laid-aside}
use Rattle.room.proofs.Steps.{made_all-none}
use Rattle.query.specs.Chosen.{Chose}
use Rattle.query.proofs.Keeping.{laid_kept}
use Rattle.working.specs.Working.{Works}
use Rattle.rows.specs.declared.Reason.{Reason}
use Rattle.changes.specs.declared.Stop.TheVariants.{Failed}
use Rattle.changes.specs.Steps.{Step, Acts, reason_meant}
use Rattle.changes.specs.Steps as Steps

pub record Aside (xs ys : List ℕ) : Type 0 where
  pub frame : Frame CHOSEN WAITS xs ys
  pub laid : Laid ys

-- ---- The changes that are aside

pub aside-chosen : {xs ys : List ℕ} {q : Query} → Laid xs → Chose xs ys q → Aside xs ys
unfolding table_bytes
aside-chosen l c = record { frame = frame-wider c.frame (omega arith) (omega arith); laid = laid_kept l c.frame c.stands }

pub aside-worked : {xs ys : List ℕ} → Laid xs → Works xs ys → Aside xs ys
unfolding table_bytes
aside-worked {xs} {ys} l w =
    let f = w.frame in
    record {
      frame = frame-wider f (omega arith) (omega arith);
      laid =
          laid-aside l (frame-wider f (omega arith) (omega arith)) (stands-kept-below f CHOSEN ROWS l.chosen (omega arith))
          w.stands;
    }

pub chosen-stays : {xs ys : List ℕ} → Laid xs → Works xs ys → table_at ys CHOSEN ≡ table_at xs CHOSEN
unfolding table_bytes
chosen-stays l w = table-kept-below w.frame CHOSEN ROWS l.chosen (omega arith)

pub aside-more : {xs ys zs : List ℕ} → Aside xs ys → Aside ys zs → Aside xs zs
aside-more a b = record { frame = frame-trans a.frame b.frame; laid = b.laid }

-- ---- What stays

module _ {xs ys : List ℕ} (l : Laid xs) (a : Aside xs ys) where
  pub live-aside : live_rows ys ≡ live_rows xs
  live-aside = live-kept (kept-below a.frame) l (omega arith) (omega arith)

  pub transition-aside : transition_in ys ≡ transition_in xs
  transition-aside = transition-kept (kept-below a.frame) l (omega arith) (omega arith)

  beyond-aside : Kept END (length xs) xs ys
  beyond-aside = record { len = a.frame.len; same = λ i b h. a.frame.above i (omega arith) }

  pub represents-aside : {tables : List ℕ} {s : State} → Bytes ys → Represents xs tables s → Represents ys tables s
  unfolding waits_in stretch_in
  represents-aside bytes p =
      record {
        laid = a.laid;
        bytes = bytes;
        next = word-kept-below a.frame NEXT (omega arith) ∙ p.next;
        rows = live-aside ∙ p.rows;
        ended = p.ended;
        joined = p.joined;
        since = p.since;
        whole = p.whole;
        marked = p.marked;
        waiting = λ k h on.
            ap wait_meant (table-kept-above a.frame (wait_at k) ENTRIES (l.waits k h) (omega arith)) ∙ p.waiting k h on;
        stretch = ap wait_meant (table-kept-above a.frame STRETCH ENTRIES l.stretch (omega arith)) ∙ p.stretch;
      }

pub running-aside : {xs ys : List ℕ} → Aside xs ys → Bytes ys → Running xs → Running ys
running-aside a bytes run =
    record {
      tables = run.tables;
      start = run.start;
      state = run.state;
      reached = run.reached;
      represents = represents-aside run.represents.laid a bytes run.represents;
    }

-- ---- What acts after it

module _ {xs ys : List ℕ} (l : Laid xs) (a : Aside xs ys) where
  pub acts-after : {zs : List ℕ} {f g : Image → Result} {r : Step} → Bytes ys
      → ((tables : List ℕ) (s : State) → Represents xs tables s → g s.image ≡ f s.image) → Acts ys zs f r → Acts xs zs g r
  acts-after {zs} {f} {g} {r} bytes same act =
      let len : length ys ≡ length xs = a.frame.len in
      let kept : Kept END (length xs) ys zs = rw len at act.beyond in
      record {
        laid = act.laid;
        shown = act.shown ∙ transition-aside l a;
        beyond = kept_trans (beyond-aside l a) kept;
        follows = λ tables start s q p. rw (same tables s p) (act.follows tables start s q (represents-aside l a bytes p));
      }

  pub fails-after : {g : Image → Result} → Bytes ys → (reason : Reason)
      → ((tables : List ℕ) (s : State) → Represents xs tables s → g s.image ≡ ends (failed (reason_meant reason)) [])
      → Acts xs ys g (Err (Failed reason))
  fails-after bytes reason same =
      record {
        laid = a.laid;
        shown = transition-aside l a;
        beyond = beyond-aside l a;
        follows = λ tables start s q p. rw (same tables s p) (Steps.fails {os = []} (rw (made_all-none s) (represents-aside l a bytes p)));
      }
