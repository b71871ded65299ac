-- A room in which a rule's transition tables were drawn still represents a state that a run reaches. The state before may have no mark for
-- the rule: one with marks at 0 behind the others stands for it, since a missing mark counts as 0.
use mathlib.Core.Path.{◌≡◌, refl}
use mathlib.Core.List.{List, [], ◌∷◌, ◌++◌}
use Prim.Native.Nat.{ℕ, zero, suc, ◌<◌}
use native.Mathlib.Omega.{arith}
use lib.ListN.{length, get_or, replicate, length-append, length-replicate}
use Rattle.meaning.specs.Covers.{Rule, Image}
use Rattle.meaning.specs.Processing.{State}
use Rattle.words.specs.Words.{Bytes}
use Rattle.words.proofs.Laws.{all_same}
use Rattle.room.specs.Drawn.{Drew}
use Rattle.room.specs.Represents.{Settled, Reached, Running, Ready, seen}
use Rattle.room.proofs.Marks.{reached-seen, drew}

-- marks at 0 that follow count for no more than missing ones
zeros-follow : (l : List ℕ) (n j : ℕ) → get_or (l ++ replicate n 0) j 0 ≡ get_or l j 0
zeros-follow [] n j = all_same {A = ℕ} n j 0
zeros-follow (a ∷ l) n zero = refl
zeros-follow (a ∷ l) n (suc j) = zeros-follow l n j

-- a state with marks at 0 behind the others, so that rule k has one
unfoldable marked : State → ℕ → State
marked s k = record { image = s.image; done = s.done; marks = s.marks ++ replicate (suc k) 0 }

marked-long : (s : State) (k : ℕ) → k < length (marked s k).marks
unfolding marked
marked-long s k = simp (length-append, length-replicate) (omega arith)

marked-reached : {start : Image} {s : State} → Reached start s → (k : ℕ) → Reached start (marked s k)
unfolding marked
marked-reached {s = s} r k =
    record {
      sound = r.sound;
      made = r.made;
      image = r.image;
      marked = λ j. rw (zeros-follow s.marks (suc k) j) (r.marked j);
    }

marked-settled : {s : State} {xs tables : List ℕ} → Settled xs tables s → (k : ℕ) → Settled xs tables (marked s k)
unfolding marked
marked-settled {s} {tables = tables} p k =
    let r = p.represents in
    record {
      represents =
          record {
            laid = r.laid;
            bytes = r.bytes;
            next = r.next;
            rows = r.rows;
            ended = r.ended;
            joined = r.joined;
            since = r.since;
            whole = r.whole;
            marked = λ j. rw (zeros-follow s.marks (suc k) j) (r.marked j);
            waiting = λ j b a. rw (zeros-follow s.marks (suc k) j) (r.waiting j b a);
            stretch = r.stretch;
          };
      none = p.none;
    }

pub running-drawn : {xs ys tables : List ℕ} {k : ℕ} {rule : Rule} → Ready xs tables → Drew xs ys k rule → Bytes ys → Running ys
running-drawn {tables = tables} {k = k} ready d bytes =
    record {
      tables = tables;
      start = ready.start;
      state = seen (marked ready.state k) k;
      reached = reached-seen (marked-reached ready.reached k) k;
      represents = (drew (marked-settled ready.settled k) d bytes (marked-long ready.state k)).represents;
    }
