-- An operation that fits carries the representation on: a state that is reached stays so, the table of what was done since the last joining
-- has room for it, and the room after it represents the state after it. A stretch leads from a sound image to the image now, so that its net
-- effect has at most 64 entries for the rows of each.
use mathlib.Core.Path.{◌≡◌, refl, sym, ap, ◌∙◌}
use mathlib.Core.List.{List, [], ◌∷◌, ◌++◌, append-nil, append_assoc}
use Prim.Native.Nat.{ℕ, ◌+◌, ◌≤◌, ◌<◌}
use native.Mathlib.Omega.{arith}
use lib.ListN.{length, get_or, take, drop, set, length-append, take-append-drop}
use Rattle.meaning.specs.Covers.{Row, Image}
use Rattle.meaning.specs.RowOperations.{RowOperation, inserts, deletes, updates, handle_of, effect_of, make, make_all, net_effect}
use Rattle.meaning.specs.Processing.{State, since, waits}
use Rattle.meaning.specs.Made.{Sound, Fits, Made, more, Made.none as none_made}
use Rattle.meaning.proofs.Lookups.{make_all-append, made-front, made-back, made-append}
use Rattle.meaning.proofs.Images.{make_all-sound}
use Rattle.meaning.proofs.NetEffects.{net_effect-more, net_effect-listed}
use Rattle.meaning.proofs.Capacity.{capacity}
use Rattle.words.specs.Words.{Bytes, low32_at}
use Rattle.slots.specs.declared.Slot.{Slot}
use Rattle.slots.specs.Slots.{table_at, table_bytes, remove_at, blank}
use Rattle.room.specs.Room.{NEXT, LIVE, STRETCH, ENTRIES, wait_at, row_meant, rows_meant, effect_meant, wait_meant, live_rows, waits_in}
use Rattle.room.specs.Room.{stretch_in}
use Rattle.room.specs.Joins.{as_effect, join_slots, Joinable}
use Rattle.room.specs.Turned.{Turned}
use Rattle.room.specs.Represents.{Represents, Reached, made_one, made_all, Says}
use Rattle.room.proofs.Kept.{table_kept}
use Rattle.room.proofs.Waits.{waits-sorted, waits-length, waits-more}
use Rattle.room.proofs.Live.{reached-sound, live-sorted, rows_pushed, rows-removed, rows-stored}

-- ---- Several operations

pub made_all-none : (s : State) → made_all [] s ≡ s
unfolding made_all make_all
made_all-none s = ap (λ (os : List RowOperation). record { image = s.image; done = os; marks = s.marks }) (append-nil s.done)

pub made_all-one : (o : RowOperation) (s : State) → made_all (o ∷ []) s ≡ made_one o s
unfolding made_one made_all make_all
made_all-one o s = refl

pub made_all-append : (xs ys : List RowOperation) (s : State) → made_all (xs ++ ys) s ≡ made_all ys (made_all xs s)
unfolding made_all
made_all-append xs ys s = rw (make_all-append xs ys s.image, append_assoc s.done xs ys)

pub made_all-more : (o : RowOperation) (os : List RowOperation) (s : State) → made_all (o ∷ os) s ≡ made_all os (made_one o s)
made_all-more o os s = made_all-append (o ∷ []) os s ∙ ap (made_all os) (made_all-one o s)

-- ---- States that are reached

pub reached-all : {start : Image} {s : State} {os : List RowOperation} → Reached start s → Made s.image os → Reached start (made_all os s)
unfolding made_all
reached-all {start} {s} {os} r k =
    record {
      sound = r.sound;
      made = made-append r.made (rw r.image at k);
      image = ap (make_all os) r.image ∙ sym (make_all-append s.done os start);
      marked = λ j. simp length-append (omega (arith, r.marked j));
    }

pub reached-one : {start : Image} {s : State} {o : RowOperation} → Reached start s → Fits s.image o → Reached start (made_one o s)
reached-one {s = s} {o = o} r f = rw (← made_all-one o s) (reached-all r (more f none_made))

-- ---- Stretches

-- operations that lead from a sound image to another
pub record Stretch (m : Image) (os : List RowOperation) (end : Image) : Type 0 where
  pub sound : Sound m
  pub made : Made m os
  pub ends : make_all os m ≡ end

-- its net effect has room: an entry is of a row at its start, or of one at its end
stretch-few : {m end : Image} {os : List RowOperation} → Stretch m os end → Sound end → length (net_effect os) ≤ ENTRIES
stretch-few {m} {end} {os} t sound =
    let e : length (make_all os m).rows ≡ length end.rows = ap (λ (x : Image). length x.rows) t.ends in
    omega (arith, capacity t.sound t.made, e, t.sound.rows_fit, sound.rows_fit)

-- what a run did after any of its operations
stretch-after : {start : Image} {s : State} → Reached start s → (xs ys : List RowOperation) → s.done ≡ xs ++ ys
    → Stretch (make_all xs start) ys s.image
stretch-after {start} r xs ys whole =
    let made : Made start (xs ++ ys) = rw (← whole) r.made in
    record {
      sound = make_all-sound r.sound (made-front xs ys made);
      made = made-back xs ys made;
      ends = sym (make_all-append xs ys start) ∙ rw (← whole) (sym r.image);
    }

-- the image at a rule's mark
unfoldable pub mark_image : Image → State → ℕ → Image
mark_image start s k = make_all (take (get_or s.marks k 0) s.done) start

-- the stretch of a rule
pub stretch : {start : Image} {s : State} → Reached start s → (k : ℕ) → Stretch (mark_image start s k) (since s k) s.image
unfolding mark_image since
stretch {s = s} r k =
    let n = get_or s.marks k 0 in
    stretch-after r (take n s.done) (drop n s.done) (sym (take-append-drop n s.done))

pub waits-few : {start : Image} {s : State} → Reached start s → (k : ℕ) → length (waits s k) ≤ ENTRIES
unfolding waits
waits-few r k = stretch-few (stretch r k) (reached-sound r)

-- ---- One operation

module _ {start : Image} {s : State} {xs tables : List ℕ} (reached : Reached start s) (p : Represents xs tables s)
    {o : RowOperation} {op : Slot} (f : Fits s.image o) (says : Says o op) where
  -- the operations done then
  whole-more : (made_one o s).done ≡ p.joined ++ (p.since ++ (o ∷ []))
  unfolding made_one
  whole-more = rw p.whole (append_assoc p.joined p.since (o ∷ []))

  -- the joined table means what was done then
  stretch-joined : wait_meant (join_slots op (table_at xs STRETCH)) ≡ net_effect (p.since ++ (o ∷ []))
  unfolding stretch_in
  stretch-joined =
      waits-more (table_at xs STRETCH) (net_effect p.since) (net_effect-listed p.since) p.stretch says
      ∙ sym (net_effect-more p.since o)

  pub joinable : Joinable xs op
  unfolding stretch_in
  joinable =
      record {
        laid = p.laid;
        takes =
            record {
              sorted = waits-sorted (table_at xs STRETCH) (net_effect p.since) (net_effect-listed p.since) p.stretch;
              fits =
                  omega (
                    arith,
                    waits-length (join_slots op (table_at xs STRETCH)) (net_effect (p.since ++ (o ∷ []))) stretch-joined,
                    stretch-few (stretch-after (reached-one reached f) p.joined (p.since ++ (o ∷ [])) whole-more)
                        (reached-sound (reached-one reached f)),
                  );
            };
      }

  pub turned : {ys : List ℕ} {live : List Slot} {next : ℕ} → Bytes ys → Turned xs ys live next op
      → rows_meant live ≡ (make o s.image).rows → next ≡ (make o s.image).next → Represents ys tables (made_one o s)
  unfolding made_one live_rows waits_in stretch_in table_bytes
  turned bytes t rows handle =
      record {
        laid = t.laid;
        bytes = bytes;
        next = t.handle ∙ handle;
        rows = ap rows_meant t.rows ∙ rows;
        ended = p.ended;
        joined = p.joined;
        since = p.since ++ (o ∷ []);
        whole = whole-more;
        marked = p.marked;
        waiting = λ k b a.
            ap wait_meant (table_kept t.between (wait_at k) ENTRIES (p.laid.waits k b) (omega arith) (omega arith)) ∙ p.waiting k b a;
        stretch = ap wait_meant t.stretch ∙ stretch-joined;
      }

-- ---- What the slot of an operation says

pub says-insert : (e : Slot) → Says (inserts (row_meant e)) (as_effect 1 0 e)
unfolding row_meant effect_meant as_effect handle_of effect_of
says-insert e = record { handle = refl; effect = refl }

pub says-delete : (e : Slot) → Says (deletes (row_meant e)) (as_effect 2 0 e)
unfolding row_meant effect_meant as_effect handle_of effect_of
says-delete e = record { handle = refl; effect = refl }

pub says-update : (mask : ℕ) (old new : Slot) → Says (updates mask (row_meant old) (row_meant new)) (as_effect 3 mask old)
unfolding row_meant effect_meant as_effect handle_of effect_of
says-update mask old new = record { handle = refl; effect = refl }

-- ---- An insert, a delete, an update

module _ {start : Image} {s : State} {xs ys tables : List ℕ} {next : ℕ} (reached : Reached start s)
    (p : Represents xs tables s) (bytes : Bytes ys) where
  pub turned-insert : (e : Slot) → Fits s.image (inserts (row_meant e)) → next ≡ low32_at xs NEXT + 1 → Turned xs ys (table_at xs LIVE ++ (e ∷ [])) next (as_effect 1 0 e)
      → Represents ys tables (made_one (inserts (row_meant e)) s)
  unfolding make live_rows
  turned-insert e f q t =
      turned reached p f (says-insert e) bytes t
      (rows_pushed (table_at xs LIVE) e ∙ ap (λ (rs : List Row). rs ++ (row_meant e ∷ [])) p.rows)
      (omega (arith, p.next))

  pub turned-delete : (i : ℕ) → i < length (table_at xs LIVE)
      → Fits s.image (deletes (row_meant (get_or (table_at xs LIVE) i blank))) → next ≡ low32_at xs NEXT
      → Turned xs ys (remove_at i (table_at xs LIVE)) next (as_effect 2 0 (get_or (table_at xs LIVE) i blank))
      → Represents ys tables (made_one (deletes (row_meant (get_or (table_at xs LIVE) i blank))) s)
  unfolding make live_rows row_meant
  turned-delete i b f q t =
      turned reached p f (says-delete (get_or (table_at xs LIVE) i blank)) bytes t
      (rows-removed (get_or (table_at xs LIVE) i blank).handle i (table_at xs LIVE) (live-sorted reached p) b refl ∙ rw p.rows)
      (q ∙ p.next)

  pub turned-update : (mask i : ℕ) (new : Slot) → i < length (table_at xs LIVE)
      → Fits s.image (updates mask (row_meant (get_or (table_at xs LIVE) i blank)) (row_meant new)) → next ≡ low32_at xs NEXT
      → Turned xs ys (set (table_at xs LIVE) i new) next (as_effect 3 mask (get_or (table_at xs LIVE) i blank))
      → Represents ys tables (made_one (updates mask (row_meant (get_or (table_at xs LIVE) i blank)) (row_meant new)) s)
  unfolding make live_rows row_meant
  turned-update mask i new b f q t =
      turned reached p f (says-update mask (get_or (table_at xs LIVE) i blank) new) bytes t
      (rows-stored (get_or (table_at xs LIVE) i blank).handle i new (table_at xs LIVE) (live-sorted reached p) b refl ∙ rw p.rows)
      (q ∙ p.next)
