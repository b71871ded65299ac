-- What was done since the last joining joins what waits: each table of what waits then means, of the whole stretch of its rule, what is on the
-- rule's own table, since two stretches join as their operations one after another. So it has room, and all is settled.
use mathlib.Core.Path.{◌≡◌, refl, sym, ap, ◌∙◌}
use mathlib.Core.List.{List, [], ◌++◌, append-nil}
use Prim.Native.Nat.{ℕ, ◌≤◌, ◌<◌}
use native.Mathlib.Omega.{arith}
use lib.ListN.{length, get_or, drop}
use lib.Seq.{drop-append-le}
use Rattle.meaning.specs.Covers.{Image}
use Rattle.meaning.specs.RowOperations.{RowOperation, net_effect, own_of}
use Rattle.meaning.specs.Processing.{State, since, waits}
use Rattle.meaning.proofs.NetEffects.{Listed, net_effect-none, net_effect-listed}
use Rattle.meaning.proofs.OwnTable.{own-few, own-listed}
use Rattle.meaning.proofs.Stretches.{own-append}
use Rattle.words.specs.Words.{Bytes}
use Rattle.slots.specs.Slots.{table_at}
use Rattle.room.specs.Room.{NEXT, STRETCH, wait_at, wait_meant, waits_in, stretch_in}
use Rattle.room.specs.Joins.{settled_at, Settleable, AllSettled}
use Rattle.room.specs.Represents.{Represents, Settled, Reached}
use Rattle.room.proofs.Kept.{word_kept, live-kept}
use Rattle.room.proofs.Waits.{waits-sorted, waits-length, waits-stretch}
use Rattle.room.proofs.Steps.{stretch, waits-few}

-- ---- All is settled

-- then what waits is what the specification says
pub settled-waits : {s : State} {xs tables : List ℕ} → Settled xs tables s → (k : ℕ) → k < 16 → get_or tables k 0 ≤ 3
    → waits_in xs k ≡ own_of (get_or tables k 0) (waits s k)
unfolding waits since
settled-waits {s} {tables = tables} p k b a =
    let r = p.represents in
    let whole : s.done ≡ r.joined = r.whole ∙ rw p.none (append-nil r.joined) in
    r.waiting k b a ∙ rw whole

-- ---- Settling

module _ {start : Image} {s : State} {xs tables : List ℕ} (reached : Reached start s) (p : Represents xs tables s) where
  -- the stretch of a rule: what joined what waits for it, and what was done since
  since-whole : (k : ℕ) → since s k ≡ drop (get_or s.marks k 0) p.joined ++ p.since
  unfolding since
  since-whole k = rw p.whole (drop-append-le (get_or s.marks k 0) p.joined p.since (p.marked k))

  module _ (k : ℕ) (b : k < 16) (a : get_or tables k 0 ≤ 3) where
    waited : Listed 0 (own_of (get_or tables k 0) (net_effect (drop (get_or s.marks k 0) p.joined)))
    waited = own-listed (get_or tables k 0) (net_effect-listed (drop (get_or s.marks k 0) p.joined))

    -- joined, its table means all of it
    settled-means : wait_meant (settled_at xs (wait_at k) (get_or tables k 0)) ≡ own_of (get_or tables k 0) (waits s k)
    unfolding waits waits_in stretch_in
    settled-means =
        let t = stretch reached k in
        let n = get_or s.marks k 0 in
        waits-stretch (get_or tables k 0) (table_at xs STRETCH) (table_at xs (wait_at k)) (net_effect p.since)
        (own_of (get_or tables k 0) (net_effect (drop n p.joined))) (net_effect-listed p.since) waited p.stretch (p.waiting k b a)
        ∙ sym (own-append (get_or tables k 0) (drop n p.joined) p.since t.sound (rw (since-whole k) at t.made))
        ∙ ap (λ (os : List RowOperation). own_of (get_or tables k 0) (net_effect os)) (sym (since-whole k))

    settled-few : length (settled_at xs (wait_at k) (get_or tables k 0)) ≤ 128
    settled-few =
        omega (
          arith,
          waits-length (settled_at xs (wait_at k) (get_or tables k 0)) (own_of (get_or tables k 0) (waits s k)) settled-means,
          own-few (get_or tables k 0) (waits s k),
          waits-few reached k,
        )

  pub settleable : Settleable xs tables
  unfolding waits_in stretch_in
  settleable =
      record {
        laid = p.laid;
        ended = p.ended;
        rises = waits-sorted (table_at xs STRETCH) (net_effect p.since) (net_effect-listed p.since) p.stretch;
        sorted = λ k b a.
            waits-sorted (table_at xs (wait_at k)) (own_of (get_or tables k 0) (net_effect (drop (get_or s.marks k 0) p.joined))) (waited k b a)
            (p.waiting k b a);
        fits = settled-few;
      }

  pub settles : {ys : List ℕ} → Bytes ys → AllSettled xs ys tables → Settled ys tables s
  unfolding waits since waits_in stretch_in wait_meant
  settles bytes d =
      record {
        represents =
            record {
              laid = d.laid;
              bytes = bytes;
              next = word_kept d.before NEXT (omega arith) (omega arith) ∙ p.next;
              rows = live-kept d.before p.laid (omega arith) (omega arith) ∙ p.rows;
              ended = p.ended;
              joined = s.done;
              since = [];
              whole = sym (append-nil s.done);
              marked = reached.marked;
              waiting = λ k b a. ap wait_meant (d.waits k b a) ∙ settled-means k b a;
              stretch = ap wait_meant d.none ∙ sym net_effect-none;
            };
        none = refl;
      }
