-- The spare table lies below what waits and the stretch, so that they stay while it is written. What is written there is always a front of
-- what is woven in the end, so it has room.
use mathlib.Core.Path.{◌≡◌, refl, sym, ap, ◌∙◌}
use mathlib.Core.Bool.{true, false}
use mathlib.Core.List.{List, [], ◌∷◌, ◌++◌, append_assoc, append-nil}
use Prim.Native.Nat.{ℕ, suc, ◌+◌, ◌-◌, ◌≤◌, ◌<◌}
use native.Mathlib.Numerals.{add-one}
use native.Mathlib.Omega.{arith}
use borrow.Author.Tests.{eq-eqb, ne_eqb}
use lib.ListN.{length, get_or, take, drop, length-append, length-drop}
use lib.Seq.{slice, length-slice, take-suc, take_all, drop-append-le, length-take-le}
use Rattle.meaning.specs.RowOperations.{join_kind}
use Rattle.words.specs.Words.{low32_at}
use Rattle.slots.specs.declared.Slot.{Slot}
use Rattle.slots.specs.Slots.{table_at, table_bytes, place_in, hit, blank, Frame, Stands, Holds}
use Rattle.slots.proofs.Frames.{frame-refl, frame-trans, word-kept-above}
use Rattle.slots.proofs.Order.{place-within}
use Rattle.slots.proofs.Tables.{table-length, table-kept-above, stands-kept-above, holds-size}
use Rattle.room.specs.Room.{SPARE, STRETCH}
use Rattle.room.specs.Joins.{as_effect, joined_slot, join_slot, kept_slot, join_slots, join_stretch, settled_at}
use Rattle.effects.specs.Settling.{Passed, Settles, Loom, Weavable, Wove, Aside, rest, table_in, joined_at, woven, woven_from}
use Rattle.effects.proofs.KindTable.{kind-of}
use Rattle.effects.proofs.Joining.{hit-true}
use Rattle.effects.proofs.Weaving.{place_after, passed-place, passed-before, passed-hit, passed_on, woven-hit, woven-new, rest-front}
use Rattle.effects.proofs.Weaving.{rest-takes, rest-skips, rest-ends}

-- ---- Only the spare table changed

abbrev pub SpareOnly : List ℕ → List ℕ → Type 0
SpareOnly xs ys = Frame SPARE (SPARE + table_bytes 128) xs ys

module _ {xs ys : List ℕ} (f : SpareOnly xs ys) where
  stretch-same : Stands STRETCH 128 xs → table_at ys STRETCH ≡ table_at xs STRETCH
  unfolding table_bytes
  stretch-same s = table-kept-above f STRETCH 128 s (omega arith)

  loom-kept : {base : ℕ} → Loom xs base → Stands SPARE 128 ys → Loom ys base
  unfolding table_bytes
  loom-kept {base} l s =
      record {
        spare = s;
        waits = stands-kept-above f base 128 l.waits l.apart;
        stretch = stands-kept-above f STRETCH 128 l.stretch (omega arith);
        apart = l.apart;
      }

-- ---- Slots of what waits are brought, one after another

slice-more : {A : Type 0} (from i : ℕ) (l : List A) (d : A) → from ≤ i → i < length l
    → slice from (i + 1) l ≡ slice from i l ++ (get_or l i d ∷ [])
slice-more from i l d h b =
    rw (add-one, take-suc l i d b)
    (drop-append-le from (take i l) (get_or l i d ∷ []) (omega (arith, length-take-le i l (omega arith))))

pub record Brought (x0 x : List ℕ) (base from to i : ℕ) : Type 0 where
  pub low : from ≤ i
  pub high : i ≤ to
  pub holds : Holds SPARE 128 x0 x (table_at x0 SPARE ++ slice from i (table_at x0 base))

module _ {x0 x : List ℕ} {base from to i : ℕ} (l : Loom x0 base) (fits : to ≤ low32_at x0 base) (b : Brought x0 x base from to i) where
  brought-size : low32_at x SPARE ≡ low32_at x0 SPARE + (i - from)
  brought-size =
      holds-size SPARE 128 b.holds
      ∙ length-append (table_at x0 SPARE) (slice from i (table_at x0 base))
      ∙ rw (table-length x0 SPARE, length-slice from i (table_at x0 base) (omega (arith, b.high, table-length x0 base)))

  pub bring-pushes : low32_at x0 SPARE + (to - from) ≤ 128 → i < to
      → Stands SPARE 128 x × ((low32_at x SPARE < 128) × ((128 < 4294967296) × (Stands base 128 x × (i < low32_at x base))))
  bring-pushes h t =
      let free : low32_at x SPARE < 128 = omega (arith, brought-size, b.low) in
      let reads : i < low32_at x base = rw (word-kept-above b.holds.frame base l.apart) (omega arith) in
      (b.holds.stands, (free, (omega arith, ((loom-kept b.holds.frame l b.holds.stands).waits, reads))))

  pub bring-step : {y : List ℕ} → i < to → Holds SPARE 128 x y (table_at x SPARE ++ (get_or (table_at x base) i blank ∷ []))
      → Brought x0 y base from to (i + 1)
  bring-step {y} t p =
      let A : List Slot = table_at x0 base in
      let same : table_at x base ≡ A = table-kept-above b.holds.frame base 128 l.waits l.apart in
      record {
        low = omega (arith, b.low);
        high = omega arith;
        holds =
            record {
              frame = frame-trans b.holds.frame p.frame;
              stands = p.stands;
              list =
                  p.list
                  ∙ rw (b.holds.list, same, slice-more from i A blank b.low (omega (arith, table-length x0 base)))
                  (append_assoc (table_at x0 SPARE) (slice from i A) (get_or A i blank ∷ []));
            };
      }

-- ---- Two slots as one

join-nothing : (a b : Slot) → join_kind a.kind b.kind ≡ 0 → (join_slot a b).kind ≡ 0
unfolding join_slot joined_slot as_effect
join-nothing a b q = ap (λ (k : ℕ). (joined_slot k a b).kind) q

module _ (x : List ℕ) (base i j : ℕ) where
  abbrev joined : Slot
  joined = join_slot (get_or (table_at x base) i blank) (get_or (table_at x STRETCH) j blank)

  none_left : Stands SPARE 128 x → joined.kind ≡ 0 → Holds SPARE 128 x x (table_at x SPARE ++ joined_at x base i j)
  unfolding kept_slot
  none_left s q =
      record { frame = frame-refl; stands = s; list = sym (rw (eq-eqb joined.kind 0 q) (append-nil (table_at x SPARE))) }

  pub joined-nothing : Stands SPARE 128 x → {u v k : ℕ} → u ≡ (get_or (table_at x base) i blank).kind
      → v ≡ (get_or (table_at x STRETCH) j blank).kind → k ≡ join_kind u v → k ≡ 0 → Holds SPARE 128 x x (table_at x SPARE ++ joined_at x base i j)
  joined-nothing s p q r z = none_left s (join-nothing _ _ (kind-of p q r ∙ z))

  module _ {e op joint : Slot} (read-e : e ≡ get_or (table_at x base) i blank) (read-op : op ≡ get_or (table_at x STRETCH) j blank)
      (is : joint ≡ join_slot e op) where
    joined_is : joint ≡ joined
    joined_is = is ∙ rw (read-e, read-op)

    pub joined-none : Stands SPARE 128 x → joint.kind ≡ 0 → Holds SPARE 128 x x (table_at x SPARE ++ joined_at x base i j)
    joined-none s q = none_left s (rw (← joined_is) q)

    one_left : (joint.kind ≡ 0 → ⊥) → joined_at x base i j ≡ joint ∷ []
    unfolding kept_slot
    one_left n = rw (← joined_is, ne_eqb joint.kind 0 n)

    pub joined_free : length (table_at x SPARE ++ joined_at x base i j) ≤ 128 → (joint.kind ≡ 0 → ⊥) → low32_at x SPARE < 128
    joined_free fits n =
        omega (
          arith,
          ap (λ (l : List Slot). length (table_at x SPARE ++ l)) (one_left n),
          length-append (table_at x SPARE) (joint ∷ []),
          table-length x SPARE,
        )

    pub joined-pushed : {y : List ℕ} → (joint.kind ≡ 0 → ⊥) → Holds SPARE 128 x y (table_at x SPARE ++ (joint ∷ []))
        → Holds SPARE 128 x y (table_at x SPARE ++ joined_at x base i j)
    joined-pushed n p = rw (one_left n) p

-- ---- One effect of the stretch is woven

module _ {x : List ℕ} {base from j handle : ℕ} (o : Weavable x base from j) (read : handle ≡ (get_or (table_at x STRETCH) j blank).handle) where
  abbrev A : List Slot
  A = table_at x base

  abbrev S : List Slot
  S = table_at x STRETCH

  abbrev t : ℕ
  t = table_in x j

  in-stretch : j < length S
  in-stretch = omega (arith, o.within, table-length x STRETCH)

  pub one-low : from ≤ place_in handle A
  one-low = rw read (place_after in-stretch o.passed)

  module _ {i : ℕ} (found : i ≡ place_in handle A) where
    at : i ≡ place_in (get_or S j blank).handle A
    at = rw (← read) found

    -- what waits before the place can be brought
    pub one-brings : Loom x base × ((from ≤ i) × ((i ≤ low32_at x base) × (low32_at x SPARE + (i - from) ≤ 128)))
    one-brings =
        let low : from ≤ i = rw found one-low in
        let high : i ≤ low32_at x base = omega (arith, place-within handle A, table-length x base) in
        let front : rest t A S from j ≡ slice from i A ++ rest t A S i j =
        rest-front t from (passed-place o.passed in-stretch i at) low in
        let free : low32_at x SPARE + (i - from) ≤ 128 =
        omega (
          arith,
          o.fits,
          length-append (table_at x SPARE) (rest t A S from j),
          ap length front,
          length-append (slice from i A) (rest t A S i j),
          length-slice from i A (omega (arith, table-length x base)),
          table-length x SPARE,
        ) in
        (o.loom, (low, (high, free)))

    module _ {x1 : List ℕ} (b : Holds SPARE 128 x x1 (table_at x SPARE ++ slice from i (table_at x base))) where
      same-waits : table_at x1 base ≡ A
      same-waits = table-kept-above b.frame base 128 o.loom.waits o.loom.apart

      same-stretch : table_at x1 STRETCH ≡ S
      same-stretch = stretch-same b.frame o.loom.stretch

      pub one-loom : Loom x1 base
      one-loom = loom-kept b.frame o.loom b.stands

      reads : j < low32_at x1 STRETCH
      reads = omega (arith, ap length same-stretch, table-length x1 STRETCH, in-stretch)

      -- a slot of the handle joins it
      module _ (e : hit handle i (table_at x1 base) ≡ true) where
        hit-waits : hit (get_or S j blank).handle i A ≡ true
        hit-waits = rw (← same-waits, ← read) e

        hit-list : (table_at x1 SPARE ++ joined_at x1 base i j) ++ rest t A S (i + 1) (j + 1) ≡ woven x base t from j
        hit-list = rw (b.list, same-waits, same-stretch) (woven-hit o.passed in-stretch i at t refl (table_at x SPARE) hit-waits)

        pub one-joins : Loom x1 base
            × ((i < low32_at x1 base) × ((j < low32_at x1 STRETCH) × (length (table_at x1 SPARE ++ joined_at x1 base i j) ≤ 128)))
        one-joins =
            let within : i < low32_at x1 base = omega (arith, (hit-true handle i (table_at x1 base) e).0, table-length x1 base) in
            let fits : length (table_at x1 SPARE ++ joined_at x1 base i j) ≤ 128 =
            omega (
              arith,
              o.fits,
              ap length hit-list,
              length-append (table_at x1 SPARE ++ joined_at x1 base i j) (rest t A S (i + 1) (j + 1)),
            ) in
            (one-loom, (within, (reads, fits)))

        pub one-joined : {y : List ℕ} → Holds SPARE 128 x1 y (table_at x1 SPARE ++ joined_at x1 base i j) → Wove x y base t from j (i + 1)
        one-joined q =
            record {
              frame = frame-trans b.frame q.frame;
              stands = q.stands;
              passed = passed-hit o.passed in-stretch i at hit-waits;
              list = rw q.list hit-list;
            }

      -- where there is none, it comes next
      module _ (e : hit handle i (table_at x1 base) ≡ false) where
        new-list : (table_at x1 SPARE ++ (get_or (table_at x1 STRETCH) j blank ∷ [])) ++ rest t A S i (j + 1) ≡ woven x base t from j
        new-list =
            rw (b.list, same-stretch) (woven-new o.passed in-stretch i at t refl (table_at x SPARE) (rw (← same-waits, ← read) e))

        pub one-pushes : Stands SPARE 128 x1
            × ((low32_at x1 SPARE < 128) × ((128 < 4294967296) × (Stands STRETCH 128 x1 × (j < low32_at x1 STRETCH))))
        one-pushes =
            let free : low32_at x1 SPARE < 128 =
            omega (
              arith,
              o.fits,
              ap length new-list,
              length-append (table_at x1 SPARE ++ (get_or (table_at x1 STRETCH) j blank ∷ [])) (rest t A S i (j + 1)),
              length-append (table_at x1 SPARE) (get_or (table_at x1 STRETCH) j blank ∷ []),
              table-length x1 SPARE,
            ) in
            (b.stands, (free, (omega arith, (one-loom.stretch, reads))))

        pub one-new : {y : List ℕ} → Holds SPARE 128 x1 y (table_at x1 SPARE ++ (get_or (table_at x1 STRETCH) j blank ∷ []))
            → Wove x y base t from j i
        one-new q =
            record {
              frame = frame-trans b.frame q.frame;
              stands = q.stands;
              passed = passed-before o.passed in-stretch i at;
              list = rw q.list new-list;
            }

-- ---- All of them: from the emptied spare table x1 on, what is woven and what is left are what is to be woven

pub record Weaving (x1 x : List ℕ) (base t first after i j : ℕ) : Type 0 where
  pub frame : SpareOnly x1 x
  pub stands : Stands SPARE 128 x
  pub passed : Passed (table_at x1 base) (table_at x1 STRETCH) i j
  pub list : table_at x SPARE ++ rest t (table_at x1 base) (table_at x1 STRETCH) i j
      ≡ rest t (table_at x1 base) (table_at x1 STRETCH) first after

module _ {x0 x1 : List ℕ} {base : ℕ} (ready : Settles x0 base) (e : Holds SPARE 128 x0 x1 []) where
  waits-before : table_at x1 base ≡ table_at x0 base
  waits-before = table-kept-above e.frame base 128 ready.waits ready.apart

  stretch-before : table_at x1 STRETCH ≡ table_at x0 STRETCH
  stretch-before = stretch-same e.frame ready.stretch

  pub weave-loom : Loom x1 base
  unfolding table_bytes
  weave-loom =
      record {
        spare = e.stands;
        waits = stands-kept-above e.frame base 128 ready.waits ready.apart;
        stretch = stands-kept-above e.frame STRETCH 128 ready.stretch (omega arith);
        apart = ready.apart;
      }

  pub weave-start : (t first after : ℕ) → Passed (table_at x0 base) (table_at x0 STRETCH) first after
      → Weaving x1 x1 base t first after first after
  weave-start t first after p =
      record {
        frame = frame-refl;
        stands = e.stands;
        passed = rw (waits-before, stretch-before) p;
        list = rw e.list;
      }

  pub weave-fits : (t first after : ℕ) → length (woven_from x0 base t first after) ≤ 128
      → length (rest t (table_at x1 base) (table_at x1 STRETCH) first after) ≤ 128
  weave-fits t first after fits =
      let more = length-append (take first (table_at x0 base)) (rest t (table_at x0 base) (table_at x0 STRETCH) first after) in
      rw (waits-before, stretch-before) (omega arith)

module _ {x1 x : List ℕ} {base t first after i j : ℕ} (l : Loom x1 base) (w : Weaving x1 x base t first after i j) where
  waits-then : table_at x base ≡ table_at x1 base
  waits-then = table-kept-above w.frame base 128 l.waits l.apart

  stretch-then : table_at x STRETCH ≡ table_at x1 STRETCH
  stretch-then = stretch-same w.frame l.stretch

  pub weaving-loom : Loom x base
  weaving-loom = loom-kept w.frame l w.stands

  pub weaving-reads : {m : ℕ} → m ≡ low32_at x1 STRETCH → j < m → j < low32_at x STRETCH
  weaving-reads q h = omega (arith, ap length stretch-then, table-length x STRETCH, table-length x1 STRETCH)

  pub weaving-next : length (rest t (table_at x1 base) (table_at x1 STRETCH) first after) ≤ 128 → j < low32_at x STRETCH → table_in x j ≡ t
      → Weavable x base i j
  weaving-next fits reads own =
      record {
        loom = weaving-loom;
        within = reads;
        passed = rw (waits-then, stretch-then) w.passed;
        fits = rw (own, waits-then, stretch-then, w.list) fits;
      }

  pub weave-own : {y : List ℕ} {r : ℕ} → table_in x j ≡ t → Wove x y base (table_in x j) i j r → Weaving x1 y base t first after r (j + 1)
  weave-own {y} {r} own q =
      record {
        frame = frame-trans w.frame q.frame;
        stands = q.stands;
        passed = rw (waits-then, stretch-then) at q.passed;
        list = rw (own, waits-then, stretch-then) at q.list ∙ w.list;
      }

  pub weave-other : j < low32_at x STRETCH → (table_in x j ≡ t → ⊥) → Weaving x1 x base t first after i (j + 1)
  weave-other reads other =
      let A : List Slot = table_at x1 base in
      let S : List Slot = table_at x1 STRETCH in
      let n : (get_or S j blank).table ≡ t → ⊥ = λ r. other (ap (λ (k : List Slot). (get_or k j blank).table) stretch-then ∙ r) in
      record {
        frame = w.frame;
        stands = w.stands;
        passed = passed_on w.passed;
        list = rw (add-one, ← rest-skips t A S i j (omega (arith, table-length x STRETCH, ap length stretch-then)) n) w.list;
      }

  -- the stretch is at its end
  module _ {m n : ℕ} (size-m : m ≡ low32_at x1 STRETCH) (size-n : n ≡ low32_at x1 base) (ended : m ≤ j) where
    last : table_at x SPARE ++ drop i (table_at x1 base) ≡ rest t (table_at x1 base) (table_at x1 STRETCH) first after
    last = rw (← rest-ends t (table_at x1 base) (table_at x1 STRETCH) i j (omega (arith, table-length x1 STRETCH))) w.list

    -- the rest of what waits can be brought
    pub last-brings : length (rest t (table_at x1 base) (table_at x1 STRETCH) first after) ≤ 128
        → Loom x base × ((i ≤ n) × ((n ≤ low32_at x base) × (low32_at x SPARE + (n - i) ≤ 128)))
    last-brings fits =
        let low : i ≤ n = omega (arith, w.passed.top, table-length x1 base) in
        let high : n ≤ low32_at x base = omega (arith, ap length waits-then, table-length x base, table-length x1 base) in
        let free : low32_at x SPARE + (n - i) ≤ 128 =
        omega (
          arith,
          ap length last,
          length-append (table_at x SPARE) (drop i (table_at x1 base)),
          length-drop i (table_at x1 base),
          table-length x SPARE,
          table-length x1 base,
        ) in
        (weaving-loom, (low, (high, free)))

    last-brought : {y : List ℕ} → Holds SPARE 128 x y (table_at x SPARE ++ slice i n (table_at x base))
        → table_at y SPARE ≡ rest t (table_at x1 base) (table_at x1 STRETCH) first after
    last-brought b =
        let whole : take n (table_at x base) ≡ table_at x1 base =
        take_all n (table_at x base) (omega (arith, ap length waits-then, table-length x1 base)) ∙ waits-then in
        b.list ∙ ap (λ (k : List Slot). table_at x SPARE ++ drop i k) whole ∙ last

-- the woven slots take their place
module _ {x0 x1 x y : List ℕ} {base t first after i j m n : ℕ} (ready : Settles x0 base)
    (p : Passed (table_at x0 base) (table_at x0 STRETCH) first after)
    (fits : length (woven_from x0 base t first after) ≤ 128) (e : Holds SPARE 128 x0 x1 []) (w : Weaving x1 x base t first after i j)
    (size-m : m ≡ low32_at x1 STRETCH) (size-n : n ≡ low32_at x1 base) (ended : m ≤ j)
    (b : Holds SPARE 128 x y (table_at x SPARE ++ slice i n (table_at x base))) where
  all-spare : SpareOnly x0 y
  all-spare = frame-trans e.frame (frame-trans w.frame b.frame)

  all-woven : table_at y SPARE ≡ rest t (table_at x0 base) (table_at x0 STRETCH) first after
  all-woven =
      rw (waits-before ready e, stretch-before ready e) at (last-brought (weave-loom ready e) w size-m size-n ended b)

  all-waits : table_at y base ≡ table_at x0 base
  all-waits = table-kept-above all-spare base 128 ready.waits ready.apart

  pub put-ready : Stands base 128 y
      × ((128 < 4294967296)
      × (Stands SPARE 128 y × ((SPARE + table_bytes 128 ≤ base) × ((first ≤ low32_at y base) × (first + low32_at y SPARE ≤ 128)))))
  put-ready =
      let stands : Stands base 128 y = stands-kept-above all-spare base 128 ready.waits ready.apart in
      let low : first ≤ low32_at y base = omega (arith, p.top, ap length all-waits, table-length y base) in
      let free : first + low32_at y SPARE ≤ 128 =
      omega (
        arith,
        length-append (take first (table_at x0 base)) (rest t (table_at x0 base) (table_at x0 STRETCH) first after),
        length-take-le first (table_at x0 base) p.top,
        ap length all-woven,
        table-length y SPARE,
      ) in
      (stands, (omega arith, (b.stands, (ready.apart, (low, free)))))

  pub put-aside : {z : List ℕ} → Holds base 128 y z (take first (table_at y base) ++ table_at y SPARE)
      → Aside base x0 z (woven_from x0 base t first after)
  put-aside h = record { mid = y; spare = all-spare; holds = rw (all-waits, all-woven) at h }

-- ---- Before the first change nothing is written, and what is left of the stretch has the same to join

pub record Going (x0 x : List ℕ) (base t i j : ℕ) : Type 0 where
  pub same : x ≡ x0
  pub passed : Passed (table_at x base) (table_at x STRETCH) i j
  pub list : settled_at x base t ≡ rest t (table_at x base) (table_at x STRETCH) 0 j

module _ {x0 x : List ℕ} {base t i j : ℕ} (g : Going x0 x base t i j) where
  pub go-ready : Settles x0 base → Settles x base
  go-ready ready = rw g.same ready

  pub go-reads : {m : ℕ} → m ≡ low32_at x0 STRETCH → j < m → j < low32_at x STRETCH
  go-reads size h = rw g.same (omega arith)

  -- the stretch is at its end
  pub go-done : {m : ℕ} → Settles x0 base → m ≡ low32_at x0 STRETCH → m ≤ j → Aside base x0 x (settled_at x0 base t)
  go-done {m} ready size h =
      let past : low32_at x STRETCH ≤ j = rw g.same (omega arith) in
      let all : settled_at x base t ≡ table_at x base =
      g.list ∙ rest-ends t (table_at x base) (table_at x STRETCH) 0 j (omega (arith, table-length x STRETCH)) in
      rw (← g.same)
      (record {
        mid = x;
        spare = frame-refl;
        holds = record { frame = frame-refl; stands = (go-ready ready).waits; list = sym all };
      })

  module _ (reads : j < low32_at x STRETCH) {op : Slot} (read : op ≡ get_or (table_at x STRETCH) j blank) where
    in_reach : j < length (table_at x STRETCH)
    in_reach = omega (arith, table-length x STRETCH)

    -- an effect on another table
    pub go-other : (op.table ≡ t → ⊥) → Going x0 x base t i (j + 1)
    go-other other =
        record {
          same = g.same;
          passed = passed_on g.passed;
          list =
              g.list
              ∙ rw add-one
              (rest-skips t (table_at x base) (table_at x STRETCH) 0 j in_reach (λ q. other (ap (λ (e : Slot). e.table) read ∙ q)));
        }

    pub go-low : i ≤ place_in op.handle (table_at x base)
    go-low = rw read (place_after in_reach g.passed)

    module _ {p : ℕ} (found : p ≡ place_in op.handle (table_at x base)) where
      found_at : p ≡ place_in (get_or (table_at x STRETCH) j blank).handle (table_at x base)
      found_at = found ∙ ap (λ (e : Slot). place_in e.handle (table_at x base)) read

      -- what waits stays as it was
      pub go_on : op.table ≡ t → Holds base 128 x x (join_slots op (table_at x base)) → Going x0 x base t p (j + 1)
      go_on own stay =
          let table : (get_or (table_at x STRETCH) j blank).table ≡ t = rw (← read) own in
          let kept : join_slots (get_or (table_at x STRETCH) j blank) (table_at x base) ≡ table_at x base =
          sym (stay.list ∙ ap (λ (e : Slot). join_slots e (table_at x base)) read) in
          record {
            same = g.same;
            passed = passed-before g.passed in_reach p found_at;
            list =
                g.list
                ∙ rw add-one
                (rest-takes t (table_at x base) (table_at x STRETCH) 0 j in_reach table
                ∙ ap (join_stretch t (drop (suc j) (table_at x STRETCH))) kept);
          }

      -- or it is woven from there on
      from_place : Passed (table_at x base) (table_at x STRETCH) p j
      from_place = passed-place g.passed in_reach p found_at

      whole : settled_at x base t ≡ woven_from x base t p j
      whole = g.list ∙ rest-front t 0 from_place (omega arith)

      pub go-weaves : Settles x0 base → length (settled_at x0 base t) ≤ 128
          → Settles x base × (Passed (table_at x base) (table_at x STRETCH) p j × (length (woven_from x base t p j) ≤ 128))
      go-weaves ready fits = (go-ready ready, (from_place, rw (← whole, g.same) fits))

      pub go-woven : {y : List ℕ} → Aside base x y (woven_from x base t p j) → Aside base x0 y (settled_at x0 base t)
      go-woven a = rw (← g.same, whole) a
