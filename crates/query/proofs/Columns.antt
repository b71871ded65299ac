-- Laws of a search over columns. A row has all that is wanted where the differences, joined bit by bit, are 0; places that repeat the first
-- row add nothing to what some row has; and the rows of the columns are the picked rows.
use Rattle.std.specs.Prelude.{if◌then◌else◌}
use Rattle.std.specs.List.{list_any, range_with_len}
use mathlib.Core.Path.{◌≡◌, refl, sym, ap, ◌∙◌}
use mathlib.Core.Bool.{Bool, true, false, not, ◌&&◌, ◌||◌, or-false}
use mathlib.Core.List.{List, [], ◌∷◌, ◌++◌, map, map-append}
use Prim.Native.Nat.{ℕ, zero, suc, ◌+◌, ◌≤◌, ◌<◌}
use native.Mathlib.Numerals.{add-one}
use native.Mathlib.Omega.{arith}
use borrow.Author.Tests.{eqb-true, eqb-false, eq-eqb, ne_eqb, ltb-true, ltb-false, lt-ltb}
use mir.Val.{bool_byte}
use lib.Bits.{bit_or, bit_xor, or_add_and, xor_add_and, and_le_l, and_le_r, and_self}
use lib.Dec.{eqb, ltb}
use lib.ListN.{length, get_or, set, take, replicate, length-set, length-replicate}
use lib.Seq.{take-suc, get_or-set_same, get_or-set_other}
use Rattle.meaning.specs.Base.{any, select}
use Rattle.meaning.specs.Values.{agree}
use Rattle.meaning.specs.Processing.Queries.{cell}
use Rattle.words.specs.Words.{Bytes}
use Rattle.words.proofs.Laws.{split, get_d_any, all_same}
use Rattle.words.proofs.Signs.{signed-agree}
use Rattle.slots.specs.declared.Slot.{Slot}
use Rattle.slots.specs.Slots.{table_at, blank, slot_value}
use Rattle.slots.proofs.Frames.{Fits}
use Rattle.slots.proofs.Tables.{table_fits_lem}
use Rattle.room.specs.Room.{row_meant}
use Rattle.query.specs.declared.Pairs.{Pairs}
use Rattle.query.specs.declared.Picked.{Picked}
use Rattle.query.specs.declared.Wanted.{Wanted}
use Rattle.query.specs.Picks.{slots_of, Within, PicksOut, agree_on_four}
use Rattle.query.specs.Columns.{Padded, ColumnOf, ColumnsOf, wanted_of, has_at, some_below, agrees_with, kept_by}
use Rattle.room.proofs.Cells.{value_cell}

-- ---- Differences of numbers

or-zero : (a b : ℕ) → eqb (bit_or a b) 0 ≡ (eqb a 0 && eqb b 0)
or-zero a b =
    split (eqb a 0)
    (λ e. let z : a ≡ 0 = eqb-true a 0 e in rw z)
    (λ e.
    let n = eqb-false a 0 e in
    rw (e, ne_eqb (bit_or a b) 0 (λ z. n (omega (arith, or_add_and a b, and_le_r a b)))))

xor-zero : (a b : ℕ) → eqb (bit_xor a b) 0 ≡ eqb a b
xor-zero a b =
    split (eqb a b)
    (λ e.
    let z : a ≡ b = eqb-true a b e in
    rw (e, eq-eqb (bit_xor a b) 0 (rw z (omega (arith, xor_add_and b b, and_self b)))))
    (λ e.
    let n = eqb-false a b e in
    rw (e, ne_eqb (bit_xor a b) 0 (λ z. n (omega (arith, xor_add_and a b, and_le_l a b, and_le_r a b)))))

-- four pairs of numbers are equal where their differences, joined bit by bit, are 0
all-equal : (a b c d w x y z : ℕ)
    → eqb (bit_or (bit_or (bit_or (bit_xor a w) (bit_xor b x)) (bit_xor c y)) (bit_xor d z)) 0
    ≡ (eqb a w && (eqb b x && (eqb c y && eqb d z)))
all-equal a b c d w x y z =
    rw (or-zero (bit_or (bit_or (bit_xor a w) (bit_xor b x)) (bit_xor c y)) (bit_xor d z), or-zero (bit_or (bit_xor a w) (bit_xor b x)) (bit_xor c y))
    (rw (or-zero (bit_xor a w) (bit_xor b x), xor-zero a w, xor-zero b x, xor-zero c y, xor-zero d z)
    (regroup (eqb a w) (eqb b x) (eqb c y) (eqb d z)))
  where
    regroup : (p q r s : Bool) → (((p && q) && r) && s) ≡ (p && (q && (r && s)))
    regroup false q r s = refl
    regroup true false r s = refl
    regroup true true r s = refl

-- the row j of four columns, by its differences from what is wanted
pub differs-none : (s0 s1 s2 s3 : List ℕ) (w : Wanted) (j : ℕ)
    → eqb (bit_or (bit_or (bit_or (bit_xor (get_or s0 j 0) w.v0) (bit_xor (get_or s1 j 0) w.v1)) (bit_xor (get_or s2 j 0) w.v2)) (bit_xor (get_or s3 j 0) w.v3)) 0
    ≡ has_at s0 s1 s2 s3 w j
unfolding has_at
differs-none s0 s1 s2 s3 w j =
    all-equal (get_or s0 j 0) (get_or s1 j 0) (get_or s2 j 0) (get_or s3 j 0) w.v0 w.v1 w.v2 w.v3

-- ---- One of the first numbers passes

module _ (p : ℕ → Bool) where
  below_more : (j : ℕ) → some_below p (j + 1) ≡ (p j || some_below p j)
  unfolding some_below
  below_more j = rw (add-one j)

  below-found : (j n : ℕ) → j < n → p j ≡ true → some_below p n ≡ true
  unfolding some_below
  below-found j zero h e = absurd (omega arith)
  below-found j (suc n) h e =
      split (ltb j n)
      (λ l. let rest = below-found j n (ltb-true j n l) e in split (p n) (λ t. rw t) (λ f. rw f rest))
      (λ l. let last : n ≡ j = omega (arith, ltb-false j n l) in rw (last, e))

  -- places that pass where the first does add nothing
  pub below-padded : (n m : ℕ) → 0 < n → n ≤ m → ((j : ℕ) → n ≤ j → j < m → p j ≡ p 0) → some_below p m ≡ some_below p n
  unfolding some_below
  below-padded n zero some low same = absurd (omega arith)
  below-padded n (suc m) some low same =
      split (ltb m n)
      (λ h. let last : n ≡ suc m = omega (arith, ltb-true m n h) in rw last)
      (λ h.
      let before = below-padded n m some (ltb-false m n h) (λ j k l. same j k (omega arith)) in
      let here : p m ≡ p 0 = same m (ltb-false m n h) (omega arith) in
      split (p 0)
      (λ t. rw (here, t) (sym (below-found 0 n some t)))
      (λ f. rw (here, f) before))

  -- over numbers, one after another
  numbers-from : (n a m : ℕ) → a + n ≡ m → (list_any p (range_with_len a n) || some_below p a) ≡ some_below p m
  numbers-from zero a m e = let same : a ≡ m = omega arith in rw same
  numbers-from (suc n) a m e =
      turn (p a) (list_any p (range_with_len (a + 1) n)) (some_below p a)
      ∙ rw (← below_more a) (numbers-from n (a + 1) m (omega arith))
    where
      turn : (x y z : Bool) → ((x || y) || z) ≡ (y || (x || z))
      turn true true z = refl
      turn true false z = refl
      turn false y z = refl

  pub any-below : (n : ℕ) → list_any p (range_with_len 0 n) ≡ some_below p n
  unfolding some_below
  any-below n = sym (or-false (list_any p (range_with_len 0 n))) ∙ numbers-from n 0 n (omega arith)

-- of 64 rows, where the places from n on have the first
pub some-padded : (s0 s1 s2 s3 : List ℕ) (w : Wanted) (n : ℕ) → 0 < n → n ≤ 64
    → Padded n s0 → Padded n s1 → Padded n s2 → Padded n s3
    → some_below (has_at s0 s1 s2 s3 w) 64 ≡ some_below (has_at s0 s1 s2 s3 w) n
unfolding has_at
some-padded s0 s1 s2 s3 w n some few p0 p1 p2 p3 =
    below-padded (has_at s0 s1 s2 s3 w) n 64 some few
    (λ j h m. rw (p0.after j h m, p1.after j h m, p2.after j h m, p3.after j h m))

-- ---- Counted over all of them

pub record Counting (p : ℕ → Bool) (hits j : ℕ) : Type 0 where
  pub low : hits ≤ j
  pub most : j ≤ 64
  pub is : ltb 0 hits ≡ some_below p j

pub counting-start : (p : ℕ → Bool) → Counting p 0 0
unfolding some_below
counting-start p = record { low = omega arith; most = omega arith; is = refl }

-- one more where the row j passes
pub counting-more : {p : ℕ → Bool} {hits j : ℕ} → Counting p hits j → j < 64 → (b : Bool) → b ≡ p j
    → Counting p (hits + bool_byte b) (j + 1)
counting-more {p} {hits} {j} s more true e =
    record {
      low = omega (arith, s.low);
      most = omega arith;
      is = rw (below_more p j, ← e) (lt-ltb 0 (hits + 1) (omega arith));
    }
counting-more {p} {hits} {j} s more false e =
    let same : hits + 0 ≡ hits = omega arith in
    record { low = omega (arith, s.low); most = omega arith; is = rw (same, below_more p j, ← e) s.is }

-- ---- A column, filled row by row: every place that is not filled yet has the first row's value

module _ (l : List Slot) (rows : Picked) (column : ℕ) where
  abbrev pub held_at : ℕ → ℕ
  held_at j = slot_value (get_or l (get_or rows.places j 0) blank) column

  pub record Filling (values : List ℕ) (j : ℕ) : Type 0 where
    pub some : 0 < j
    pub low : j ≤ rows.count
    pub few : rows.count ≤ 64
    pub len : length values ≡ 64
    pub held : (k : ℕ) → k < j → get_or values k 0 ≡ held_at k
    pub after : (k : ℕ) → j ≤ k → k < 64 → get_or values k 0 ≡ held_at 0

  pub filling-start : (v : ℕ) → Within l rows → 0 < rows.count → v ≡ held_at 0 → Filling (replicate 64 v) 1
  filling-start v w more e =
      let each : (k : ℕ) → k < 64 → get_or (replicate 64 v) k 0 ≡ held_at 0 =
      λ k h. get_d_any (replicate 64 v) k 0 v (simp length-replicate h) ∙ all_same 64 k v ∙ e in
      record {
        some = omega arith;
        low = omega arith;
        few = w.few;
        len = length-replicate 64 v;
        held = λ k h. let z : k ≡ 0 = omega arith in rw z (each 0 (omega arith));
        after = λ k h m. each k m;
      }

  module _ {values : List ℕ} {j : ℕ} (s : Filling values j) where
    pub filling-more : {v : ℕ} → j < rows.count → v ≡ held_at j → Filling (set values j v) (j + 1)
    filling-more {v} more e =
        let some = s.some in
        let few = s.few in
        let len = s.len in
        record {
          some = omega arith;
          low = omega arith;
          few = few;
          len = length-set values j v ∙ len;
          held = λ k h.
              split (ltb k j)
              (λ t. let less = ltb-true k j t in get_or-set_other values j k v 0 (omega arith) ∙ s.held k less)
              (λ f. let z : k ≡ j = omega (arith, ltb-false k j f) in rw z (get_or-set_same values j v 0 (omega arith) ∙ e));
          after = λ k h m. get_or-set_other values j k v 0 (omega arith) ∙ s.after k (omega arith) m;
        }

    pub filling-done : rows.count ≤ j → length rows.places ≡ 64 → ColumnOf l rows column values
    filling-done all long =
        let some = s.some in
        let low = s.low in
        record {
          placed = omega (arith, s.few);
          held = λ k h. s.held k (omega arith);
          padded = record { after = λ k h m. s.after k (omega arith) m ∙ sym (s.held 0 some) };
        }

-- ---- The rows of the columns are the picked rows

any_last : {A : Type 0} (q : A → Bool) (l : List A) (y : A) → any q (l ++ (y ∷ [])) ≡ (q y || any q l)
any_last q [] y = refl
any_last q (x ∷ l) y = ap (λ (b : Bool). q x || b) (any_last q l y) ∙ swap (q x) (q y) (any q l)
  where
    swap : (a b c : Bool) → (a || (b || c)) ≡ (b || (a || c))
    swap true true c = refl
    swap true false c = refl
    swap false b c = refl

some-any : {A : Type 0} (p : ℕ → Bool) (q : A → Bool) (g : ℕ → A) (places : List ℕ) (n : ℕ) → n ≤ length places
    → ((j : ℕ) → j < n → p j ≡ q (g (get_or places j 0))) → some_below p n ≡ any q (map g (take n places))
unfolding some_below
some-any p q g places zero few same = refl
some-any p q g places (suc n) few same =
    rw (take-suc places n 0 (omega arith), map-append g (take n places) (get_or places n 0 ∷ []))
    (rw (any_last q (map g (take n places)) (g (get_or places n 0)), same n (omega arith))
    (ap (λ (b : Bool). q (g (get_or places n 0)) || b) (some-any p q g places n (omega arith) (λ j h. same j (omega arith)))))

eqb_comm : (a b : ℕ) → eqb a b ≡ eqb b a
eqb_comm a b =
    split (eqb a b)
    (λ e. rw (e, eq-eqb b a (sym (eqb-true a b e))))
    (λ e. rw (e, ne_eqb b a (λ z. eqb-false a b e (sym z))))

value-fits : {e : Slot} → Fits e → (c : ℕ) → slot_value e c < 4294967296
unfolding slot_value
value-fits f zero = f.v0
value-fits f (suc zero) = f.v1
value-fits f (suc (suc zero)) = f.v2
value-fits f (suc (suc (suc zero))) = f.v3
value-fits f (suc (suc (suc (suc c)))) = omega arith

-- values agree where the words are equal
agree-words : {e x : Slot} → Fits e → Fits x → (c d : ℕ)
    → eqb (slot_value x d) (slot_value e c) ≡ agree (cell (row_meant e) c) (cell (row_meant x) d)
agree-words {e} {x} f g c d =
    rw (← value_cell e c, ← value_cell x d)
    (eqb_comm (slot_value x d) (slot_value e c) ∙ sym (signed-agree (slot_value e c) (slot_value x d) (value-fits f c) (value-fits g d)))

select-same : {A : Type 0} (p q : A → Bool) (g : ℕ → A) → ((i : ℕ) → p (g i) ≡ q (g i)) → (l : List ℕ)
    → select p (map g l) ≡ select q (map g l)
select-same p q g same [] = refl
select-same {A} p q g same (i ∷ l) =
    rw (same i) (ap (λ (r : List A). if q (g i) then g i ∷ r else r) (select-same p q g same l))

module _ (xs : List ℕ) (bytes : Bytes xs) (base from : ℕ) (p : Pairs) (others : Picked) {s0 s1 s2 s3 : List ℕ}
    (columns : ColumnsOf (table_at xs from) others p s0 s1 s2 s3) where
  has-agrees : (i j : ℕ) → j < others.count
      → has_at s0 s1 s2 s3 (wanted_of p (get_or (table_at xs base) i blank)) j
      ≡ agree_on_four p (row_meant (get_or (table_at xs base) i blank)) (row_meant (get_or (table_at xs from) (get_or others.places j 0) blank))
  unfolding has_at wanted_of agree_on_four
  has-agrees i j h =
      let f = table_fits_lem xs bytes base i in
      let g = table_fits_lem xs bytes from (get_or others.places j 0) in
      rw (columns.first.held j h, columns.second.held j h, columns.third.held j h, columns.fourth.held j h)
      (rw (agree-words f g p.own0 p.other0, agree-words f g p.own1 p.other1, agree-words f g p.own2 p.other2)
      (rw (agree-words f g p.own3 p.other3)))

  some-has : (i : ℕ) → some_below (has_at s0 s1 s2 s3 (wanted_of p (get_or (table_at xs base) i blank))) others.count
      ≡ agrees_with p (slots_of (table_at xs from) others) (get_or (table_at xs base) i blank)
  unfolding agrees_with slots_of
  some-has i =
      some-any _ (λ x. agree_on_four p (row_meant (get_or (table_at xs base) i blank)) (row_meant x)) (λ k. get_or (table_at xs from) k blank)
      others.places others.count columns.first.placed (has-agrees i)

  -- of picked rows, those of which a match with the rows of the columns holds, or its opposite
  pub columns-agree : (negated : Bool) (rows : Picked) {l : Picked} {count : ℕ} → count ≡ others.count
      → PicksOut (table_at xs base)
      (select (λ e. kept_by negated (some_below (has_at s0 s1 s2 s3 (wanted_of p e)) count)) (slots_of (table_at xs base) rows)) l
      → PicksOut (table_at xs base)
      (select (λ e. kept_by negated (agrees_with p (slots_of (table_at xs from) others) e)) (slots_of (table_at xs base) rows)) l
  unfolding slots_of
  columns-agree negated rows all k =
      record {
        within = k.within;
        slots =
            rw all at k.slots
            ∙ select-same (λ e. kept_by negated (some_below (has_at s0 s1 s2 s3 (wanted_of p e)) others.count))
            (λ e. kept_by negated (agrees_with p (slots_of (table_at xs from) others) e)) (λ i. get_or (table_at xs base) i blank)
            (λ i. ap (kept_by negated) (some-has i)) (take rows.count rows.places);
      }

-- a match, or its opposite
module _ {found held : Bool} (is : found ≡ held) {negated : Bool} where
  pub kept-opposite : negated ≡ true → not found ≡ kept_by negated held
  unfolding kept_by
  kept-opposite e = rw (e, is)

  pub kept_same : negated ≡ false → found ≡ kept_by negated held
  unfolding kept_by
  kept_same e = rw e is
