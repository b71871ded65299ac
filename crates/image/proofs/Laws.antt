-- Laws of images, for the functions that read and write them. A row is 21 bytes: its parser gives the words that stand in the slice, and is
-- bad where the bytes end before it. Bytes written one after another at the front of a list are the joined bytes at its front.
use mathlib.Core.Path.{◌≡◌, refl, sym, ap, ◌∙◌}
use mathlib.Core.Bool.{Bool, true, false, ◌&&◌}
use mathlib.Core.List.{List, [], ◌∷◌, ◌++◌, append_assoc, append-nil}
use Prim.Native.Nat.{ℕ, ◌+◌, ◌-◌, ◌≤◌, ◌<◌}
use native.Mathlib.Omega.{arith}
use borrow.Author.Tests.{le-leb, lt-leb, leb-true, leb-false, lt-ltb, le-ltb, ltb-true, ltb-false}
use lib.IntN.{ℤ}
use lib.Dec.{leb, ltb}
use lib.ListN.{length, set, take, drop, length-append, length-drop}
use lib.Seq.{sets, sets-eq, take-append_seam, take_at, drop_at, drop-length, drop-append-add, drop-drop}
use borrow.Author.Rules.{part_to_end}
use borrow.Rule.Slice.PartMut.{put_mid, Post-is}
use Rattle.meaning.specs.Base.{in_front_of}
use Rattle.meaning.specs.Reading.{Read, bad, got, on_from, byte_at, many}
use Rattle.meaning.specs.Values.{signed}
use Rattle.meaning.specs.Covers as Covers
use Rattle.meaning.specs.ByteLayouts.{row, rising, table, value, bytes2, bytes4, value_bytes, row_bytes}
use Rattle.meaning.proofs.Parsing.{same-value, spans-within, unsigned_signed}
use Rattle.meaning.proofs.RoundTrip.{row_reads, FitRow}
use Rattle.words.specs.Words.{Bytes, word32_at}
use Rattle.words.proofs.Laws.{split, byte-within-yes, byte-within-high, number32-read, number32-short, value_read}
use Rattle.words.proofs.Laws.{many-none, many-bad, many_more, first_of}
use Rattle.image.specs.Images.{row_meant, row_or, rise_in, head_bytes}
use Rattle.image.specs.declared.Row.{Row}

-- ---- A row

and-false : (t : Bool) → t && false ≡ false
and-false true = refl
and-false false = refl

-- the words of the 21 bytes from a place on
abbrev pub row_at : List ℕ → ℕ → Row
row_at s at =
    record {
      handle = word32_at s at;
      table = byte_at s (at + 4);
      v0 = word32_at s (at + 5);
      v1 = word32_at s (at + 9);
      v2 = word32_at s (at + 13);
      v3 = word32_at s (at + 17);
    }

module _ (s : List ℕ) (b : Bytes s) (at : ℕ) where
  abbrev value_at : ℕ → ℤ
  value_at k = signed (word32_at s k)

  values-four : at + 16 ≤ length s
      → many 4 value s at ≡ got (value_at at ∷ value_at (at + 4) ∷ value_at (at + 8) ∷ value_at (at + 12) ∷ []) (at + 16)
  unfolding many
  values-four h =
      let two : at + 4 + 4 ≡ at + 8 = omega arith in
      let three : at + 8 + 4 ≡ at + 12 = omega arith in
      let four : at + 12 + 4 ≡ at + 16 = omega arith in
      rw (
        value_read s b at (omega arith),
        value_read s b (at + 4) (omega arith),
        two,
        value_read s b (at + 8) (omega arith),
        three,
        value_read s b (at + 12) (omega arith),
        four,
      )

module _ (s : List ℕ) (b : Bytes s) (at : ℕ) where
  pub row_read : at + 21 ≤ length s → row s at ≡ row_or (row_at s at) (at + 21)
  unfolding row table row_or row_meant
  row_read h =
      split (leb (byte_at s (at + 4)) 3)
      (λ e.
      let next : at + 4 + 1 ≡ at + 5 = omega arith in
      let one : at + 5 + 4 ≡ at + 9 = omega arith in
      let two : at + 5 + 8 ≡ at + 13 = omega arith in
      let three : at + 5 + 12 ≡ at + 17 = omega arith in
      let end : at + 5 + 16 ≡ at + 21 = omega arith in
      rw (
        number32-read s b at (omega arith),
        byte-within-yes 0 3 s (at + 4) (omega arith) (leb-true (byte_at s (at + 4)) 3 e),
        next,
        values-four s b (at + 5) (omega arith),
        e,
        one,
        two,
        three,
        end,
      ))
      (λ e. rw (number32-read s b at (omega arith), byte-within-high 0 3 s (at + 4) (leb-false (byte_at s (at + 4)) 3 e), e))

-- by its table, a row is read or bad
pub row-proper : (r : Row) (next : ℕ) → r.table ≤ 3 → row_or r next ≡ got (row_meant r) next
unfolding row_or
row-proper r next h = rw (le-leb r.table 3 h)

pub row-improper : (r : Row) (next : ℕ) → 3 < r.table → row_or r next ≡ bad
unfolding row_or
row-improper r next h = rw (lt-leb r.table 3 h)

-- what was read has a table, and is the row that its words mean
pub row_is : (r : Row) (at : ℕ) {row : Covers.Row} {next : ℕ} → row_or r at ≡ got row next → (r.table ≤ 3) × (row_meant r ≡ row)
row_is r at e =
    split (leb r.table 3)
    (λ t.
    let few = leb-true r.table 3 t in
    (few, same-value (sym (row-proper r at few) ∙ e)))
    (λ t.
    let none = row-improper r at (leb-false r.table 3 t) in
    absurd (let z : ◌≡◌ {A = ℕ} 0 1 = cc in omega arith))

-- a row that was read has 21 bytes
pub row-size : {r : Covers.Row} → FitRow r → length (row_bytes r) ≡ 21
unfolding row_bytes value_bytes bytes4
row-size {r} f = omega (arith, four r.values f.proper.four)
  where
    four : (vs : List ℤ) → length vs ≡ 4 → length (value_bytes vs) ≡ 16
    four (v ∷ w ∷ x ∷ y ∷ []) h = refl
    four [] h = absurd (omega arith)
    four (v ∷ []) h = absurd (omega arith)
    four (v ∷ w ∷ []) h = absurd (omega arith)
    four (v ∷ w ∷ x ∷ []) h = absurd (omega arith)
    four (v ∷ w ∷ x ∷ y ∷ z ∷ vs) h = absurd (omega arith)

pub row_ends : (s : List ℕ) (at : ℕ) {r : Covers.Row} {next : ℕ} → row s at ≡ got r next → next ≡ at + 21
row_ends s at e = omega (arith, (row_reads.told e).ends, row-size (row_reads.fit e))

-- where rows are left, the one whose words stand here is the first of them
pub rows-first : (left : ℕ) (s : List ℕ) (here : ℕ) {rest : List Covers.Row} {end : ℕ} (r : Row) → 0 < left
    → many left row s here ≡ got rest end → row s here ≡ row_or r (here + 21)
    → (r.table ≤ 3) × (more : List Covers.Row) × (rest ≡ row_meant r ∷ more) × (many (left - 1) row s (here + 21) ≡ got more end)
rows-first left s here r l e is =
    let f = first_of row left s here l e in
    let k = row_is r (here + 21) (sym is ∙ f.read) in
    (k.0, f.others, f.all ∙ ap (λ (x : Covers.Row). x ∷ f.others) (sym k.1), rw (row_ends s here f.read) at f.more)

not-got : {A : Type 0} (r : Read A) → ((a : A) (next : ℕ) → r ≡ got a next → ⊥) → r ≡ bad
not-got bad never = refl
not-got (got a next) never = absurd (never a next refl)

pub row-short : (s : List ℕ) (b : Bytes s) (at : ℕ) → length s < at + 21 → row s at ≡ bad
unfolding row
row-short s b at h =
    split (ltb (length s) (at + 4))
    (λ e. rw (number32-short s b at (ltb-true (length s) (at + 4) e)))
    (λ e.
    let begins = ltb-false (length s) (at + 4) e in
    not-got (row s at) (λ r next g. omega (arith, row_ends s at g, spans-within (row_reads.told g) (omega arith))))

-- ---- Rows that rise

module _ (low high : ℕ) (r : Covers.Row) where
  -- a row in front of what is left to be read
  behind : Read (List Covers.Row) → Read (List Covers.Row)
  behind x = on_from x (λ rs e. got (r ∷ rs) e)

  behind-low : (x : Read (List Covers.Row)) → r.handle ≤ low → rise_in low high (behind x) ≡ false
  unfolding rise_in rising behind
  behind-low bad h = refl
  behind-low (got rs e) h = rw (le-ltb low r.handle h)

  behind-high : (x : Read (List Covers.Row)) → high ≤ r.handle → rise_in low high (behind x) ≡ false
  unfolding rise_in rising behind
  behind-high bad h = refl
  behind-high (got rs e) h = rw (le-ltb r.handle high h, and-false (ltb low r.handle))

  behind_more : (x : Read (List Covers.Row)) → low < r.handle → r.handle < high → rise_in low high (behind x) ≡ rise_in r.handle high x
  unfolding rise_in rising behind
  behind_more bad h k = refl
  behind_more (got rs e) h k = rw (lt-ltb low r.handle h, lt-ltb r.handle high k)

module _ (n : ℕ) (s : List ℕ) (at low high : ℕ) where
  pub rise-none : n ≤ 0 → rise_in low high (many n row s at) ≡ true
  unfolding rise_in rising
  rise-none h = rw (many-none row n s at h)

  pub rise-bad : 0 < n → row s at ≡ bad → rise_in low high (many n row s at) ≡ false
  unfolding rise_in
  rise-bad h e = rw (many-bad row n s at h e)

  module _ (r : Covers.Row) (next : ℕ) (some : 0 < n) (e : row s at ≡ got r next) where
    pub rise-low : r.handle ≤ low → rise_in low high (many n row s at) ≡ false
    unfolding behind
    rise-low h = rw (many_more row n s at r next some e) (behind-low low high r (many (n - 1) row s next) h)

    pub rise-high : high ≤ r.handle → rise_in low high (many n row s at) ≡ false
    unfolding behind
    rise-high h = rw (many_more row n s at r next some e) (behind-high low high r (many (n - 1) row s next) h)

    pub rise-more : low < r.handle → r.handle < high
        → rise_in low high (many n row s at) ≡ rise_in r.handle high (many (n - 1) row s next)
    unfolding behind
    rise-more h k = rw (many_more row n s at r next some e) (behind_more low high r (many (n - 1) row s next) h k)

-- ---- Bytes at the front

pub in-front-length : (xs ys : List ℕ) → length xs ≤ length ys → length (in_front_of xs ys) ≡ length ys
in-front-length xs ys h = simp (length-append, length-drop) (omega arith)

-- bytes stored after those at the front are the joined bytes at the front
in-front-on : (xs vs ys : List ℕ) → length xs + length vs ≤ length ys → sets (in_front_of xs ys) (length xs) vs ≡ in_front_of (xs ++ vs) ys
in-front-on xs vs ys h =
    let fits : length xs + length vs ≤ length (in_front_of xs ys) = omega (arith, in-front-length xs ys (omega arith)) in
    sets-eq vs (in_front_of xs ys) (length xs) fits
    ∙ rw (
      take-append_seam xs (drop (length xs) ys),
      drop-append-add xs (drop (length xs) ys) (length vs),
      drop-drop (length vs) (length xs) ys,
      length-append xs vs,
    )

-- the whole at the front, where a shorter list stands there already
pub in-front-whole : (xs vs ys : List ℕ) → length xs ≤ length vs → in_front_of vs (in_front_of xs ys) ≡ in_front_of vs ys
in-front-whole xs vs ys h =
    let e : length xs + (length vs - length xs) ≡ length vs = omega arith in
    let k = length vs - length xs in
    ap (λ (l : List ℕ). vs ++ l) (rw e at (drop-append-add xs (drop (length xs) ys) k ∙ drop-drop k (length xs) ys))

-- bytes written through a part that starts behind those at the front and goes on to the end join them
pub part-on : (xs vs ys : List ℕ) (at : ℕ) {out last : List ℕ} → out ≡ in_front_of xs ys → length xs ≡ at
    → last ≡ in_front_of vs (take (length out - at) (drop at out)) → at ≤ length out
    → put_mid at (length out - at) out last ≡ in_front_of (xs ++ vs) ys
part-on xs vs ys at {out} {last} e size w h =
    let front : take at out ≡ xs = rw e (take_at xs _ at size) in
    let back : drop at out ≡ drop (length xs) ys = rw e (drop_at xs _ at size) in
    let no_more = Post-is at (length out) out h ∙ drop-length out in
    let is : last ≡ vs ++ drop (length xs + length vs) ys = w ∙ rw (part_to_end out at, back, drop-drop (length vs) (length xs) ys) in
    rw (no_more, append-nil last, front, is, length-append xs vs) (sym (append_assoc xs vs _))

pub in-front-more : (xs vs ys : List ℕ) (at : ℕ) → length xs ≡ at → at + length vs ≤ length ys
    → sets (in_front_of xs ys) at vs ≡ in_front_of (xs ++ vs) ys
in-front-more xs vs ys at e h = rw (← e) (in-front-on xs vs ys (omega arith))

put_on : (xs vs ys : List ℕ) (at : ℕ) {l m : List ℕ} → l ≡ in_front_of xs ys → m ≡ sets l at vs → length xs ≡ at → at + length vs ≤ length ys
    → m ≡ in_front_of (xs ++ vs) ys
put_on xs vs ys at e f g h = f ∙ rw e (in-front-more xs vs ys at g h)

-- the stores of what stands before the rows
pub put-head : (ys : List ℕ) (n next count : ℕ) {l m o : List ℕ} → 11 ≤ length ys → l ≡ sets ys 0 (bytes4 n)
    → m ≡ sets (set l 4 1) 5 (bytes4 next) → o ≡ sets m 9 (bytes2 count) → o ≡ in_front_of (head_bytes n next count) ys
unfolding bytes4 bytes2 head_bytes
put-head ys n next count {l} {m} {o} h one three four =
    let a : l ≡ in_front_of (bytes4 n) ys = put_on [] (bytes4 n) ys 0 refl one refl (omega arith) in
    let b : set l 4 1 ≡ in_front_of (bytes4 n ++ 1 ∷ []) ys = put_on (bytes4 n) (1 ∷ []) ys 4 a refl refl (omega arith) in
    let c = put_on (bytes4 n ++ 1 ∷ []) (bytes4 next) ys 5 b three refl (omega arith) in
    put_on (bytes4 n ++ 1 ∷ [] ++ bytes4 next) (bytes2 count) ys 9 c four refl (omega arith)

-- the bytes of a row are those of its words
row_words : (r : Row) → r.v0 < 4294967296 → r.v1 < 4294967296 → r.v2 < 4294967296 → r.v3 < 4294967296
    → row_bytes (row_meant r) ≡ bytes4 r.handle ++ (r.table ∷ []) ++ bytes4 r.v0 ++ bytes4 r.v1 ++ bytes4 r.v2 ++ bytes4 r.v3
unfolding row_bytes row_meant value_bytes bytes4
row_words r f0 f1 f2 f3 =
    rw (unsigned_signed r.v0 f0, unsigned_signed r.v1 f1, unsigned_signed r.v2 f2, unsigned_signed r.v3 f3)

-- the stores of a row
pub put-row : (ys : List ℕ) (r : Row) (t : ℕ) {l m n o p : List ℕ} → 21 ≤ length ys → t ≡ r.table
    → r.v0 < 4294967296 → r.v1 < 4294967296 → r.v2 < 4294967296 → r.v3 < 4294967296
    → l ≡ sets ys 0 (bytes4 r.handle) → m ≡ sets (set l 4 t) 5 (bytes4 r.v0) → n ≡ sets m 9 (bytes4 r.v1)
    → o ≡ sets n 13 (bytes4 r.v2) → p ≡ sets o 17 (bytes4 r.v3) → p ≡ in_front_of (row_bytes (row_meant r)) ys
unfolding bytes4
put-row ys r t {l} {m} {n} {o} {p} h e f0 f1 f2 f3 one three four five six =
    let head : List ℕ = bytes4 r.handle ++ (t ∷ []) in
    let a : l ≡ in_front_of (bytes4 r.handle) ys = put_on [] (bytes4 r.handle) ys 0 refl one refl (omega arith) in
    let b : set l 4 t ≡ in_front_of head ys = put_on (bytes4 r.handle) (t ∷ []) ys 4 a refl refl (omega arith) in
    let c = put_on head (bytes4 r.v0) ys 5 b three refl (omega arith) in
    let d = put_on (head ++ bytes4 r.v0) (bytes4 r.v1) ys 9 c four refl (omega arith) in
    let e2 = put_on (head ++ bytes4 r.v0 ++ bytes4 r.v1) (bytes4 r.v2) ys 13 d five refl (omega arith) in
    let f = put_on (head ++ bytes4 r.v0 ++ bytes4 r.v1 ++ bytes4 r.v2) (bytes4 r.v3) ys 17 e2 six refl (omega arith) in
    rw (row_words r f0 f1 f2 f3, ← e) f
