-- Bytes that grow at the front of an output. A row written through a part that starts behind the front joins the front, so that head and
-- rows, one after another, are the image's bytes.
use mathlib.Core.Path.{◌≡◌, refl, sym, ap, ◌∙◌}
use mathlib.Core.List.{List, [], ◌∷◌, ◌++◌, append_assoc, append-nil}
use Prim.Native.Nat.{ℕ, suc, ◌+◌, ◌-◌, ◌*◌, ◌≤◌, ◌<◌}
use native.Mathlib.Numerals.{add-one}
use native.Mathlib.Omega.{arith}
use borrow.Rule.Slice.PartMut.{put_mid}
use lib.ListN.{length, get_or, take, drop, length-append}
use lib.Seq.{take-suc, take-length, length-take-le}
use Rattle.meaning.specs.Base.{in_front_of}
use Rattle.meaning.specs.ByteLayouts.{bytes2, bytes4, value_bytes, row_bytes, rows_bytes, image_bytes}
use Rattle.slots.specs.declared.Slot.{Slot}
use Rattle.slots.specs.Slots.{blank}
use Rattle.room.specs.Room.{row_meant, rows_meant}
use Rattle.room.proofs.Live.{rows-length}
use Rattle.image.specs.Images.{head_bytes}
use Rattle.image.proofs.Laws.{in-front-length, in-front-whole, part-on}

-- ---- The rows of slots

row-size : (e : Slot) → length (row_bytes (row_meant e)) ≡ 21
unfolding row_bytes row_meant value_bytes bytes4
row-size e = refl

rows_more : (l : List Slot) (e : Slot) → rows_bytes (rows_meant (l ++ (e ∷ []))) ≡ rows_bytes (rows_meant l) ++ row_bytes (row_meant e)
unfolding rows_meant rows_bytes
rows_more [] e = append-nil (row_bytes (row_meant e))
rows_more (x ∷ l) e = rw (rows_more l e) (sym (append_assoc (row_bytes (row_meant x)) (rows_bytes (rows_meant l)) (row_bytes (row_meant e))))

rows-size : (l : List Slot) → length (rows_bytes (rows_meant l)) ≡ 21 * length l
unfolding rows_meant rows_bytes
rows-size [] = refl
rows-size (x ∷ l) = omega (arith, length-append (row_bytes (row_meant x)) (rows_bytes (rows_meant l)), row-size x, rows-size l)

head-size : (n next count : ℕ) → length (head_bytes n next count) ≡ 11
unfolding head_bytes bytes4 bytes2
head-size n next count = refl

-- ---- An image, its head and the rows of slots

head_rows : (n next count : ℕ) (rows : List ℕ)
    → bytes4 n ++ (1 ∷ (bytes4 next ++ bytes2 count ++ rows)) ≡ head_bytes n next count ++ rows
unfolding head_bytes bytes4 bytes2
head_rows n next count rows = refl

fields-size : (next count : ℕ) (rows : List ℕ) → length (1 ∷ (bytes4 next ++ bytes2 count ++ rows)) ≡ 7 + length rows
unfolding bytes4 bytes2
fields-size next count rows = omega arith

-- the head of an image of so many rows, and rows behind it
abbrev pub image_of : ℕ → ℕ → List Slot → List ℕ
image_of next n l = head_bytes (7 + 21 * n) next n ++ rows_bytes (rows_meant l)

image-parts : (next : ℕ) (l : List Slot) → image_bytes (record { next = next; rows = rows_meant l }) ≡ image_of next (length l) l
unfolding image_bytes
image-parts next l =
    let size = fields-size next (length l) (rows_bytes (rows_meant l)) ∙ ap (λ (k : ℕ). 7 + k) (rows-size l) in
    rw (rows-length l, size) (head_rows (7 + 21 * length l) next (length l) (rows_bytes (rows_meant l)))

image-size : (next n : ℕ) (l : List Slot) → length (image_of next n l) ≡ 11 + 21 * length l
image-size next n l =
    omega (arith, length-append (head_bytes (7 + 21 * n) next n) (rows_bytes (rows_meant l)), head-size (7 + 21 * n) next n, rows-size l)

image-more : (next n : ℕ) (l : List Slot) (e : Slot) → image_of next n (l ++ (e ∷ [])) ≡ image_of next n l ++ row_bytes (row_meant e)
image-more next n l e =
    rw (rows_more l e) (sym (append_assoc (head_bytes (7 + 21 * n) next n) (rows_bytes (rows_meant l)) (row_bytes (row_meant e))))

-- ---- Writing an image: up to `here` the head and the first k rows, and from there on what the output held

pub record Writing (l : List Slot) (next n : ℕ) (ys out : List ℕ) (k here : ℕ) : Type 0 where
  pub all : length l ≡ n
  pub few : n ≤ 64
  pub place : here ≡ 11 + 21 * k
  pub long : 1355 ≤ length ys
  pub is : out ≡ in_front_of (image_of next n (take k l)) ys

pub writing_start : (l : List Slot) (next n : ℕ) (ys out : List ℕ) → length l ≡ n → n ≤ 64 → 1355 ≤ length ys
    → out ≡ in_front_of (head_bytes (7 + 21 * n) next n) ys → Writing l next n out out 0 11
unfolding rows_meant rows_bytes
writing_start l next n ys out all few long e =
    let head = head_bytes (7 + 21 * n) next n in
    record {
      all = all;
      few = few;
      place = refl;
      long = omega (arith, ap length e, in-front-length head ys (omega (arith, head-size (7 + 21 * n) next n)));
      is = rw (append-nil head, e) (sym (in-front-whole head head ys (omega arith)));
    }

module _ {l : List Slot} {next n : ℕ} {ys out : List ℕ} {k here : ℕ} (w : Writing l next n ys out k here) (within : k ≤ n) where
  done-size : length (image_of next n (take k l)) ≡ here
  done-size =
      let done : length (take k l) ≡ k = length-take-le k l (omega (arith, w.all)) in
      omega (arith, image-size next n (take k l), w.place)

  pub writing-length : length out ≡ length ys
  writing-length =
      ap length w.is
      ∙ in-front-length (image_of next n (take k l)) ys (omega (arith, done-size, w.place, w.few, w.long))

  pub writing_more : k < n → (last : List ℕ)
      → last ≡ in_front_of (row_bytes (row_meant (get_or l k blank))) (take (length out - here) (drop here out))
      → Writing l next n ys (put_mid here (length out - here) out last) (k + 1) (here + 21)
  writing_more some last e =
      let row = row_bytes (row_meant (get_or l k blank)) in
      let one_more : take (suc k) l ≡ take k l ++ (get_or l k blank ∷ []) = take-suc l k blank (omega (arith, w.all)) in
      record {
        all = w.all;
        few = w.few;
        place = omega (arith, w.place);
        long = w.long;
        is =
            part-on (image_of next n (take k l)) row ys here w.is done-size e
            (omega (arith, writing-length, w.place, w.few, w.long))
            ∙ rw (add-one k, one_more, image-more next n (take k l) (get_or l k blank));
      }

  pub writing-done : n ≤ k → (zs : List ℕ) → ys ≡ in_front_of (head_bytes (7 + 21 * n) next n) zs
      → out ≡ in_front_of (image_bytes (record { next = next; rows = rows_meant l })) zs
  writing-done none zs e =
      let all : k ≡ length l = omega (arith, w.all) in
      let head = head_bytes (7 + 21 * n) next n in
      w.is ∙ rw (all, take-length l, image-parts next l, e, w.all)
      (in-front-whole head (head ++ rows_bytes (rows_meant l)) zs (omega (arith, length-append head (rows_bytes (rows_meant l)))))
