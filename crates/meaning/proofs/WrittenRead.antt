-- A sound image, written, is read back as itself: the parsers find what the writers wrote, and all that they test holds of a sound image.
use mathlib.Core.Path.{◌≡◌, refl}
use mathlib.Core.Bool.{true}
use mathlib.Core.List.{List, [], ◌∷◌, ◌++◌}
use mathlib.Core.Option.{some}
use Prim.Native.Nat.{ℕ, suc, ◌+◌, ◌*◌, ◌≤◌}
use native.Mathlib.Omega.{arith}
use lib.IntN.{ℤ}
use lib.ListN.{length, length-append}
use borrow.Author.Tests.{le-leb, lt-ltb}
use Rattle.meaning.specs.Reading.{got, read_all}
use Rattle.meaning.specs.Values.{unsigned}
use Rattle.meaning.specs.Covers.{most_rows, Row, Image}
use Rattle.meaning.specs.ByteLayouts
use Rattle.meaning.specs.ByteLayouts.{rising, bytes2, bytes4, value_bytes, row_bytes, rows_bytes, image_bytes}
use Rattle.meaning.specs.EntryPoints.{run_output}
use Rattle.meaning.specs.Base.{Each, no_element, an_element}
use Rattle.meaning.specs.Made.{Proper, Rising, no_row, above, Sound}
use Rattle.meaning.proofs.Parsing.{Spans, spans-first, spans-rest, number16-reads, number32-reads, length-bytes2, length-bytes4}
use Rattle.meaning.proofs.Parsing.{framed-found}
use Rattle.meaning.proofs.RoundTrip.{FitRow, rows-read, image_fields, field_bytes}

-- ---- What the parser tests

pub rises-true : {high low : ℕ} {rs : List Row} → Rising high low rs → rising low high rs ≡ true
unfolding rising
rises-true no_row = refl
rises-true {high} {low} (above {r = r} a b p more) = rw (lt-ltb low r.handle a, lt-ltb r.handle high b) (rises-true more)

rising-fit : {high low : ℕ} {rs : List Row} → high ≤ 4294967296 → Rising high low rs → Each FitRow rs
rising-fit h no_row = no_element
rising-fit h (above {r = r} a b p more) = an_element {x = r} (record { handle_fits = omega arith; proper = p }) (rising-fit h more)

-- ---- Lengths

pub length-values : (vs : List ℤ) → length (value_bytes vs) ≡ length vs * 4
unfolding value_bytes
length-values [] = refl
length-values (v ∷ vs) = omega (arith, length-append (bytes4 (unsigned v)) (value_bytes vs), length-bytes4 (unsigned v), length-values vs)

pub length-row : {r : Row} → Proper r → length (row_bytes r) ≡ 21
unfolding row_bytes
length-row {r} p =
    omega (
      arith,
      length-append (bytes4 r.handle) (r.table ∷ value_bytes r.values),
      length-bytes4 r.handle,
      length-values r.values,
      p.four,
    )

pub length-rows : {high low : ℕ} {rs : List Row} → Rising high low rs → length (rows_bytes rs) ≡ length rs * 21
unfolding rows_bytes
length-rows no_row = refl
length-rows (above {r = r} {rs = rs} a b p more) =
    omega (arith, length-append (row_bytes r) (rows_bytes rs), length-row p, length-rows more)

length_fields : {m : Image} → Sound m → length (field_bytes m) ≡ 6 + length m.rows * 21
unfolding field_bytes
length_fields {m} s =
    let n = length m.rows in
    omega (
      arith,
      length-append (bytes4 m.next ++ bytes2 n) (rows_bytes m.rows),
      length-append (bytes4 m.next) (bytes2 n),
      length-bytes4 m.next,
      length-bytes2 n,
      length-rows s.rises,
    )

pub length-image : {m : Image} → Sound m → length (image_bytes m) ≡ 11 + length m.rows * 21
unfolding image_bytes field_bytes
length-image {m} s =
    let n = suc (length (field_bytes m)) in
    omega (arith, length-append (bytes4 n) (1 ∷ field_bytes m), length-bytes4 n, length_fields s)

-- the output of a run has room for every sound image
pub image-fits : {m : Image} → Sound m → length (image_bytes m) ≤ run_output
image-fits s = omega (arith, length-image s, s.rows_fit)

-- ---- The image

fields-found : {m : Image} {s : List ℕ} {at end : ℕ} → Sound m → Spans s at (field_bytes m) end → image_fields s at ≡ got m end
unfolding image_fields field_bytes
fields-found {m} {s} {at} {end} sound span =
    let next = m.next in
    let rs = m.rows in
    let n = length rs in
    let front = spans-first (bytes4 next ++ bytes2 n) (rows_bytes rs) span in
    rw (
      number32-reads.found (omega (arith, sound.next_fits)) (spans-first (bytes4 next) (bytes2 n) front),
      le-leb 1 next sound.some_next,
      number16-reads.found (omega (arith, sound.rows_fit)) (spans-rest (bytes4 next) front),
      le-leb n most_rows sound.rows_fit,
      (rows-read n).found (refl, rising-fit (omega (arith, sound.next_fits)) sound.rises) (spans-rest (bytes4 next ++ bytes2 n) span),
      rises-true sound.rises,
    )

pub written_read : {m : Image} → Sound m → read_all ByteLayouts.image (image_bytes m) ≡ some m
unfolding ByteLayouts.image image_fields image_bytes field_bytes
written_read {m} sound =
    framed-found image_fields (field_bytes m) m (omega (arith, length_fields sound, sound.rows_fit)) (λ at next span. fields-found sound span)
