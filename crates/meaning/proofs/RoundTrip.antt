-- An accepted image, written back, gives its own bytes: each parser of an image reads exactly the bytes that its writer writes, and the
-- fields fill the slice. What is accepted is sound.
use mathlib.Core.Path.{◌≡◌, refl, ap, ◌∙◌}
use mathlib.Core.Bool.{true, ◌&&◌}
use mathlib.Core.List.{List, [], ◌∷◌, ◌++◌}
use mathlib.Core.Option.{some}
use Prim.Native.Nat.{ℕ, ◌≤◌, ◌<◌}
use native.Mathlib.Omega.{arith}
use lib.IntN.{ℤ}
use lib.Dec.{leb, ltb}
use lib.ListN.{length}
use borrow.Author.Tests.{leb-true, ltb-true}
use Rattle.meaning.specs.Reading.{Parser, ◌>>=◌, ◌>>◌, pure, must, got, number16, number32, many, read_all}
use Rattle.meaning.specs.Values.{unsigned}
use Rattle.meaning.specs.Covers.{most_rows, Row, Image}
use Rattle.meaning.specs.ByteLayouts
use Rattle.meaning.specs.ByteLayouts.{framed, value, table, row, rising, bytes2, bytes4, value_bytes, row_bytes, rows_bytes, image_bytes}
use Rattle.meaning.specs.Theorems.{RoundTrip}
use Rattle.meaning.proofs.Lists.{and-true}
use Rattle.meaning.specs.Base.{Each, no_element, an_element}
use Rattle.meaning.specs.Made.{InRange, Proper, Rising, no_row, above, Sound}
use Rattle.meaning.proofs.Parsing.{Spans, spans-as, spans-then, spans-first, spans-rest, on-from-got, same-value, same_place}
use Rattle.meaning.proofs.Parsing.{must-got, Reads, reads_as, byte_reads, number16-reads, number32-reads, value-reads, spread}
use Rattle.meaning.proofs.Parsing.{many-reads, read-all, framed-got, framed-told}

-- ---- The values of a row

value-bytes : (vs : List ℤ) → spread (λ v. bytes4 (unsigned v)) vs ≡ value_bytes vs
unfolding value_bytes
value-bytes [] = refl
value-bytes (v ∷ vs) = rw (value-bytes vs)

pub values-read : (n : ℕ) → Reads (many n value) value_bytes (λ vs. (length vs ≡ n) × InRange vs)
values-read n = reads_as value-bytes (many-reads value-reads n)

-- ---- Rows

pub record FitRow (r : Row) : Type 0 where
  pub handle_fits : r.handle < 4294967296
  pub proper : Proper r

pub table-reads : Reads table (λ t. t ∷ []) (λ t. (0 ≤ t) × (t ≤ 3))
unfolding table
table-reads = byte_reads (omega arith)

pub row_reads : Reads row row_bytes FitRow
unfolding row row_bytes
row_reads = record {
  told = λ {s} {at} {a = r} e.
      on-from-got (number32 s at) _ e (λ h mid1 one rest1.
      on-from-got (table s mid1) _ rest1 (λ t mid2 two rest2.
      on-from-got (many 4 value s mid2) _ rest2 (λ vs mid3 three same.
      spans-as (ap row_bytes (same-value same)) (same_place same)
      (spans-then (number32-reads.told one) (spans-then (table-reads.told two) ((values-read 4).told three))))));
  fit = λ {s} {at} {a = r} e.
      on-from-got (number32 s at) _ e (λ h mid1 one rest1.
      on-from-got (table s mid1) _ rest1 (λ t mid2 two rest2.
      on-from-got (many 4 value s mid2) _ rest2 (λ vs mid3 three same.
      let k = (values-read 4).fit three in
      let proper : Proper (record { handle = h; table = t; values = vs })
      = record { table_fits = (table-reads.fit two).1; four = k.0; in_range = k.1 } in
      let fits : FitRow (record { handle = h; table = t; values = vs })
      = record { handle_fits = number32-reads.fit one; proper = proper } in
      rw (same-value same) at fits)));
  found = λ {a = r} f span.
      let h = r.handle in
      let t = r.table in
      let rest = spans-rest (bytes4 h) span in
      rw (
        number32-reads.found f.handle_fits (spans-first (bytes4 h) (t ∷ value_bytes r.values) span),
        table-reads.found (omega arith, f.proper.table_fits) (spans-first (t ∷ []) (value_bytes r.values) rest),
        (values-read 4).found (f.proper.four, f.proper.in_range) (spans-rest (t ∷ []) rest),
      );
}

rows-bytes : (rs : List Row) → spread row_bytes rs ≡ rows_bytes rs
unfolding rows_bytes
rows-bytes [] = refl
rows-bytes (r ∷ rs) = rw (rows-bytes rs)

pub rows-read : (n : ℕ) → Reads (many n row) rows_bytes (λ rs. (length rs ≡ n) × Each FitRow rs)
rows-read n = reads_as rows-bytes (many-reads row_reads n)

pub rising-rows : {high : ℕ} (low : ℕ) {rs : List Row} → Each FitRow rs → rising low high rs ≡ true → Rising high low rs
unfolding rising
rising-rows low no_element e = no_row
rising-rows {high} low (an_element {x = r} {xs = rs} f fs) e =
    let k = and-true (ltb low r.handle && ltb r.handle high) (rising r.handle high rs) e in
    let j = and-true (ltb low r.handle) (ltb r.handle high) k.0 in
    above (ltb-true low r.handle j.0) (ltb-true r.handle high j.1) f.proper (rising-rows r.handle fs k.1)

-- ---- An image

-- next handle, row count, rows
unfoldable pub image_fields : Parser Image
image_fields = do
  next ← number32
  must (leb 1 next)
  n ← number16
  must (leb n most_rows)
  rs ← many n row
  must (rising 0 next rs)
  pure (record { next = next; rows = rs })

unfoldable pub field_bytes : Image → List ℕ
field_bytes m = bytes4 m.next ++ bytes2 (length m.rows) ++ rows_bytes m.rows

pub fields-got : {s : List ℕ} {at : ℕ} {m : Image} {end : ℕ} → image_fields s at ≡ got m end → Spans s at (field_bytes m) end × Sound m
unfolding image_fields field_bytes
fields-got {s} {at} {m} e =
    on-from-got (number32 s at) _ e (λ next mid1 one rest1.
    on-from-got (must (leb 1 next) s mid1) _ rest1 (λ u mid2 two rest2.
    on-from-got (number16 s mid2) _ rest2 (λ n mid3 three rest3.
    on-from-got (must (leb n most_rows) s mid3) _ rest3 (λ u mid4 four rest4.
    on-from-got (many n row s mid4) _ rest4 (λ rs mid5 five rest5.
    on-from-got (must (rising 0 next rs) s mid5) _ rest5 (λ u mid6 six same.
    let k2 = must-got (leb 1 next) s mid1 two in
    let k4 = must-got (leb n most_rows) s mid3 four in
    let k5 = (rows-read n).fit five in
    let k6 = must-got (rising 0 next rs) s mid5 six in
    let front = spans-then (spans-as refl k2.1 (number32-reads.told one)) (spans-as refl k4.1 (number16-reads.told three)) in
    let span = spans-then front ((rows-read n).told five) in
    let sound : Sound (record { next = next; rows = rs }) = record {
      some_next = leb-true 1 next k2.0;
      next_fits = omega (arith, number32-reads.fit one);
      rows_fit = omega (arith, leb-true n most_rows k4.0);
      rises = rising-rows 0 k5.1 k6.0;
    } in
    rw (← same-value same) (spans-as (rw k5.0) (k6.1 ∙ same_place same) span, sound)))))))

pub image-sound : (s : List ℕ) (m : Image) → read_all ByteLayouts.image s ≡ some m → Sound m
unfolding ByteLayouts.image image_fields
image-sound s m e = (fields-got (framed-got image_fields s 0 (read-all (framed image_fields) s e).1).body).1

pub round_trip : RoundTrip
unfolding ByteLayouts.image image_fields image_bytes field_bytes
round_trip s m e = framed-told image_fields (field_bytes m) s m (λ at next g. (fields-got g).0) e
