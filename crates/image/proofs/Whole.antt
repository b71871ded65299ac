-- Laws of a whole image. After the frame and the head the rows are read, and the image is well formed exactly where they rise and fill the
-- slice.
use Rattle.std.specs.Prelude.{Some}
use mathlib.Core.Path.{◌≡◌, refl, sym, ap, ◌∙◌}
use mathlib.Core.Bool.{true, false}
use mathlib.Core.List.{List}
use mathlib.Core.Option.{none, some}
use Prim.Native.Nat.{ℕ, ◌+◌, ◌*◌, ◌≤◌, ◌<◌}
use native.Mathlib.Omega.{arith}
use borrow.Author.Tests.{le-leb, lt-leb, leb-true}
use lib.Dec.{leb}
use lib.ListN.{length, length-append}
use Rattle.meaning.specs.Reading.{Read, bad, got, on_from, must, number16, number32, many, read_all}
use Rattle.meaning.specs.Covers as Covers
use Rattle.meaning.specs.Covers.{Image, most_rows}
use Rattle.meaning.specs.ByteLayouts as ByteLayouts
use Rattle.meaning.specs.ByteLayouts.{framed, row, rising, bytes2, bytes4, row_bytes, rows_bytes}
use Rattle.meaning.specs.Base.{Each, no_element, an_element}
use Rattle.meaning.proofs.Parsing.{spans-as, spans-then, on-from-got, same-value, same_place}
use Rattle.meaning.proofs.Parsing.{must-got, number16-reads, number32-reads, length-bytes2, length-bytes4, read-all, framed-got}
use Rattle.meaning.proofs.RoundTrip.{FitRow, rows-read, image_fields}
use Rattle.words.specs.Words.{Bytes, readable}
use Rattle.words.proofs.Laws.{split, readable-many}
use Rattle.fields.specs.Fields.{well_framed}
use Rattle.fields.proofs.Laws.{frame_refused, fields-refused, length-refused, fields-taken}
use Rattle.image.specs.Images.{image_meant, image_or, first_row, WellFormed, rise_in}
use Rattle.image.proofs.Laws.{row-size}

-- ---- n rows

rows-size : {rs : List Covers.Row} → Each FitRow rs → length (rows_bytes rs) ≡ 21 * length rs
unfolding rows_bytes
rows-size no_element = refl
rows-size (an_element {x} {xs} f fs) = omega (arith, length-append (row_bytes x) (rows_bytes xs), row-size f, rows-size fs)

pub rows_end : (n : ℕ) (s : List ℕ) (at : ℕ) {rs : List Covers.Row} {next : ℕ} → many n row s at ≡ got rs next
    → (length rs ≡ n) × (next ≡ at + 21 * n)
rows_end n s at e =
    let fit = (rows-read n).fit e in
    (fit.0, omega (arith, ((rows-read n).told e).ends, rows-size fit.1, fit.0))

-- ---- The fields of an image

module _ (s : List ℕ) where
  -- what is made of the rows
  made : ℕ → Read (List Covers.Row) → Read Image
  made next x = on_from x (λ rs e. on_from (must (rising 0 next rs) s e) (λ _ e. got (record { next = next; rows = rs }) e))

  made-no : (next : ℕ) (x : Read (List Covers.Row)) → rise_in 0 next x ≡ false → made next x ≡ bad
  unfolding made rise_in
  made-no next bad e = refl
  made-no next (got rs end) e = rw e

  made-yes : (next : ℕ) (x : Read (List Covers.Row)) → rise_in 0 next x ≡ true
      → (end : ℕ) × (rows : List Covers.Row) × (x ≡ got rows end) × (made next x ≡ got (record { next = next; rows = rows }) end)
  unfolding made rise_in
  made-yes next bad e = absurd (let z : ◌≡◌ {A = ℕ} 0 1 = cc in omega arith)
  made-yes next (got rs end) e = (end, rs, refl, rw e)

-- ---- What is judged, by what is read of a slice and the tests of it in their order

module _ (s : List ℕ) (b : Bytes s) where
  pub refused-frame : well_framed s ≡ false → read_all ByteLayouts.image s ≡ none
  unfolding ByteLayouts.image image_fields
  refused-frame w = frame_refused image_fields s b w

  module _ (w : well_framed s ≡ true) where
    refused-fields : image_fields s 5 ≡ bad → read_all ByteLayouts.image s ≡ none
    unfolding ByteLayouts.image image_fields
    refused-fields e = fields-refused image_fields s b w e

    pub refused-short : number32 s 5 ≡ bad → read_all ByteLayouts.image s ≡ none
    unfolding image_fields
    refused-short e = refused-fields (rw e)

    module _ {next after : ℕ} (one : number32 s 5 ≡ got next after) where
      pub refused-next : next < 1 → read_all ByteLayouts.image s ≡ none
      unfolding image_fields
      refused-next h = refused-fields (rw (one, lt-leb 1 next h))

      module _ (some_next : 1 ≤ next) where
        pub refused-uncounted : number16 s after ≡ bad → read_all ByteLayouts.image s ≡ none
        unfolding image_fields
        refused-uncounted e = refused-fields (rw (one, le-leb 1 next some_next, e))

        module _ {count first : ℕ} (two : number16 s after ≡ got count first) where
          pub refused-count : 64 < count → read_all ByteLayouts.image s ≡ none
          unfolding image_fields
          refused-count h = refused-fields (rw (one, le-leb 1 next some_next, two, lt-leb count 64 h))

          -- the rows stand where the definition has them
          pub head_ends : first ≡ first_row
          head_ends =
              omega (
                arith,
                (number32-reads.told one).ends,
                (number16-reads.told two).ends,
                length-bytes4 next,
                length-bytes2 count,
              )

          module _ (few : count ≤ 64) where
            fields_made : image_fields s 5 ≡ made s next (many count row s first)
            unfolding image_fields made
            fields_made = rw (one, le-leb 1 next some_next, two, le-leb count 64 few)

            pub refused-rows : rise_in 0 next (many count row s first) ≡ false → read_all ByteLayouts.image s ≡ none
            refused-rows e = refused-fields (fields_made ∙ made-no s next (many count row s first) e)

            pub refused-size : (length s ≡ first + count * 21 → ⊥) → read_all ByteLayouts.image s ≡ none
            unfolding ByteLayouts.image image_fields
            refused-size n =
                split (rise_in 0 next (many count row s first))
                (λ e.
                let m = made-yes s next (many count row s first) e in
                let q = rows_end count s first m.2 in
                length-refused image_fields s b w _ m.0 (fields_made ∙ m.3) (λ q2. n (omega arith)))
                (λ e. refused-rows e)

            pub taken : length s ≡ first + count * 21 → rise_in 0 next (many count row s first) ≡ true
                → (image_or s (Some (record { next = next; count = count })) ≡ read_all ByteLayouts.image s) × WellFormed s next count
            unfolding ByteLayouts.image image_fields image_or image_meant
            taken n e =
                let m = made-yes s next (many count row s first) e in
                let q = rows_end count s first m.2 in
                let rows = ap (λ (k : ℕ). many count row s k) (sym head_ends) ∙ m.2 in
                let is : read_all ByteLayouts.image s ≡ some (record { next = next; rows = m.1 })
                = fields-taken image_fields s b w _ m.0 (fields_made ∙ m.3) (omega arith) in
                (rw (readable-many row count s first_row m.1 m.0 rows) (sym is), record { rows = m.1; image = is; counted = q.0 })

-- ---- Where the parts of a well-formed image stand

pub record Laid (s : List ℕ) (count : ℕ) (rows : List Covers.Row) : Type 0 where
  pub few : count ≤ 64
  pub size : length s ≡ 11 + 21 * count
  pub read : many count row s 11 ≡ got rows (length s)

fields_laid : (s : List ℕ) {next : ℕ} {rows : List Covers.Row} {end : ℕ} → image_fields s 5 ≡ got (record { next = next; rows = rows }) end
    → (length rows ≤ 64) × (many (length rows) row s 11 ≡ got rows end)
unfolding image_fields
fields_laid s {next} {rows} {end} e =
    on-from-got (number32 s 5) _ e (λ h mid1 one rest1.
    on-from-got (must (leb 1 h) s mid1) _ rest1 (λ u mid2 two rest2.
    on-from-got (number16 s mid2) _ rest2 (λ n mid3 three rest3.
    on-from-got (must (leb n most_rows) s mid3) _ rest3 (λ u mid4 four rest4.
    on-from-got (many n row s mid4) _ rest4 (λ rs mid5 five rest5.
    on-from-got (must (rising 0 h rs) s mid5) _ rest5 (λ u mid6 six same.
    let k2 = must-got (leb 1 h) s mid1 two in
    let k4 = must-got (leb n most_rows) s mid3 four in
    let k6 = must-got (rising 0 h rs) s mid5 six in
    let k5 = rows_end n s mid4 five in
    let front = spans-then (spans-as refl k2.1 (number32-reads.told one)) (spans-as refl k4.1 (number16-reads.told three)) in
    let is_rows : rs ≡ rows = ap (λ (m : Image). m.rows) (same-value same) in
    let is_end : mid6 ≡ end = same_place same in
    let is_count : n ≡ length rows = sym k5.0 ∙ ap length is_rows in
    let is_first : mid4 ≡ 11 =
    omega (arith, front.ends, length-append (bytes4 h) (bytes2 n), length-bytes4 h, length-bytes2 n) in
    (omega (arith, leb-true n most_rows k4.0), (cc))))))))

pub laid : {s : List ℕ} {next count : ℕ} (w : WellFormed s next count) → Laid s count w.rows
unfolding ByteLayouts.image image_fields
laid {s} {next} {count} w =
    let whole = read-all (framed image_fields) s w.image in
    let f = framed-got image_fields s 0 whole.1 in
    let p = fields_laid s f.body in
    let counted = w.counted in
    let read : many count row s 11 ≡ got w.rows (length s) = rw (← counted, ← f.filled) p.1 in
    let q = rows_end count s 11 read in
    record { few = omega arith; size = omega arith; read = read }

-- the rows are those that can be read
pub rows_are : {s : List ℕ} {next count : ℕ} (w : WellFormed s next count) → readable count row s first_row ≡ w.rows
rows_are {s} {next} {count} w = readable-many row count s first_row w.rows (length s) (laid w).read
