-- Laws of the rows of an image, put one after another. A row's parts are its line. Where rows are left, the first of them stands here and
-- the others after it; what is put already, with the lines of the rows that are left, are the lines of them all.
use mathlib.Core.Path.{◌≡◌, refl, sym, ap, ◌∙◌}
use mathlib.Core.List.{List, [], ◌∷◌, ◌++◌, map, append-nil, append_assoc}
use Prim.Native.Nat.{ℕ, ◌+◌, ◌-◌, ◌*◌, ◌≤◌, ◌<◌}
use native.Mathlib.Omega.{arith}
use lib.ListN.{length}
use Rattle.std.specs.Fmt as Fmt
use Rattle.meaning.specs.Base.{ascii}
use Rattle.meaning.specs.Reading.{got, many}
use Rattle.meaning.specs.Values.{signed}
use Rattle.meaning.specs.Covers as Covers
use Rattle.meaning.specs.ByteLayouts.{row}
use Rattle.meaning.specs.EntryPoints.{line, decimal, spaced, row_lines}
use Rattle.meaning.proofs.Parsing.{same-value}
use Rattle.words.specs.Words.{readable}
use Rattle.words.proofs.Laws.{many-none}
use Rattle.image.specs.Images.{WellFormed, row_meant, row_or, first_row}
use Rattle.image.specs.declared.Row.{Row}
use Rattle.image.proofs.Laws.{rows-first}
use Rattle.image.proofs.Whole.{laid, rows_end, rows_are}
use Rattle.lines.specs.Text.{PutsAt, PutsRun, RowsStand, row_line}
use Rattle.lines.proofs.Numbers.{shown, shown-value}
use Rattle.lines.proofs.Texts.{puts-nothing, puts_then, puts-as, puts-front}

-- ---- A row

pub puts-row : {xs ys zs us vs : List ℕ} {at a b e end most : ℕ} {t0 t1 t2 t3 : List ℕ} (r : Row)
    → r.handle < 4294967296 → r.table ≤ 3
    → PutsAt xs ys at 10 (Fmt.decimal r.handle) a → PutsAt ys zs a 11 (spaced (map Fmt.decimal (r.table ∷ []))) b
    → PutsAt zs us b most (spaced (t0 ∷ t1 ∷ t2 ∷ t3 ∷ [])) e → PutsAt us vs e 1 (ascii "\n") end
    → most ≤ 48 → t0 ≡ Fmt.signed_decimal (signed r.v0) → t1 ≡ Fmt.signed_decimal (signed r.v1)
    → t2 ≡ Fmt.signed_decimal (signed r.v2) → t3 ≡ Fmt.signed_decimal (signed r.v3)
    → PutsAt xs vs at 70 (row_line (row_meant r)) end
unfolding row_line row_meant line spaced
puts-row r handle table one two four newline most e0 e1 e2 e3 =
    puts_then
    (puts_then (rw (shown r.handle handle) at one)
    (puts_then (rw (append-nil (Fmt.decimal r.table), shown r.table (omega arith)) at two)
    (rw (e0, e1, e2, e3, shown-value r.v0, shown-value r.v1, shown-value r.v2, shown-value r.v3) at (puts-as refl most four))))
    newline

-- ---- Row after row

-- The lines of the first k rows are put from `at` on, and the others stand from `from` on. All rows together have the lines `all`.
pub record Listed (s ys out : List ℕ) (at count here k from : ℕ) (all : List ℕ) : Type 0 where
  pub text : List ℕ
  pub rest : List Covers.Row
  pub put : PutsAt ys out at (70 * k) text here
  pub rows : many (count - k) row s from ≡ got rest (length s)
  pub whole : text ++ row_lines rest ≡ all

pub listed-none : (s ys : List ℕ) (at count : ℕ) → RowsStand s count
    → Listed s ys ys at count at 0 first_row (row_lines (readable count row s first_row))
listed-none s ys at count w =
    let every : count - 0 ≡ count = omega arith in
    record {
      text = [];
      rest = readable count row s first_row;
      put = puts-nothing refl;
      rows = rw every w.read;
      whole = refl;
    }

module _ {s ys out : List ℕ} {at count here k from : ℕ} {all : List ℕ} (l : Listed s ys out at count here k from all) where
  -- the rows that are left end with the slice
  pub listed-size : from + 21 * (count - k) ≡ length s
  listed-size = omega (arith, rows_end (count - k) s from l.rows)

  module _ (more : k < count) (r : Row) (is : row s from ≡ row_or r (from + 21)) where
    pub listed-table : r.table ≤ 3
    listed-table = (rows-first (count - k) s from r (omega arith) l.rows is).0

    pub listed_more : {out2 : List ℕ} {here2 : ℕ} → PutsAt out out2 here 70 (row_line (row_meant r)) here2
        → Listed s ys out2 at count here2 (k + 1) (from + 21) all
    unfolding row_lines row_line
    listed_more p =
        let n = rows-first (count - k) s from r (omega arith) l.rows is in
        let fewer : count - k - 1 ≡ count - (k + 1) = omega arith in
        let here-line = row_line (row_meant r) in
        record {
          text = l.text ++ here-line;
          rest = n.1;
          put = puts-as refl (omega arith) (puts_then l.put p);
          rows = rw fewer at n.3;
          whole = append_assoc l.text here-line (row_lines n.1) ∙ ap (λ rs. l.text ++ row_lines rs) (sym n.2) ∙ l.whole;
        }

  pub listed-all : k ≤ 64 → count ≤ k → PutsAt ys out at 4480 all here
  unfolding row_lines
  listed-all few done =
      let none : l.rest ≡ [] = same-value (sym l.rows ∙ many-none row (count - k) s from (omega arith)) in
      let is : l.text ≡ all = sym (append-nil l.text) ∙ ap (λ rs. l.text ++ row_lines rs) (sym none) ∙ l.whole in
      puts-as is (omega arith) l.put

-- ---- The rows of a well-formed image

module _ {s : List ℕ} {next count : ℕ} (w : WellFormed s next count) where
  pub rows-stand : RowsStand s count
  rows-stand = record { few = (laid w).few; read = rw (rows_are w) (laid w).read }

  -- the first line and a line for each row are the lines of a run
  pub puts-run : {xs ys zs : List ℕ} {outcome reason k here r : ℕ} → 4535 ≤ length xs
      → PutsAt xs ys 0 55 (line (decimal outcome) (map decimal (reason ∷ k ∷ next ∷ count ∷ []))) here
      → PutsAt ys zs here 4480 (row_lines (readable count row s first_row)) r → PutsRun xs zs s outcome reason k r
  puts-run long p q = record {
    is = λ m e.
        let same : m ≡ record { next = next; rows = w.rows } = cc w.image in
        rw (same, w.counted, ← rows_are w) (puts-front long (puts_then p q));
  }
