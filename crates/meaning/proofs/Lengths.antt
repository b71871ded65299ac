-- An image is as long as what is written of it; the fields of a book or a log take no more than they can. The longest have as much as there
-- may be of each thing, each the longest of its kind.
use mathlib.Core.Path.{◌≡◌, refl, ap}
use mathlib.Core.Bool.{true}
use mathlib.Core.List.{List, [], ◌∷◌, ◌++◌}
use mathlib.Core.Option.{some}
use Prim.Native.Nat.{ℕ, zero, suc, ◌+◌, ◌≤◌, ◌<◌}
use native.Mathlib.Omega.{arith}
use lib.IntN.{pos}
use lib.ListN.{length, replicate, length-append}
use Rattle.meaning.specs.Base.{up_from, no_element, an_element}
use Rattle.meaning.specs.Reading.{Parser, got, byte_within, read_all}
use Rattle.meaning.specs.Covers.{Row, Image, Book, Rule, Term, LogOperation, current, match, sum, update_rows, update}
use Rattle.meaning.specs.ByteLayouts
use Rattle.meaning.specs.ByteLayouts.{framed, bytes4, bytes2, image_bytes}
use Rattle.meaning.specs.Processing.TotalOrder.{total_order}
use Rattle.meaning.specs.EntryPoints.{judge_book}
use Rattle.meaning.specs.Everything.{everything}
use Rattle.meaning.specs.Made.{InRange, Rising, no_row, above, Sound}
use Rattle.meaning.specs.Theorems.Lengths.{Longest, Lengths}
use Rattle.meaning.proofs.Parsing.{Spans, spans-first, spans-rest, Reads, byte_reads, number16-reads, read-all, framed-got}
use Rattle.meaning.proofs.Parsing.{framed-found, frame, length-bytes4, length-bytes2}
use Rattle.meaning.proofs.RoundTrip.{image-sound, round_trip}
use Rattle.meaning.proofs.WrittenRead.{length-image, image-fits, written_read}
use Rattle.meaning.proofs.Takes.{Takes, operation-takes, log_fields, log-takes, rule-takes, book_fields, book-takes}
use Rattle.meaning.proofs.Takes.{times, times-length, many-same}

-- ---- The image: 64 rows

pub image-length : (s : List ℕ) (m : Image) → read_all ByteLayouts.image s ≡ some m → length s ≤ 1355
image-length s m e = omega (arith, image-fits (image-sound s m e), ap length (round_trip s m e))

a_row : ℕ → Row
a_row h = record { handle = h; table = 0; values = replicate 4 (pos 0) }

rows_from : ℕ → ℕ → List Row
rows_from h zero = []
rows_from h (suc n) = a_row h ∷ rows_from (suc h) n

rows-rise : (n h low high : ℕ) → low < h → h + n ≤ high → Rising high low (rows_from h n)
unfolding rows_from a_row
rows-rise zero h low high l m = no_row
rows-rise (suc n) h low high l m =
    let z : 0 ≤ 2147483647 = omega arith in
    let zeros : InRange (replicate 4 (pos 0)) = an_element z (an_element z (an_element z (an_element z no_element))) in
    above {r = a_row h} l (omega arith) (record { table_fits = omega arith; four = refl; in_range = zeros })
    (rows-rise n (suc h) h high (omega arith) (omega arith))

rows-length : (n h : ℕ) → length (rows_from h n) ≡ n
unfolding rows_from
rows-length zero h = refl
rows-length (suc n) h = ap suc (rows-length n (suc h))

full_image : Image
full_image = record { next = 65; rows = rows_from 1 64 }

full-sound : Sound full_image
unfolding full_image
full-sound = record {
  some_next = omega arith;
  next_fits = omega arith;
  rows_fit = omega (arith, rows-length 64 1);
  rises = rows-rise 64 1 0 65 (omega arith) (omega arith);
}

longest-image : Longest ByteLayouts.image 1355
unfolding full_image
longest-image = record {
  at_most = image-length;
  longest = image_bytes full_image;
  value = full_image;
  read = written_read full-sound;
  reached = omega (arith, length-image full-sound, rows-length 64 1);
}

-- ---- Fields in a frame: the length and the version come first

module _ {A : Type 0} {least most : ℕ} {fields : Parser A} (t : Takes least most fields) where
  framed-length : (s : List ℕ) (a : A) → read_all (framed fields) s ≡ some a → length s ≤ 5 + most
  framed-length s a e =
      let whole = read-all (framed fields) s e in
      let f = framed-got fields s 0 whole.1 in
      let k = t.took f.body in
      omega arith

  framed-longest : (a : A) (bytes : List ℕ) → length bytes ≡ most → most < 4294967295
      → ((s : List ℕ) (at next : ℕ) → Spans s at bytes next → fields s at ≡ got a next) → Longest (framed fields) (5 + most)
  framed-longest a bytes q few found =
      let n = length (1 ∷ bytes) in
      record {
        at_most = framed-length;
        longest = frame bytes;
        value = a;
        read = framed-found fields bytes a (omega arith) (found (frame bytes));
        reached = omega (arith, length-append (bytes4 n) (1 ∷ bytes), length-bytes4 n);
      }

-- ---- The log: 256 updates of four columns

an_update : List ℕ
an_update = 3 ∷ bytes4 1 ++ (15 ∷ replicate 16 0)

the_update : LogOperation
the_update = update 1 15 (replicate 4 (pos 0))

update-read : (rest : List ℕ) → ByteLayouts.operation (an_update ++ rest) 0 ≡ got the_update (length an_update)
unfolding everything an_update the_update
update-read rest = refl

update-length : length an_update ≡ 22
unfolding an_update bytes4
update-length = refl

log_bytes : List ℕ
log_bytes = bytes2 256 ++ times 256 an_update

log-read : (s : List ℕ) (at next : ℕ) → Spans s at log_bytes next → log_fields s at ≡ got (replicate 256 the_update) next
unfolding log_fields log_bytes
log-read s at next span =
    rw (
      number16-reads.found (omega arith) (spans-first (bytes2 256) (times 256 an_update) span),
      many-same operation-takes the_update an_update update-read 256 (spans-rest (bytes2 256) span),
    )

longest-log : Longest ByteLayouts.log 5639
unfolding ByteLayouts.log log_fields log_bytes
longest-log =
    framed-longest log-takes (replicate 256 the_update) log_bytes
    (omega (arith, length-append (bytes2 256) (times 256 an_update), length-bytes2 256, times-length 256 an_update, update-length))
    (omega arith) log-read

-- ---- The book: 16 rules, each with a condition and four updates, and with four matches of four pairs wherever there are terms

some_terms : List ℕ
some_terms = 4 ∷ times 4 (12 ∷ 0 ∷ 4 ∷ replicate 8 0)

an_action : List ℕ
an_action = 4 ∷ 0 ∷ 15 ∷ (times 4 (2 ∷ replicate 5 0) ++ some_terms)

a_rule : List ℕ
a_rule = 1 ∷ 0 ∷ 7 ∷ 15 ∷ 0 ∷ 0 ∷ 1 ∷ 0 ∷ (some_terms ++ (4 ∷ times 4 an_action))

the_terms : List Term
the_terms = replicate 4 (match (current 0) (replicate 4 (record { own = 0; other = 0 })))

the_rule : Rule
the_rule = record {
  active = true;
  table = 0;
  triggers = 7;
  columns = 15;
  precedes = 0;
  condition = some (record { source = current 0; terms = the_terms });
  actions = replicate 4 (update_rows 0 15 (replicate 4 (sum 0 (pos 0))) the_terms);
}

the_book : Book
the_book = record { limit = 1; rules = replicate 16 the_rule }

rule-read : (rest : List ℕ) → ByteLayouts.rule 16 (a_rule ++ rest) 0 ≡ got the_rule (length a_rule)
unfolding everything a_rule an_action some_terms the_rule the_terms
rule-read rest = refl

rule-length : length a_rule ≡ 342
unfolding a_rule an_action some_terms
rule-length = refl

book_bytes : List ℕ
book_bytes = bytes2 1 ++ (16 ∷ times 16 a_rule)

book-read : (s : List ℕ) (at next : ℕ) → Spans s at book_bytes next → book_fields s at ≡ got the_book next
unfolding book_fields book_bytes the_book
book-read s at next span =
    let count : Reads (byte_within 0 16) (λ b. b ∷ []) (λ b. (0 ≤ b) × (b ≤ 16)) = byte_reads (omega arith) in
    let rest = spans-rest (bytes2 1) span in
    rw (
      number16-reads.found (omega arith) (spans-first (bytes2 1) (16 ∷ times 16 a_rule) span),
      count.found (omega arith, omega arith) (spans-first (16 ∷ []) (times 16 a_rule) rest),
      many-same (rule-takes 16) the_rule a_rule rule-read 16 (spans-rest (16 ∷ []) rest),
    )

longest-book : Longest ByteLayouts.book 5480
unfolding ByteLayouts.book book_fields book_bytes
longest-book =
    framed-longest book-takes the_book book_bytes
    (omega (arith, length-append (bytes2 1) (16 ∷ times 16 a_rule), length-bytes2 1, times-length 16 a_rule, rule-length))
    (omega arith) book-read

in_order : total_order (replicate 16 the_rule) ≡ some (up_from 0 16)
unfolding everything the_rule
in_order = refl

pub lengths : Lengths
unfolding judge_book longest-book framed-longest the_book
lengths =
    record {
      image = longest-image;
      book = longest-book;
      log = longest-log;
      ordered = (up_from 0 16, rw (longest-book.read, in_order));
    }
