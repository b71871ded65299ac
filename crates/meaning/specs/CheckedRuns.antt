-- Checked runs: the cases of document 01, those marked * and M, N and O, and three more, P, Q and R. Each is proved by computing it.
use Rattle.std.specs.Prelude.{◌≡◌, refl, List, [], ◌∷◌, ◌++◌, ℕ, zero, suc, length, replicate}
use Rattle.std.specs.Int.Bits.{bit_or}
use Rattle.std.proofs.Common.{eq-eqb}
use Rattle.meaning.specs.Base.{ascii}
use Rattle.meaning.specs.Covers.{Row, commit, rolled_back, step_limit, failed, full, handles_used_up}
use Rattle.meaning.specs.ByteLayouts.{bytes4}
use Rattle.meaning.specs.RowOperations.{net, inserts, deletes, updates, nothing, inserted, updated}
use Rattle.meaning.specs.EntryPoints.{Answer, CheckAnswer, Verdict, refused_with, ran, refused_check, rule_count}
use Rattle.meaning.specs.EntryPoints.{verdict, answer_of, written, check_book, printed, image_malformed, precedes_cycle}
use Rattle.meaning.specs.Everything.{everything}

-- ---- How the bytes below are put together

-- the length, the version, the fields
pub part : List ℕ → List ℕ
part fields = bytes4 (suc (length fields)) ++ (1 ∷ fields)

-- rows of table 0, handles from h on, all values 0
pub rows_from : ℕ → ℕ → List ℕ
rows_from h zero = []
rows_from h (suc n) = bytes4 h ++ (0 ∷ replicate 16 0) ++ rows_from (suc h) n

-- ---- A run, and a book check

-- what is said of image, book and log, and the bytes of the image that is handed back
pub record Said : Type 0 where
  pub answer : Answer
  pub after : List ℕ

pub said : Verdict → Said
said v = record { answer = answer_of v; after = written v }

abbrev pub Run : List ℕ → List ℕ → List ℕ → Answer → List ℕ → Type 0
Run image book log answer after = said (verdict image book log) ≡ record { answer = answer; after = after }

-- into 16 bytes that held 99
abbrev pub Check : List ℕ → CheckAnswer → List ℕ → Type 0
Check book answer output = check_book book (replicate 16 99) ≡ record { answer = answer; output = output }

-- ---- The bytes of the cases

pub empty_book : List ℕ
empty_book = part (0 ∷ 1 ∷ 0 ∷ [])

pub empty_log : List ℕ
empty_log = part (0 ∷ 0 ∷ [])

-- an insert of zeros into table 0; a delete of row 1
pub an_insert : List ℕ
an_insert = 1 ∷ 0 ∷ replicate 16 0

pub a_delete : List ℕ
a_delete = 2 ∷ bytes4 1

-- one row in table 0, with a value in column 3
pub column3 : ℕ → List ℕ
column3 v = part (bytes4 2 ++ (0 ∷ 1 ∷ (bytes4 1 ++ (0 ∷ replicate 12 0) ++ bytes4 v)))

-- a row of a table, with a value in column 3
pub row3 : ℕ → ℕ → ℕ → List ℕ
row3 h t v = bytes4 h ++ (t ∷ replicate 12 0) ++ bytes4 v

-- sets it
pub set3 : ℕ → List ℕ
set3 v = part (0 ∷ 1 ∷ 3 ∷ (bytes4 1 ++ (8 ∷ bytes4 v)))

-- a rule on updates of column 3 that rolls back
pub rolls_back : List ℕ
rolls_back = part (0 ∷ 1 ∷ 1 ∷ 1 ∷ 0 ∷ 4 ∷ 8 ∷ 0 ∷ 0 ∷ 0 ∷ 1 ∷ 0 ∷ [])

-- a rule on updates of column 3 that adds 1 to it where it is below 5, under a limit
pub adds_one : ℕ → List ℕ
adds_one limit =
    part (0 ∷ limit ∷ 1 ∷ 1 ∷ 0 ∷ 4 ∷ 8 ∷ 0 ∷ 0 ∷ 0 ∷ 1 ∷ 4 ∷ 0 ∷ 8 ∷ 2 ∷ 3 ∷ (bytes4 1 ++ (1 ∷ 2 ∷ 3 ∷ bytes4 5)))

-- a rule on updates of column 3 that rolls back if a row of its table has more than 5 there
pub rolls_back_above5 : List ℕ
rolls_back_above5 = part (0 ∷ 1 ∷ 1 ∷ 1 ∷ 0 ∷ 4 ∷ 8 ∷ 0 ∷ 0 ∷ (1 ∷ 0 ∷ 1 ∷ 4 ∷ 3 ∷ bytes4 5) ++ (1 ∷ 0 ∷ []))

-- a rule on updates of column 3 that puts the old rows into table 1, and adds 1 to the column where it is below 2
pub keeps_old_rows : List ℕ
keeps_old_rows =
    part (0 ∷ 5 ∷ 1 ∷ 1 ∷ 0 ∷ 4 ∷ 8 ∷ 0 ∷ 0 ∷ 0 ∷ 2 ∷
    2 ∷ 1 ∷ 7 ∷ 0 ∷ 1 ∷ 0 ∷ 1 ∷ 1 ∷ 1 ∷ 2 ∷ 1 ∷ 3 ∷
    4 ∷ 0 ∷ 8 ∷ 2 ∷ 3 ∷ (bytes4 1 ++ (1 ∷ 2 ∷ 3 ∷ bytes4 2)))

-- two rows of table 0, each with the other's column 1 in column 0
pub crossed : List ℕ
crossed =
    part (bytes4 3 ++ (0 ∷ 2 ∷ (bytes4 1 ++ (0 ∷ bytes4 1) ++ bytes4 2 ++ replicate 8 0
    ++ bytes4 2 ++ (0 ∷ bytes4 2) ++ bytes4 1 ++ replicate 8 0)))

-- a rule on inserts into table 1 that deletes each row of table 0 whose column 0 is column 1 of one of them
pub deletes_crossed : List ℕ
deletes_crossed = part (0 ∷ 1 ∷ 1 ∷ 1 ∷ 1 ∷ 1 ∷ 0 ∷ 0 ∷ 0 ∷ 0 ∷ 1 ∷ 3 ∷ 0 ∷ 1 ∷ 12 ∷ 0 ∷ 1 ∷ 0 ∷ 1 ∷ [])

-- a rule that precedes those of a mask
pub rule_before : ℕ → List ℕ
rule_before mask = 1 ∷ 0 ∷ 1 ∷ 0 ∷ 0 ∷ mask ∷ 0 ∷ 1 ∷ 0 ∷ []

pub three : ℕ → ℕ → ℕ → List ℕ
three a b c = part (0 ∷ 100 ∷ 3 ∷ (rule_before a ++ rule_before b ++ rule_before c))

pub two : ℕ → ℕ → List ℕ
two a b = part (0 ∷ 100 ∷ 2 ∷ (rule_before a ++ rule_before b))

-- 64 rows from handle h on
pub full64 : ℕ → ℕ → List ℕ
full64 next h = part (bytes4 next ++ (0 ∷ 64 ∷ rows_from h 64))

-- few rows, and few handles left
pub near_the_end : List ℕ
near_the_end = part (bytes4 4294967294 ++ (0 ∷ 1 ∷ rows_from 1 1))

-- case O as document 01 has it
pub image_o : List ℕ
image_o =
    0 ∷ 0 ∷ 0 ∷ 112 ∷ 1 ∷ 0 ∷ 0 ∷ 0 ∷ 6 ∷ 0 ∷ 5 ∷
    0 ∷ 0 ∷ 0 ∷ 1 ∷ 0 ∷ 0 ∷ 0 ∷ 0 ∷ 7 ∷ 0 ∷ 0 ∷ 0 ∷ 1 ∷ 0 ∷ 0 ∷ 0 ∷ 10 ∷ 0 ∷ 0 ∷ 0 ∷ 0 ∷
    0 ∷ 0 ∷ 0 ∷ 2 ∷ 0 ∷ 0 ∷ 0 ∷ 0 ∷ 7 ∷ 0 ∷ 0 ∷ 0 ∷ 2 ∷ 0 ∷ 0 ∷ 0 ∷ 10 ∷ 0 ∷ 0 ∷ 0 ∷ 0 ∷
    0 ∷ 0 ∷ 0 ∷ 3 ∷ 1 ∷ 0 ∷ 0 ∷ 0 ∷ 7 ∷ 0 ∷ 0 ∷ 0 ∷ 1 ∷ 0 ∷ 0 ∷ 1 ∷ 245 ∷ 0 ∷ 0 ∷ 0 ∷ 0 ∷
    0 ∷ 0 ∷ 0 ∷ 4 ∷ 1 ∷ 0 ∷ 0 ∷ 0 ∷ 7 ∷ 0 ∷ 0 ∷ 0 ∷ 2 ∷ 0 ∷ 0 ∷ 1 ∷ 246 ∷ 0 ∷ 0 ∷ 0 ∷ 0 ∷
    0 ∷ 0 ∷ 0 ∷ 5 ∷ 1 ∷ 0 ∷ 0 ∷ 0 ∷ 8 ∷ 0 ∷ 0 ∷ 0 ∷ 1 ∷ 0 ∷ 0 ∷ 1 ∷ 247 ∷ 0 ∷ 0 ∷ 0 ∷ 0 ∷ []

pub book_o : List ℕ
book_o =
    0x00 ∷ 0x00 ∷ 0x00 ∷ 0x16 ∷ 0x01 ∷ 0x00 ∷ 0x64 ∷ 0x01 ∷ 0x01 ∷ 0x00 ∷ 0x04 ∷ 0x04 ∷ 0x00 ∷ 0x00 ∷ 0x00 ∷ 0x01 ∷ 0x03 ∷ 0x01 ∷
    0x01 ∷ 0x0C ∷ 0x06 ∷ 0x02 ∷ 0x00 ∷ 0x00 ∷ 0x01 ∷ 0x01 ∷ []

pub log_o : List ℕ
log_o =
    0x00 ∷ 0x00 ∷ 0x00 ∷ 0x0D ∷ 0x01 ∷ 0x00 ∷ 0x01 ∷ 0x03 ∷ 0x00 ∷ 0x00 ∷ 0x00 ∷ 0x02 ∷ 0x04 ∷ 0x00 ∷ 0x00 ∷ 0x00 ∷ 0x0B ∷ []

-- ---- The table

pub record CheckedRuns : Type 0 where
  -- inserted, updated: inserted
  pub A : (h m : ℕ) (r s t : Row) → r.handle ≡ h → s.handle ≡ h → net h (inserts r ∷ updates m s t ∷ []) ≡ inserted r.table
  -- inserted, deleted: nothing
  pub B : (h : ℕ) (r s : Row) → r.handle ≡ h → s.handle ≡ h → net h (inserts r ∷ deletes s ∷ []) ≡ nothing
  -- updated, updated: the union of the masks, the first old row
  pub C : (h m n : ℕ) (r s t u : Row) → r.handle ≡ h → t.handle ≡ h → net h (updates m r s ∷ updates n t u ∷ []) ≡ updated (bit_or m n) r
  -- column 0, then 2: mask 5
  pub C-mask : ◌≡◌ {A = ℕ} (bit_or 1 4) 5
  -- an update with the same value triggers
  pub D : Run (column3 0) rolls_back (set3 0) (ran rolled_back 1) (column3 0)
  -- three rules, 2 precedes 0: order 1, 2, 0
  pub E : Check (three 0 0 1) (rule_count 3) (1 ∷ 2 ∷ 0 ∷ replicate 13 99)
  -- 2 precedes 1: order 0, 2, 1
  pub F : Check (three 0 0 2) (rule_count 3) (0 ∷ 2 ∷ 1 ∷ replicate 13 99)
  -- 0 precedes 1 and 1 precedes 0: refusal 5
  pub G : Check (two 2 1) (refused_check precedes_cycle) (replicate 16 99)
  pub G-run : Run (column3 0) (two 2 1) empty_log (refused_with precedes_cycle) []
  -- limit 5: commit, count 5
  pub H : Run (column3 0) (adds_one 5) (set3 1) (ran commit 5) (column3 5)
  -- limit 4: outcome 2, count 4
  pub I : Run (column3 0) (adds_one 4) (set3 1) (ran step_limit 4) (column3 0)
  -- 64 rows; delete then insert: commit
  pub J : Run (full64 65 1) empty_book (part (0 ∷ 2 ∷ (a_delete ++ an_insert))) (ran commit 0) (full64 66 2)
  -- insert then delete: outcome 3, reason 2
  pub K : Run (full64 65 1) empty_book (part (0 ∷ 2 ∷ (an_insert ++ a_delete))) (ran (failed full) 0) (full64 65 1)
  -- next handle 4294967294, few rows: one insert commits; two give reason 3
  pub L : Run near_the_end empty_book (part (0 ∷ 1 ∷ an_insert)) (ran commit 0) (part (bytes4 4294967295 ++ (0 ∷ 2 ∷ (rows_from 1 1 ++ rows_from 4294967294 1))))
  pub L-two : Run near_the_end empty_book (part (0 ∷ 2 ∷ (an_insert ++ an_insert))) (ran (failed handles_used_up) 0) near_the_end
  -- empty book, empty log: commit, count 0, same image
  pub M : Run image_o empty_book empty_log (ran commit 0) image_o
  -- an empty slice as image: refusal 3
  pub N : Run [] empty_book empty_log (refused_with image_malformed) []
  -- whole
  pub O : printed (image_o ++ book_o ++ log_o) ≡ ascii "0 0 1 6 4\n1 0 7 1 10 0\n2 0 7 2 11 0\n3 1 7 1 501 0\n5 1 8 1 503 0\n"
  -- a rule whose condition does not hold is considered, and does nothing
  pub P : Run (column3 0) rolls_back_above5 (set3 1) (ran commit 1) (column3 1)
  -- a rule considered again is given only what was done since: its old row is then not the first one
  pub Q : Run (column3 0) keeps_old_rows (set3 1) (ran commit 2) (part (bytes4 4 ++ (0 ∷ 3 ∷ (row3 1 0 2 ++ row3 2 1 0 ++ row3 3 1 1))))
  -- all rows are chosen before one is deleted: of two that match each other, both go
  pub R : Run crossed deletes_crossed (part (0 ∷ 1 ∷ 1 ∷ 1 ∷ replicate 16 0)) (ran commit 1) (part (bytes4 4 ++ (0 ∷ 1 ∷ row3 3 1 0)))

pub checked_runs : CheckedRuns
unfolding everything said part rows_from empty_book empty_log an_insert a_delete column3 row3 set3 rolls_back adds_one rolls_back_above5 keeps_old_rows crossed deletes_crossed rule_before three two full64 near_the_end image_o book_o log_o
checked_runs =
    record {
      A = λ h m r s t e f. rw (eq-eqb r.handle h e, eq-eqb s.handle h f);
      B = λ h r s e f. rw (eq-eqb r.handle h e, eq-eqb s.handle h f);
      C = λ h m n r s t u e f. rw (eq-eqb r.handle h e, eq-eqb t.handle h f);
      C-mask = refl;
      D = refl;
      E = refl;
      F = refl;
      G = refl;
      G-run = refl;
      H = refl;
      I = refl;
      J = refl;
      K = refl;
      L = refl;
      L-two = refl;
      M = refl;
      N = refl;
      O = refl;
      P = refl;
      Q = refl;
      R = refl;
    }
