-- Entry points and what they say: refusals in their order, answers with their numbers, and what each call leaves in what it was lent.
use Rattle.std.specs.Prelude.{List, [], ◌∷◌, ◌++◌, map, ℕ, zero, suc, ◌+◌, ◌-◌, ◌/◌, ◌%◌, min, ℤ, pos, negsuc, ltb, length, take, drop, replicate, if◌then◌else◌}
use Rattle.meaning.specs.Base.{maybe, in_front_of, ascii}
use Rattle.meaning.specs.Reading.{Read, bad, got, many, number32, read_all}
use Rattle.meaning.specs.Covers.{Row, Image, Book, Outcome, Reason}
use Rattle.meaning.specs.Covers.{commit, rolled_back, step_limit, failed, no_such_row, full, handles_used_up, sum_out_of_range}
use Rattle.meaning.specs.ByteLayouts
use Rattle.meaning.specs.ByteLayouts.{image_bytes}
use Rattle.meaning.specs.Processing.{Ending, process}
use Rattle.meaning.specs.Processing.TotalOrder.{total_order}

-- ---- Lengths

-- a run is lent an output of at least 1,355 bytes, the longest image
abbrev pub run_output : ℕ
run_output = 1355

-- and working room of at least 65,536
abbrev pub working_room : ℕ
working_room = 65536

-- a book check is lent an output of at least 16
abbrev pub check_output : ℕ
check_output = 16

-- the program takes an input of at most 16,384 bytes
abbrev pub most_input : ℕ
most_input = 16384

-- ---- Refusals

pub data Refusal : Type 0 where
  output_too_short room_too_short image_malformed book_malformed precedes_cycle log_malformed input_too_long : Refusal

unfoldable pub refusal_number : Refusal → ℕ
refusal_number output_too_short = 1
refusal_number room_too_short = 2
refusal_number image_malformed = 3
refusal_number book_malformed = 4
refusal_number precedes_cycle = 5
refusal_number log_malformed = 6
refusal_number input_too_long = 7

-- ---- Outcomes and reasons

unfoldable pub outcome_number : Outcome → ℕ
outcome_number commit = 0
outcome_number rolled_back = 1
outcome_number step_limit = 2
outcome_number (failed r) = 3

unfoldable pub failure_number : Reason → ℕ
failure_number no_such_row = 1
failure_number full = 2
failure_number handles_used_up = 3
failure_number sum_out_of_range = 4

-- 0 unless the outcome is 3
unfoldable pub reason_number : Outcome → ℕ
reason_number commit = 0
reason_number rolled_back = 0
reason_number step_limit = 0
reason_number (failed r) = failure_number r

-- ---- What is decided of image, book and log

-- a book with its total order, or refusal 4 or 5
pub data JudgedBook : Type 0 where
  refused_book : Refusal → JudgedBook
  accepted_book : Book → List ℕ → JudgedBook

unfoldable pub judge_book : List ℕ → JudgedBook
judge_book book =
    maybe (read_all ByteLayouts.book book) (refused_book book_malformed) (λ b.
    maybe (total_order b.rules) (refused_book precedes_cycle) (accepted_book b))

-- a run of an accepted image, or a refusal
pub data Verdict : Type 0 where
  refused : Refusal → Verdict
  accepted : Image → Ending → Verdict

-- refusal 6, or the run
unfoldable pub with_book : List ℕ → Image → JudgedBook → Verdict
with_book log start (refused_book r) = refused r
with_book log start (accepted_book b order) =
    maybe (read_all ByteLayouts.log log) (refused log_malformed) (λ operations.
    accepted start (process b.rules order b.limit operations start))

-- refusals 3 to 6 in their order
unfoldable pub verdict : List ℕ → List ℕ → List ℕ → Verdict
verdict image book log = maybe (read_all ByteLayouts.image image) (refused image_malformed) (λ start. with_book log start (judge_book book))

-- the start image unless the outcome is 0
unfoldable pub handed_back : Outcome → Image → Image → Image
handed_back commit start end = end
handed_back rolled_back start end = start
handed_back step_limit start end = start
handed_back (failed r) start end = start

-- ---- A run

-- a refusal, or the outcome and the number of considerations
pub data Answer : Type 0 where
  refused_with : Refusal → Answer
  ran : Outcome → ℕ → Answer

unfoldable pub answer_of : Verdict → Answer
answer_of (refused r) = refused_with r
answer_of (accepted start e) = ran e.outcome e.count

-- a refused run reports count 0
unfoldable pub count_of : Answer → ℕ
count_of (refused_with r) = 0
count_of (ran o n) = n

-- the image stands at the front of the output
unfoldable pub written : Verdict → List ℕ
written (refused r) = []
written (accepted start e) = image_bytes (handed_back e.outcome start e.image)

-- the first 65,536 bytes of working room are then zero
unfoldable pub cleared : Verdict → List ℕ
cleared (refused r) = []
cleared (accepted start e) = replicate working_room 0

-- an answer, and the bytes of output and working room afterwards
pub record RunResult : Type 0 where
  pub answer : Answer
  pub output : List ℕ
  pub room : List ℕ

unfoldable pub result_of : Verdict → List ℕ → List ℕ → RunResult
result_of v output room = record { answer = answer_of v; output = in_front_of (written v) output; room = in_front_of (cleared v) room }

unfoldable pub run : List ℕ → List ℕ → List ℕ → List ℕ → List ℕ → RunResult
run image book log output room =
    if ltb (length output) run_output then result_of (refused output_too_short) output room else
    if ltb (length room) working_room then result_of (refused room_too_short) output room else
    result_of (verdict image book log) output room

-- ---- A book check

-- refusal 1, 4 or 5, or the rule count
pub data CheckAnswer : Type 0 where
  refused_check : Refusal → CheckAnswer
  rule_count : ℕ → CheckAnswer

pub record CheckResult : Type 0 where
  pub answer : CheckAnswer
  pub output : List ℕ

-- the rules' numbers in total order at the front of the output, one byte each, inactive rules included
unfoldable pub checked : List ℕ → JudgedBook → CheckResult
checked output (refused_book r) = record { answer = refused_check r; output = output }
checked output (accepted_book b order) = record { answer = rule_count (length b.rules); output = in_front_of order output }

unfoldable pub check_book : List ℕ → List ℕ → CheckResult
check_book book output =
    if ltb (length output) check_output then checked output (refused_book output_too_short) else checked output (judge_book book)

-- ---- The bytes of rule k

-- length, version, step limit and rule count come first
abbrev pub first_rule : ℕ
first_rule = 8

-- the bytes from a place up to where a value ends
unfoldable pub bytes_read : {A : Type 0} → List ℕ → ℕ → Read A → List ℕ
bytes_read s from bad = []
bytes_read s from (got a end) = take (end - from) (drop from s)

-- after k rules of a book of n rules
unfoldable pub rule_after : {A : Type 0} → List ℕ → ℕ → Read A → List ℕ
rule_after book n bad = []
rule_after book n (got a from) = bytes_read book from (ByteLayouts.rule n book from)

-- empty if the book has refusal 4 or 5 or there is no rule k
unfoldable pub rule_in : List ℕ → ℕ → JudgedBook → List ℕ
rule_in book k (refused_book r) = []
rule_in book k (accepted_book b order) =
    let n = length b.rules in
    if ltb k n then rule_after book n (many k (ByteLayouts.rule n) book first_rule) else []

unfoldable pub rule_bytes : List ℕ → ℕ → List ℕ
rule_bytes book k = rule_in book k (judge_book book)

-- ---- The program

-- where the part at the front ends: after as many bytes as its length counts, or with all that is left
unfoldable pub part_end : Read ℕ → ℕ → ℕ
part_end bad left = left
part_end (got n next) left = min (next + n) left

unfoldable pub first_part : List ℕ → ℕ
first_part s = part_end (number32 s 0) (length s)

-- image, book and log, one after another; the log takes the rest
unfoldable pub verdict_on : List ℕ → Verdict
verdict_on input =
    let image = take (first_part input) input in
    let more = drop (first_part input) input in
    verdict image (take (first_part more) more) (drop (first_part more) more)

-- in decimal, at most k digits
unfoldable pub digits : ℕ → ℕ → List ℕ
digits zero n = []
digits (suc k) n = if ltb n 10 then (48 + n) ∷ [] else digits k (n / 10) ++ ((48 + n % 10) ∷ [])

unfoldable pub decimal : ℕ → List ℕ
decimal n = digits 10 n

-- with a minus sign where it is below 0
unfoldable pub signed_decimal : ℤ → List ℕ
signed_decimal (pos n) = decimal n
signed_decimal (negsuc n) = ascii "-" ++ decimal (suc n)

-- words with a space in front of each
unfoldable pub spaced : List (List ℕ) → List ℕ
spaced [] = []
spaced (w ∷ ws) = ascii " " ++ w ++ spaced ws

-- a line of a word and more words
unfoldable pub line : List ℕ → List (List ℕ) → List ℕ
line w ws = w ++ spaced ws ++ ascii "\n"

-- handle, table, four values
unfoldable pub row_lines : List Row → List ℕ
row_lines [] = []
row_lines (r ∷ rs) = line (decimal r.handle) (decimal r.table ∷ map signed_decimal r.values) ++ row_lines rs

-- outcome, reason, considerations, next handle, row count; then a line for each row of the output image
unfoldable pub run_lines : Outcome → ℕ → Image → List ℕ
run_lines o n m =
    line (decimal (outcome_number o)) (map decimal (reason_number o ∷ n ∷ m.next ∷ length m.rows ∷ [])) ++ row_lines m.rows

-- `refused N`
unfoldable pub refusal_line : Refusal → List ℕ
refusal_line r = line (ascii "refused") (decimal (refusal_number r) ∷ [])

unfoldable pub lines : Verdict → List ℕ
lines (refused r) = refusal_line r
lines (accepted start e) = run_lines e.outcome e.count (handed_back e.outcome start e.image)

-- what is printed for what stands on standard input: 7 comes before all other refusals
unfoldable pub printed : List ℕ → List ℕ
printed input = if ltb most_input (length input) then refusal_line input_too_long else lines (verdict_on input)
