-- What the exported calls answer: an answer of the specification as one word, and what each call leaves in what it was lent.
use Rattle.std.specs.Prelude.{◌≡◌, ◌≢◌, List, ℕ, ◌+◌, ◌*◌, ◌/◌, ◌%◌}
use Rattle.meaning.specs.Covers.{Outcome}
use Rattle.meaning.specs.EntryPoints as EntryPoints
use Rattle.meaning.specs.EntryPoints.{refused_with, ran, run, CheckAnswer, refused_check, rule_count, check_book}
use Rattle.meaning.specs.EntryPoints.{refusal_number, outcome_number, reason_number}

-- bits 0..7 the refusal's number (0: none), 8..15 the outcome's, 16..23 the reason's, 32..63 the number of considerations; a refused run
-- has outcome, reason and count 0
unfoldable pub answer_word : EntryPoints.Answer → ℕ
answer_word (refused_with r) = refusal_number r
answer_word (ran o n) = outcome_number o * 256 + reason_number o * 65536 + n * 4294967296

-- bits 0..7 the refusal's number (0: none), 32..63 the rule count
unfoldable pub check_word : CheckAnswer → ℕ
check_word (refused_check r) = refusal_number r
check_word (rule_count n) = n * 4294967296

-- the numbers that are read off the bits of a word: how a caller takes it apart
pub record Bits (w refusal outcome reason count : ℕ) : Type 0 where
  pub refusal_bits : w % 256 ≡ refusal
  pub outcome_bits : w / 256 % 256 ≡ outcome
  pub reason_bits : w / 65536 % 256 ≡ reason
  pub no_bits : w / 16777216 % 256 ≡ 0
  pub count_bits : w / 4294967296 ≡ count

-- every word comes apart again into the numbers that it was made of
pub record EveryWord : Type 0 where
  pub of_refused_run : (r : EntryPoints.Refusal) → Bits (answer_word (refused_with r)) (refusal_number r) 0 0 0
  pub of_run : (o : Outcome) (n : ℕ) → Bits (answer_word (ran o n)) 0 (outcome_number o) (reason_number o) n
  pub of_refused_check : (r : EntryPoints.Refusal) → Bits (check_word (refused_check r)) (refusal_number r) 0 0 0
  pub of_check : (n : ℕ) → Bits (check_word (rule_count n)) 0 0 0 n

-- the word, every byte of the output and every byte of the working room afterwards are those of the specification
pub record RunAnswered (image book log before after xs ys : List ℕ) (w : ℕ) : Type 0 where
  pub word : w ≡ answer_word (run image book log before xs).answer
  pub output : after ≡ (run image book log before xs).output
  pub room : ys ≡ (run image book log before xs).room

-- the word and every byte of the output afterwards are those of the specification
pub record CheckAnswered (book before after : List ℕ) (w : ℕ) : Type 0 where
  pub word : w ≡ check_word (check_book book before).answer
  pub output : after ≡ (check_book book before).output

-- no refused call changes a lent byte: where a word tells a refusal, what was lent to be written is as it was
pub record RefusedLeaves : Type 0 where
  pub of_run : (image book log before after xs ys : List ℕ) (w : ℕ) → RunAnswered image book log before after xs ys w → w % 256 ≢ 0
      → (after ≡ before) × (ys ≡ xs)
  pub of_check : (book before after : List ℕ) (w : ℕ) → CheckAnswered book before after w → w % 256 ≢ 0 → after ≡ before
