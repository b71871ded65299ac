-- The words of answers. An answer of the engine, with its word, is the specification's; and the word of every run and of every book check
-- comes apart again into the numbers that it was made of, since each of them fits its bits.
use mathlib.Core.Path.{◌≡◌}
use mathlib.Core.List.{List}
use Prim.Native.Nat.{ℕ, ◌+◌, ◌*◌, ◌≤◌}
use native.Mathlib.Omega.{arith}
use Rattle.meaning.specs.Covers as Covers
use Rattle.meaning.specs.Covers.{commit, rolled_back, step_limit, failed, no_such_row, full, handles_used_up, sum_out_of_range}
use Rattle.meaning.specs.EntryPoints as EntryPoints
use Rattle.meaning.specs.EntryPoints.{refusal_number, outcome_number, failure_number, reason_number}
use Rattle.meaning.specs.EntryPoints.{output_too_short, room_too_short, image_malformed, book_malformed, precedes_cycle}
use Rattle.meaning.specs.EntryPoints.{log_malformed, input_too_long}
use Rattle.engine.specs.Answers.{Answer, Checked, answer_meant, check_meant, Runs, Checks}
use Rattle.mordashun_c.specs.Answered.{answer_word, check_word, Bits, EveryWord, RunAnswered, CheckAnswered}

-- ---- Numbers are small

pub outcome-small : (o : Covers.Outcome) → outcome_number o ≤ 3
unfolding outcome_number
outcome-small commit = omega arith
outcome-small rolled_back = omega arith
outcome-small step_limit = omega arith
outcome-small (failed r) = omega arith

failure-small : (r : Covers.Reason) → failure_number r ≤ 4
unfolding failure_number
failure-small no_such_row = omega arith
failure-small full = omega arith
failure-small handles_used_up = omega arith
failure-small sum_out_of_range = omega arith

pub reason-small : (o : Covers.Outcome) → reason_number o ≤ 4
unfolding reason_number
reason-small commit = omega arith
reason-small rolled_back = omega arith
reason-small step_limit = omega arith
reason-small (failed r) = failure-small r

-- ---- The engine's answers

pub run-answered : {image book log before after xs ys : List ℕ} {a : Answer} {w : ℕ} → Runs image book log before after xs ys a
    → w ≡ answer_word (answer_meant a) → RunAnswered image book log before after xs ys w
run-answered r e = record { word = rw r.result e; output = rw r.result; room = rw r.result }

pub check-answered : {book before after : List ℕ} {a : Checked} {w : ℕ} → Checks book before after a → w ≡ check_word (check_meant a)
    → CheckAnswered book before after w
check-answered r e = record { word = rw r.result e; output = rw r.result }

-- ---- The numbers of a word

-- four numbers that fit their bits
apart : (r o n c w : ℕ) → r ≤ 255 → o ≤ 255 → n ≤ 255 → w ≡ r + o * 256 + n * 65536 + c * 4294967296 → Bits w r o n c
apart r o n c w a b d e =
    record {
      refusal_bits = omega arith;
      outcome_bits = omega arith;
      reason_bits = omega arith;
      no_bits = omega arith;
      count_bits = omega arith;
    }

refusal-small : (r : EntryPoints.Refusal) → refusal_number r ≤ 7
unfolding refusal_number
refusal-small output_too_short = omega arith
refusal-small room_too_short = omega arith
refusal-small image_malformed = omega arith
refusal-small book_malformed = omega arith
refusal-small precedes_cycle = omega arith
refusal-small log_malformed = omega arith
refusal-small input_too_long = omega arith

pub every-word : EveryWord
unfolding answer_word check_word
every-word = record {
  of_refused_run = λ r. let small = refusal-small r in apart _ _ _ _ _ (omega arith) (omega arith) (omega arith) (omega arith);
  of_run = λ o n.
      let small = outcome-small o in
      let few = reason-small o in
      apart _ _ _ _ _ (omega arith) (omega arith) (omega arith) (omega arith);
  of_refused_check = λ r. let small = refusal-small r in apart _ _ _ _ _ (omega arith) (omega arith) (omega arith) (omega arith);
  of_check = λ n. apart _ _ _ _ _ (omega arith) (omega arith) (omega arith) (omega arith);
}
