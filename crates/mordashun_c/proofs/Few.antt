-- A book that is read has at most 16 rules, so a book check that is not refused tells no more.
use Rattle.std.specs.Prelude.{if◌then◌else◌, Ok}
use mathlib.Core.Path.{◌≡◌, refl, ap}
use mathlib.Core.Bool.{Bool, true, false}
use mathlib.Core.List.{List}
use Prim.Native.Nat.{ℕ, ◌≤◌}
use native.Mathlib.Omega.{arith}
use lib.Dec.{ltb}
use lib.ListN.{length}
use Rattle.meaning.specs.Covers.{most_rules}
use Rattle.meaning.specs.EntryPoints.{JudgedBook, refused_book, accepted_book, judge_book, CheckResult, CheckAnswer, rule_count}
use Rattle.meaning.specs.EntryPoints.{checked, check_book, check_output, output_too_short}
use Rattle.meaning.proofs.RunsFit.{judged-read}
use Rattle.meaning.proofs.RuleBytes.{rules-read}
use Rattle.engine.specs.Answers.{check_meant, Checks}

pub checks-few : {book before after : List ℕ} {n : ℕ} → Checks book before after (Ok n) → n ≤ most_rules
unfolding check_book checked check_meant
checks-few {book} {before} {after} {n} c = go (ltb (length before) check_output) (judge_book book) refl (ap answered c.result)
  where
    answered : CheckResult → CheckAnswer
    answered r = r.answer

    go : (t : Bool) (j : JudgedBook) → judge_book book ≡ j
        → answered (if t then checked before (refused_book output_too_short) else checked before j) ≡ rule_count n → n ≤ most_rules
    go true j e f = absurd (let z : ◌≡◌ {A = ℕ} 0 1 = cc in omega arith)
    go false (refused_book r) e f = absurd (let z : ◌≡◌ {A = ℕ} 0 1 = cc in omega arith)
    go false (accepted_book b order) e f =
        let few = (rules-read book b (judged-read book b order e).0).0 in
        let same : length b.rules ≡ n = cc in
        omega arith
