-- What is said of a book, by the answers of its judge and of its plan: one that its judge refuses is malformed, one without an order has a
-- cycle, and any other is accepted with its rules and their order. So the count of its rules tells whether it is accepted.
use Rattle.std.specs.Prelude.{if◌then◌else◌, Option, Some, None, Ok, Err}
use mathlib.Core.Path.{◌≡◌, refl, sym, ◌∙◌}
use mathlib.Core.List.{List, []}
use Prim.Native.Nat.{ℕ, ◌<◌, ◌≤◌}
use borrow.Author.Tests.{lt-ltb, le-ltb}
use native.Mathlib.Omega.{arith}
use lib.Dec.{ltb}
use lib.ListN.{length, take}
use Rattle.meaning.specs.Base.{in_front_of}
use Rattle.meaning.specs.Reading.{many, read_all}
use Rattle.meaning.specs.Covers as Covers
use Rattle.meaning.specs.ByteLayouts as ByteLayouts
use Rattle.meaning.specs.ByteLayouts.{rule}
use Rattle.meaning.specs.EntryPoints.{Refusal, JudgedBook, refused_book, accepted_book, judge_book, checked, check_book, rule_in, rule_bytes}
use Rattle.meaning.specs.EntryPoints.{book_malformed, precedes_cycle, rule_after, first_rule}
use Rattle.meaning.proofs.Parsing.{many-each}
use Rattle.meaning.proofs.RuleBytes.{rules-read}
use Rattle.meaning.proofs.RunsFit.{judged-read}
use Rattle.meaning.proofs.Theorems.{lengths}
use Rattle.book.specs.Books.{WellFormed, Told, book_or}
use Rattle.book.specs.declared.Frame.{Frame}
use Rattle.order.specs.Order.{order_meant}
use Rattle.plan.specs.Plans.{rules_in, Planned}
use Rattle.plan.specs.declared.Plan.{Plan}
use Rattle.engine.specs.Answers as Answers
use Rattle.engine.specs.Answers.{refusal_meant, check_meant, Checks}
use Rattle.engine.specs.declared.Refusal.TheVariants.{Output, Book, Cycle}

-- a book that its judge refuses
pub refused-malformed : (s : List ℕ) (r : Option Frame) → book_or s r ≡ read_all ByteLayouts.book s → r ≡ None
    → judge_book s ≡ refused_book book_malformed
unfolding judge_book
refused-malformed s r e is = rw (← e, is)

-- what the judge tells, by its answer
pub told : (s : List ℕ) {r : Option Frame} {frame : Frame} → Told s r → r ≡ Some frame → WellFormed s frame.limit frame.count
told s t is = rw is at t

-- a well-formed book of n rules, with its plan
module _ (s : List ℕ) (limit n : ℕ) (plan : Plan) (w : WellFormed s limit n) (p : Planned s n plan) where
  pub without-order : plan.order ≡ None → judge_book s ≡ refused_book precedes_cycle
  unfolding judge_book order_meant
  without-order e = rw (w.book, ← p.ordered, e)

  pub with-order : {order : List ℕ} → plan.order ≡ Some order
      → judge_book s ≡ accepted_book (record { limit = limit; rules = rules_in s n }) (take n order)
  unfolding judge_book order_meant
  with-order e = rw (w.book, ← p.ordered, e)

  pub rules-counted : length (rules_in s n) ≡ n
  rules-counted = (many-each {P = λ x. Unit {0}} (λ bytes at x next e. tt) n s 8 w.read).0

-- ---- A book check

module _ (s before : List ℕ) where
  pub output-short : length before < 16 → Checks s before before (Err Output)
  unfolding check_book checked check_meant refusal_meant
  output-short h = record { result = rw (lt-ltb _ _ h) }

  pub check-malformed : 16 ≤ length before → judge_book s ≡ refused_book book_malformed → Checks s before before (Err Book)
  unfolding check_book checked check_meant refusal_meant
  check-malformed h e = record { result = rw (le-ltb _ _ h, e) }

  pub check-cycle : 16 ≤ length before → judge_book s ≡ refused_book precedes_cycle → Checks s before before (Err Cycle)
  unfolding check_book checked check_meant refusal_meant
  check-cycle h e = record { result = rw (le-ltb _ _ h, e) }

  pub check-rules : (limit n : ℕ) (plan : Plan) → WellFormed s limit n → Planned s n plan → 16 ≤ length before → {order : List ℕ}
      → plan.order ≡ Some order → (after : List ℕ) → after ≡ in_front_of (take n order) before → Checks s before after (Ok n)
  unfolding check_book checked check_meant
  check-rules limit n plan w p h e after is = record {
    result = rw (le-ltb _ _ h, with-order s limit n plan w p e, rules-counted s limit n plan w p, is);
  }

-- ---- The count of a book's rules

-- a book of n rules is accepted, so they are few, and it is short
pub record Counts (s : List ℕ) (n : ℕ) : Type 0 where
  pub book : Covers.Book
  pub order : List ℕ
  pub is : judge_book s ≡ accepted_book book order
  pub counted : length book.rules ≡ n
  pub few : n ≤ 16
  pub short : length s ≤ 5480

module _ (s : List ℕ) {count : Option ℕ} (e : count ≡ Answers.rule_count_in (judge_book s)) where
  pub counts : {n : ℕ} → count ≡ Some n → Counts s n
  unfolding Answers.rule_count_in
  counts {n} is = go (judge_book s) refl (sym is ∙ e)
    where
      go : (j : JudgedBook) → judge_book s ≡ j → Some n ≡ Answers.rule_count_in j → Counts s n
      go (refused_book r) judged same = absurd (let z : ◌≡◌ {A = ℕ} 0 1 = cc in omega arith)
      go (accepted_book b order) judged same =
          let read = (judged-read s b order judged).0 in
          let all : length b.rules ≡ n = cc in
          record {
            book = b;
            order = order;
            is = judged;
            counted = all;
            few = omega (arith, (rules-read s b read).0);
            short = lengths.book.at_most s b read;
          }

  -- and a book without a count is refused
  pub uncounted : count ≡ None → (r : Refusal) × (judge_book s ≡ refused_book r)
  unfolding Answers.rule_count_in
  uncounted is = go (judge_book s) refl (sym is ∙ e)
    where
      go : (j : JudgedBook) → judge_book s ≡ j → None ≡ Answers.rule_count_in j → (r : Refusal) × (judge_book s ≡ refused_book r)
      go (refused_book r) judged same = (r, judged)
      go (accepted_book b order) judged same = absurd (let z : ◌≡◌ {A = ℕ} 0 1 = cc in omega arith)

-- ---- The bytes of a rule

module _ (s : List ℕ) (k : ℕ) where
  pub no-rule : (r : Refusal) → judge_book s ≡ refused_book r → [] ≡ rule_bytes s k
  unfolding rule_bytes rule_in
  no-rule r e = rw e

  pub rule-given : {n : ℕ} → Counts s n → {bytes : List ℕ}
      → bytes ≡ (if ltb k n then rule_after s n (many k (rule n) s first_rule) else []) → bytes ≡ rule_bytes s k
  unfolding rule_bytes rule_in
  rule-given c is = rw (c.is, c.counted) is
