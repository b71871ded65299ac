-- What is read of a slice stands in it: a layout ends no earlier than it begins, and inside the slice. It is so of one byte, and of what
-- is read on from there; so it is of every layout of a rule.
use Rattle.std.specs.Prelude.{if◌then◌else◌, Option, Some}
use mathlib.Core.Path.{◌≡◌, sym, ap, ◌∙◌}
use mathlib.Core.Bool.{Bool, true, false, ◌&&◌}
use mathlib.Core.List.{List}
use Prim.Native.Nat.{ℕ, zero, suc, ◌+◌, ◌-◌, ◌^◌, ◌≤◌, ◌<◌}
use native.Mathlib.Omega.{arith}
use borrow.Author.Tests.{leb-true, leb-false}
use lib.Count.{ones}
use lib.Dec.{eqb, leb, ltb}
use lib.ListN.{length}
use Rattle.meaning.specs.Base.{bit}
use Rattle.meaning.specs.Reading.{Read, bad, got, Parser, on_from, byte_at, byte_within, byte, number16, number32, many}
use Rattle.meaning.specs.Covers as Covers
use Rattle.meaning.specs.ByteLayouts as ByteLayouts
use Rattle.meaning.specs.ByteLayouts.{value, table, column, mask, columns, pair, expression_of, expression, rule}
use Rattle.meaning.proofs.Parsing.{inside}
use Rattle.words.proofs.Laws.{split, byte-within-yes, byte-within-low, byte-within-high}
use Rattle.book.specs.Books.{rule_or}
use Rattle.book.specs.declared.Rule.{Rule}

-- what was read from a place on ends there or after it, and inside the slice
pub data Inside {A : Type 0} (s : List ℕ) (at : ℕ) : Read A → Type 0 where
  nothing : Inside s at bad
  until : {x : A} {next : ℕ} → at ≤ next → next ≤ length s → Inside s at (got x next)

module _ {A : Type 0} {s : List ℕ} {at : ℕ} where
  ends : {x : A} {next : ℕ} → Inside s at (got x next) → (at ≤ next) × (next ≤ length s)
  ends (until from to) = (from, to)

  pub inside-ends : {r : Read A} {x : A} {next : ℕ} → Inside s at r → r ≡ got x next → (at ≤ next) × (next ≤ length s)
  inside-ends i e = ends (rw e at i)

  earlier : {mid : ℕ} {r : Read A} → at ≤ mid → Inside s mid r → Inside s at r
  earlier h nothing = nothing
  earlier h (until {x} {next} from to) = until {next = next} (omega arith) to

  here : {x : A} → at ≤ length s → Inside s at (got x at)
  here h = until {next = at} (omega arith) h

  -- one of two
  either : (t : Bool) (p q : Parser A) → Inside s at (p s at) → Inside s at (q s at) → Inside s at ((if t then p else q) s at)
  either true p q i j = i
  either false p q i j = j

  if-inside : (t : Bool) {r : Read A} → Inside s at r → Inside s at (if t then r else bad)
  if-inside true i = i
  if-inside false i = nothing

-- and what is read on from there
on : {A B : Type 0} {s : List ℕ} {at : ℕ} {r : Read A} (f : A → ℕ → Read B) → Inside s at r
    → ((x : A) (next : ℕ) → next ≤ length s → Inside s next (f x next)) → Inside s at (on_from r f)
on f nothing g = nothing
on f (until {x} {next} from to) g = earlier from (g x next to)

module _ {A : Type 0} (s : List ℕ) (p : Parser A) (each : (at : ℕ) → Inside s at (p s at)) where
  many-inside : (n at : ℕ) → at ≤ length s → Inside s at (many n p s at)
  unfolding many
  many-inside zero at h = here h
  many-inside (suc n) at h = on _ (each at) (λ x k l. on _ (many-inside n k l) (λ xs e m. here m))

-- ---- Bytes and numbers

module _ (s : List ℕ) where
  byte-within-inside : (lo hi at : ℕ) → hi < 256 → Inside s at (byte_within lo hi s at)
  byte-within-inside lo hi at h =
      split (leb lo (byte_at s at))
      (λ low.
      split (leb (byte_at s at) hi)
      (λ high.
      let small = leb-true (byte_at s at) hi high in
      let stands = inside s at (omega arith) in
      rw (byte-within-yes lo hi s at (leb-true lo (byte_at s at) low) small) (until {next = at + 1} (omega arith) (omega arith)))
      (λ high. rw (byte-within-high lo hi s at (leb-false (byte_at s at) hi high)) nothing))
      (λ low. rw (byte-within-low lo hi s at (leb-false lo (byte_at s at) low)) nothing)

  byte_inside : (at : ℕ) → Inside s at (byte s at)
  unfolding byte
  byte_inside at = byte-within-inside 0 255 at (omega arith)

  pub number16-inside : (at : ℕ) → Inside s at (number16 s at)
  unfolding number16
  number16-inside at = on _ (byte_inside at) (λ high k _. on _ (byte_inside k) (λ low e l. here l))

  value-inside : (at : ℕ) → Inside s at (value s at)
  unfolding value number32
  value-inside at =
      on _ (on _ (number16-inside at) (λ high k _. on _ (number16-inside k) (λ low e l. here l))) (λ n e l. here l)

  table-inside : (at : ℕ) → Inside s at (table s at)
  unfolding table
  table-inside at = byte-within-inside 0 3 at (omega arith)

  column-inside : (at : ℕ) → Inside s at (column s at)
  unfolding column
  column-inside at = byte-within-inside 0 3 at (omega arith)

  mask-inside : (at : ℕ) → Inside s at (mask s at)
  unfolding mask
  mask-inside at = byte-within-inside 1 15 at (omega arith)

-- ---- Expressions

module _ (s : List ℕ) where
  pair_inside : (at : ℕ) → Inside s at (pair s at)
  unfolding pair
  pair_inside at = on _ (column-inside s at) (λ own k _. on _ (column-inside s k) (λ other e l. here l))

  sum_inside : (at : ℕ) → Inside s at (ByteLayouts.sum s at)
  unfolding ByteLayouts.sum
  sum_inside at = on _ (column-inside s at) (λ c k _. on _ (value-inside s k) (λ v e l. here l))

  expression-of-inside : (n at : ℕ) → Inside s at (expression_of n s at)
  unfolding expression_of ByteLayouts.constant ByteLayouts.of_column
  expression-of-inside n at =
      either (eqb n 0) _ _ (on _ (value-inside s at) (λ v e l. here l))
      (either (eqb n 1) _ _ (on _ (column-inside s at) (λ c e l. here l))
      (either (eqb n 2) _ _ (sum_inside at) nothing))

  expression-inside : (at : ℕ) → Inside s at (expression s at)
  unfolding expression
  expression-inside at = on _ (byte_inside s at) (λ n k _. expression-of-inside n k)

-- ---- Terms and queries

module _ (s : List ℕ) (triggers : ℕ) where
  source-of-inside : (n at : ℕ) → at ≤ length s → Inside s at (ByteLayouts.source_of triggers n s at)
  unfolding ByteLayouts.source_of
  source-of-inside n at h =
      either (ltb n 4) _ _ (here h)
      (either (eqb n 4 && bit triggers 0) _ _ (here h)
      (either (eqb n 5 && bit triggers 1) _ _ (here h)
      (either (eqb n 6 && bit triggers 2) _ _ (here h)
      (either (eqb n 7 && bit triggers 2) _ _ (here h) nothing))))

  source-inside : (at : ℕ) → Inside s at (ByteLayouts.source triggers s at)
  unfolding ByteLayouts.source
  source-inside at = on _ (byte_inside s at) (λ n k l. source-of-inside n k l)

  matching-inside : (make : Covers.Source → List Covers.Pair → Covers.Term) (at : ℕ) → Inside s at (ByteLayouts.matching triggers make s at)
  unfolding ByteLayouts.matching
  matching-inside make at =
      on _ (source-inside at) (λ source k _.
      on _ (byte-within-inside s 1 4 k (omega arith)) (λ n j l.
      on _ (many-inside s pair (pair_inside s) n j l) (λ ps e m. here m)))

  against-constant-inside : (n at : ℕ) → Inside s at (ByteLayouts.against_constant triggers n s at)
  unfolding ByteLayouts.against_constant
  against-constant-inside n at = on _ (column-inside s at) (λ c k _. on _ (value-inside s k) (λ v e l. here l))

  against-column-inside : (n at : ℕ) → Inside s at (ByteLayouts.against_column triggers n s at)
  unfolding ByteLayouts.against_column
  against-column-inside n at = on _ (column-inside s at) (λ c k _. on _ (column-inside s k) (λ d e l. here l))

  term-of-inside : (n at : ℕ) → Inside s at (ByteLayouts.term_of triggers n s at)
  unfolding ByteLayouts.term_of
  term-of-inside n at =
      either (ltb n 6) _ _ (against-constant-inside n at)
      (either (ltb n 12) _ _ (against-column-inside (n - 6) at)
      (either (eqb n 12) _ _ (matching-inside Covers.Term.match at)
      (either (eqb n 13) _ _ (matching-inside Covers.Term.no_match at) nothing)))

  term-inside : (at : ℕ) → Inside s at (ByteLayouts.term triggers s at)
  unfolding ByteLayouts.term
  term-inside at = on _ (byte_inside s at) (λ n k _. term-of-inside n k)

  terms-inside : (at : ℕ) → Inside s at (ByteLayouts.terms triggers s at)
  unfolding ByteLayouts.terms
  terms-inside at =
      on _ (byte-within-inside s 0 4 at (omega arith)) (λ n k l. many-inside s (ByteLayouts.term triggers) term-inside n k l)

  query-inside : (at : ℕ) → Inside s at (ByteLayouts.query triggers s at)
  unfolding ByteLayouts.query
  query-inside at = on _ (source-inside at) (λ source k _. on _ (terms-inside k) (λ ts e l. here l))

-- ---- Actions and rules

module _ (s : List ℕ) (triggers : ℕ) where
  insert-row-inside : (at : ℕ) → Inside s at (ByteLayouts.insert_row triggers s at)
  unfolding ByteLayouts.insert_row
  insert-row-inside at =
      on _ (table-inside s at) (λ t k l. on _ (many-inside s value (value-inside s) 4 k l) (λ vs e m. here m))

  insert-from-query-inside : (at : ℕ) → Inside s at (ByteLayouts.insert_from_query triggers s at)
  unfolding ByteLayouts.insert_from_query
  insert-from-query-inside at =
      on _ (table-inside s at) (λ t k _.
      on _ (query-inside s triggers k) (λ q j l.
      on _ (many-inside s expression (expression-inside s) 4 j l) (λ es e m. here m)))

  delete-rows-inside : (at : ℕ) → Inside s at (ByteLayouts.delete_rows triggers s at)
  unfolding ByteLayouts.delete_rows
  delete-rows-inside at = on _ (table-inside s at) (λ t k _. on _ (terms-inside s triggers k) (λ ts e l. here l))

  update-rows-inside : (at : ℕ) → Inside s at (ByteLayouts.update_rows triggers s at)
  unfolding ByteLayouts.update_rows
  update-rows-inside at =
      on _ (table-inside s at) (λ t k _.
      on _ (mask-inside s k) (λ m j l.
      on _ (many-inside s expression (expression-inside s) (ones m) j l) (λ es i _.
      on _ (terms-inside s triggers i) (λ ts e l. here l))))

  action-of-inside : (n at : ℕ) → at ≤ length s → Inside s at (ByteLayouts.action_of triggers n s at)
  unfolding ByteLayouts.action_of
  action-of-inside n at h =
      either (eqb n 0) _ _ (here h)
      (either (eqb n 1) _ _ (insert-row-inside at)
      (either (eqb n 2) _ _ (insert-from-query-inside at)
      (either (eqb n 3) _ _ (delete-rows-inside at)
      (either (eqb n 4) _ _ (update-rows-inside at) nothing))))

  action-inside : (at : ℕ) → Inside s at (ByteLayouts.action triggers s at)
  unfolding ByteLayouts.action
  action-inside at = on _ (byte_inside s at) (λ n k l. action-of-inside n k l)

  condition-inside : (at : ℕ) → Inside s at (ByteLayouts.condition triggers s at)
  unfolding ByteLayouts.condition ByteLayouts.some_query
  condition-inside at =
      on _ (byte-within-inside s 0 1 at (omega arith)) (λ n k l.
      either (eqb n 0) _ _ (here l) (on _ (query-inside s triggers k) (λ q e m. here m)))

  actions-inside : (at : ℕ) → Inside s at (ByteLayouts.actions triggers s at)
  unfolding ByteLayouts.actions
  actions-inside at =
      on _ (byte-within-inside s 1 4 at (omega arith)) (λ n k l. many-inside s (ByteLayouts.action triggers) action-inside n k l)

  columns-inside : (at : ℕ) → Inside s at (columns triggers s at)
  unfolding columns
  columns-inside at = either (bit triggers 2) _ _ (mask-inside s at) (byte-within-inside s 0 0 at (omega arith))

pub rule-inside : (n : ℕ) (s : List ℕ) (at : ℕ) → Inside s at (rule n s at)
unfolding rule
rule-inside n s at =
    on _ (byte-within-inside s 0 1 at (omega arith)) (λ a k1 _.
    on _ (table-inside s k1) (λ t k2 _.
    on _ (byte-within-inside s 1 7 k2 (omega arith)) (λ g k3 _.
    on _ (columns-inside s g k3) (λ c k4 _.
    on _ (number16-inside s k4) (λ p k5 l.
    on _ (if-inside (ltb p (2 ^ n)) (here l)) (λ _ k6 _.
    on _ (condition-inside s g k6) (λ q k7 _.
    on _ (actions-inside s g k7) (λ acts e m. here m))))))))

-- by an answer of `rule_at`
pub rule-ends : (n : ℕ) (s : List ℕ) (at : ℕ) {r : Option (Rule × ℕ)} {rule : Rule} {next : ℕ} → rule_or s r ≡ ByteLayouts.rule n s at
    → r ≡ Some (rule, next) → (at ≤ next) × (next ≤ length s)
rule-ends n s at e is = inside-ends (rule-inside n s at) (sym e ∙ ap (λ (read : Option (Rule × ℕ)). rule_or s read) is)
