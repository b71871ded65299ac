-- The bytes of rule k are empty only where there is no such rule: where k rules of an accepted book were read, the next was read too, and
-- it took a byte at least.
use mathlib.Core.Path.{◌≡◌, refl, sym, ap, ◌∙◌}
use mathlib.Core.Logic.{◌↔◌, ◌⊎◌, inl, inr}
use mathlib.Core.Bool.{Bool, true, false}
use mathlib.Core.List.{List, [], ◌∷◌}
use mathlib.Core.Option.{some}
use Prim.Native.Nat.{ℕ, zero, suc, ◌+◌, ◌-◌, ◌≤◌, ◌<◌}
use native.Mathlib.Omega.{arith}
use lib.Dec.{ltb}
use lib.ListN.{length, take, drop, length-take, length-drop}
use borrow.Author.Tests.{ltb-true, ltb-false}
use Rattle.meaning.specs.Base.{within}
use Rattle.meaning.specs.Reading.{Parser, got, must, byte_at, byte_within, number16, many, read_all}
use Rattle.meaning.specs.Covers.{most_rules, most_steps, Book, Rule}
use Rattle.meaning.specs.ByteLayouts
use Rattle.meaning.specs.ByteLayouts.{framed}
use Rattle.meaning.specs.EntryPoints.{accepted_book, judge_book, first_rule, bytes_read, rule_after, rule_in, rule_bytes}
use Rattle.meaning.specs.Theorems.Refusals.{Malformed, HasCycle, NoRule}
use Rattle.meaning.proofs.Lists.{clash, same_some}
use Rattle.meaning.proofs.Parsing.{on-from-got, same-value, must-got, read-all, framed-got, if-got, within-true, inside, many-each}
use Rattle.meaning.proofs.Takes.{number16-takes, byte-takes, within-gives, rule-takes, book_fields}
use Rattle.meaning.proofs.Refusals.{Judged, unread, cyclic, fine, judged}

-- where many were read, those before the next and the next were
pub one_of : {A X : Type 0} (p : Parser A) (s : List ℕ) (k n at : ℕ) {xs : List A} {next : ℕ} → k < n → many n p s at ≡ got xs next
    → ((ys : List A) (from : ℕ) (x : A) (end : ℕ) → many k p s at ≡ got ys from → p s from ≡ got x end → X) → X
unfolding many
one_of p s k zero at l e on = absurd (omega arith)
one_of p s zero (suc n) at l e on = on-from-got (p s at) _ e (λ x mid one rest. on [] at x mid refl one)
one_of p s (suc k) (suc n) at l e on =
    on-from-got (p s at) _ e (λ x mid one rest.
    on-from-got (many n p s mid) _ rest (λ xs next two same.
    one_of p s k n mid (omega arith) two (λ ys from y end before here. on (x ∷ ys) from y end (rw (one, before)) here)))

-- the rules of a book that is read are at most 16, and stand one after another
pub rules-read : (s : List ℕ) (b : Book) → read_all ByteLayouts.book s ≡ some b
    → (length b.rules ≤ most_rules)
    × (next : ℕ) × (many (length b.rules) (ByteLayouts.rule (length b.rules)) s first_rule ≡ got b.rules next)
unfolding ByteLayouts.book book_fields
rules-read s b e =
    on-from-got (number16 s 5) _ (framed-got book_fields s 0 (read-all (framed book_fields) s e).1).body (λ l mid1 one rest1.
    on-from-got (must (within 1 most_steps l) s mid1) _ rest1 (λ u mid2 two rest2.
    on-from-got (byte_within 0 most_rules s mid2) _ rest2 (λ n mid3 three rest3.
    on-from-got (many n (ByteLayouts.rule n) s mid3) _ rest3 (λ rs mid4 four same.
    let p1 = number16-takes.took one in
    let p2 = must-got (within 1 most_steps l) s mid1 two in
    let p3 = (byte-takes 0 most_rules).took three in
    let few = (within-gives 0 most_rules (omega arith)).fit three in
    let at : mid3 ≡ first_rule = omega arith in
    let c : length rs ≡ n = (many-each {P = λ r. Unit {0}} (λ s at x next e. tt) n s mid3 four).0 in
    let r : rs ≡ b.rules = ap (λ (c : Book). c.rules) (same-value same) in
    (rw (← r) (omega arith), mid4, rw (← r, c, ← at) four)))))

module _ (book : List ℕ) (k : ℕ) where
  abbrev Lacks : Type 0
  Lacks = Malformed ByteLayouts.book book ⊎ (HasCycle book ⊎ NoRule book k)

  lacks-none : (b : Book) → read_all ByteLayouts.book book ≡ some b → ¬ HasCycle book → k < length b.rules → ¬ Lacks
  lacks-none b e c l (inl n) = clash n e
  lacks-none b e c l (inr (inl n)) = c n
  lacks-none b e c l (inr (inr n)) =
      let same : b ≡ n.0 = same_some (sym e ∙ n.1) in let m = ap (λ (d : Book). length d.rules) same in omega (arith, n.2)

  -- a rule begins within its book, and has a byte
  some_bytes : (n from : ℕ) {r : Rule} {end : ℕ} → ByteLayouts.rule n book from ≡ got r end → ¬ (take (end - from) (drop from book) ≡ [])
  unfolding ByteLayouts.rule byte_within
  some_bytes n from {r} {end} e q =
      on-from-got (byte_within 0 1 book from) _ e (λ a mid one rest.
      let w = within-true 0 1 (byte_at book from) (if-got (within 0 1 (byte_at book from)) (got (byte_at book from) (from + 1)) one).0 in
      let i = inside book from (omega arith) in
      let t = (rule-takes n).took {s = book} {at = from} {next = end} e in
      omega (arith, simp (length-take, length-drop) at (ap length q)))

  pub rule-empty : (rule_bytes book k ≡ []) ↔ Lacks
  unfolding rule_bytes rule_in rule_after bytes_read
  rule-empty = on_book (judged book)
    where
      on_rule : (b : Book) (order : List ℕ) → read_all ByteLayouts.book book ≡ some b → ¬ HasCycle book
          → judge_book book ≡ accepted_book b order → (t : Bool) → ltb k (length b.rules) ≡ t → (rule_bytes book k ≡ []) ↔ Lacks
      on_rule b order e c j false f = (λ q. inr (inr (b, e, ltb-false k (length b.rules) f)), λ w. rw (j, f))
      on_rule b order e c j true f =
          let n = length b.rules in
          let l = ltb-true k n f in
          one_of (ByteLayouts.rule n) book k n first_rule l (rules-read book b e).2 (λ ys from r end before here.
          (λ q. absurd (some_bytes n from here (rw (j, f, before, here) at q)), λ w. absurd (lacks-none b e c l w)))

      on_book : Judged book → (rule_bytes book k ≡ []) ↔ Lacks
      on_book (unread f j) = (λ q. inl f, λ w. rw j)
      on_book (cyclic f c j) = (λ q. inr (inl c), λ w. rw j)
      on_book (fine {b = b} {order = order} f c j) = on_rule b order f c j (ltb k (length b.rules)) refl
