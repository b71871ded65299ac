-- How many bytes a parser takes, and that it looks only at those from its place on. Both hold of one byte, and so of all that is read by
-- bytes, one after another: the least and the most are worked out along the layout.
use Rattle.std.specs.Prelude.{if◌then◌else◌}
use mathlib.Core.Path.{◌≡◌, refl, sym, ap, ◌∙◌}
use mathlib.Core.Bool.{Bool, true, false, ◌&&◌}
use mathlib.Core.List.{List, [], ◌++◌}
use Prim.Native.Nat.{ℕ, zero, suc, ◌+◌, ◌*◌, ◌^◌, ◌≤◌, min, max}
use native.Mathlib.Omega.{arith}
use native.Mathlib.Nat.{add-zero}
use lib.Dec.{eqb, leb, ltb}
use lib.Count.{ones, ones-le}
use lib.ListN.{length, drop, replicate, get_or, length-append}
use lib.Seq.{get_or-drop, drop-drop}
use borrow.Author.Tests.{leb-true}
use Rattle.meaning.specs.Base.{bit, within}
use Rattle.meaning.specs.Reading.{Read, bad, got, Parser, on_from, ◌>>=◌, ◌>>◌, pure, malformed, must, byte_at, read_byte, byte_within}
use Rattle.meaning.specs.Reading.{byte, number16, number32, many}
use Rattle.meaning.specs.Covers.{most_rules, most_actions, most_terms, most_pairs, most_operations, most_steps}
use Rattle.meaning.specs.Covers.{match, no_match, Source, Pair, Term, Book, LogOperation}
use Rattle.meaning.specs.ByteLayouts
use Rattle.meaning.proofs.Parsing.{Spans, spans-first, spans-rest, on-from-got, same-got, same_place, if-got, byte_reads}
use Rattle.meaning.proofs.RunsFit.{Gives, reads-give}

-- a reading, so many bytes further on
abbrev shift : {A : Type 0} → ℕ → Read A → Read A
shift k bad = bad
shift k (got a next) = got a (k + next)

pub record Takes {A : Type 0} (least most : ℕ) (p : Parser A) : Type 0 where
  -- from a place it reads what it reads from the front of the rest
  pub here : (s : List ℕ) (at : ℕ) → p s at ≡ shift at (p (drop at s) 0)
  pub took : {s : List ℕ} {at : ℕ} {a : A} {next : ℕ} → p s at ≡ got a next → (at + least ≤ next) × (next ≤ at + most)

module _ {A : Type 0} where
  wider : {l h l' h' : ℕ} {p : Parser A} → l' ≤ l → h ≤ h' → Takes l h p → Takes l' h' p
  wider c d t = record { here = t.here; took = λ e. (let k = t.took e in (omega arith, omega arith)) }

  pub pure-takes : {a : A} → Takes 0 0 (pure a)
  pure-takes = record { here = λ s at. same-got refl (omega arith); took = λ e. (let k = same_place e in (omega arith, omega arith)) }

  malformed-takes : Takes 0 0 (malformed {A = A})
  malformed-takes = record { here = λ s at. refl; took = λ e. absurd (let z : ◌≡◌ {A = ℕ} 0 1 = cc in omega arith) }

  if-takes : {l h l' h' : ℕ} {p q : Parser A} (b : Bool) → Takes l h p → Takes l' h' q → Takes (min l l') (max h h') (if b then p else q)
  if-takes true t u = wider (omega arith) (omega arith) t
  if-takes false t u = wider (omega arith) (omega arith) u

  must-takes : {l h : ℕ} {q : Parser A} (b : Bool) → (b ≡ true → Takes l h q) → Takes l h (must b >> q)
  must-takes true k = k refl
  must-takes false k = record { here = λ s at. refl; took = λ e. absurd (let z : ◌≡◌ {A = ℕ} 0 1 = cc in omega arith) }

  shift-shift : (j k : ℕ) (r : Read A) → shift j (shift k r) ≡ shift (j + k) r
  shift-shift j k bad = refl
  shift-shift j k (got a n) = same-got refl (omega arith)

-- one after another: the second by what the first gives
then-takes : {A B : Type 0} {P : A → Type 0} {l h l' h' : ℕ} {p : Parser A} {f : A → Parser B} → Takes l h p → Gives p P
    → ((a : A) → P a → Takes l' h' (f a)) → Takes (l + l') (h + h') (p >>= f)
then-takes {A} {B} {p = p} {f = f} t g k = record {
  here = λ s at. onward s at (p (drop at s) 0) refl (p s at) (t.here s at);
  took = λ {s} {at} e.
      on-from-got (p s at) _ e (λ a mid one rest.
      let i = t.took one in let j = (k a (g.fit one)).took rest in (omega arith, omega arith));
}
  where
    onward : (s : List ℕ) (at : ℕ) (r : Read A) → p (drop at s) 0 ≡ r → (q : Read A) → q ≡ shift at (p (drop at s) 0)
        → on_from q (λ a next. f a s next) ≡ shift at (on_from (p (drop at s) 0) (λ a next. f a (drop at s) next))
    onward s at bad e q h = rw (h, e)
    onward s at (got a n) e q h =
        let there = (k a (g.fit e)).here in
        rw (h, e)
        (there s (at + n) ∙ ap (λ (t : List ℕ). shift (at + n) (f a t 0)) (sym (drop-drop n at s))
        ∙ sym (shift-shift at n (f a (drop n (drop at s)) 0)) ∙ ap (shift at) (sym (there (drop at s) n)))

pub seq-takes : {A B : Type 0} {l h l' h' : ℕ} {p : Parser A} {f : A → Parser B} → Takes l h p → ((a : A) → Takes l' h' (f a))
    → Takes (l + l') (h + h') (p >>= f)
seq-takes t k = then-takes {P = λ a. Unit {0}} t (record { fit = λ e. tt }) (λ a u. k a)

-- at least j of a kind, and at most k
pub many-takes : {A : Type 0} {l h : ℕ} {p : Parser A} (j k n : ℕ) → j ≤ n → n ≤ k → Takes l h p → Takes (j * l) (k * h) (many n p)
unfolding many
many-takes zero k zero some few t = wider (omega arith) (omega arith) pure-takes
many-takes (suc j) k zero some few t = absurd (omega arith)
many-takes j zero (suc n) some few t = absurd (omega arith)
many-takes zero (suc k) (suc n) some few t =
    wider (omega arith) (omega arith) (seq-takes t (λ x. seq-takes (many-takes zero k n (omega arith) (omega arith) t) (λ xs. pure-takes)))
many-takes (suc j) (suc k) (suc n) some few t =
    wider (omega arith) (omega arith) (seq-takes t (λ x. seq-takes (many-takes j k n (omega arith) (omega arith) t) (λ xs. pure-takes)))

-- ---- Numbers

pub byte-takes : (lo hi : ℕ) → Takes 1 1 (byte_within lo hi)
unfolding byte_within
byte-takes lo hi = record {
  here = λ s at.
      let same : byte_at s at ≡ byte_at (drop at s) 0 = sym (get_or-drop at s 0 256 ∙ ap (λ (n : ℕ). get_or s n 256) (add-zero at)) in
      ap (λ (c : ℕ). read_byte lo hi c at) same ∙ on (within lo hi (byte_at (drop at s) 0)) (byte_at (drop at s) 0) at;
  took = λ {s} {at} e.
      let k = same_place (if-got (within lo hi (byte_at s at)) (got (byte_at s at) (at + 1)) e).1 in (omega arith, omega arith);
}
  where
    on : (t : Bool) (b at : ℕ) → (if t then got b (at + 1) else bad) ≡ shift at (if t then got b (0 + 1) else bad)
    on true b at = refl
    on false b at = refl

pub within-gives : (lo hi : ℕ) → hi ≤ 255 → Gives (byte_within lo hi) (λ b. (lo ≤ b) × (b ≤ hi))
within-gives lo hi l = reads-give (byte_reads {lo = lo} {hi = hi} (omega arith))

-- a count within a range, and so many of a kind
counted-takes : {A : Type 0} {l h : ℕ} {p : Parser A} (lo most : ℕ) → most ≤ 255 → Takes l h p
    → Takes (1 + lo * l) (1 + most * h) (byte_within lo most >>= λ n. many n p)
counted-takes lo most l t = then-takes (byte-takes lo most) (within-gives lo most l) (λ n few. many-takes lo most n few.0 few.1 t)

any-byte-takes : Takes 1 1 byte
unfolding byte
any-byte-takes = byte-takes 0 255

pub number16-takes : Takes 2 2 number16
unfolding number16
number16-takes = seq-takes any-byte-takes (λ a. seq-takes any-byte-takes (λ b. pure-takes))

number32-takes : Takes 4 4 number32
unfolding number32
number32-takes = seq-takes number16-takes (λ a. seq-takes number16-takes (λ b. pure-takes))

value-takes : Takes 4 4 ByteLayouts.value
unfolding ByteLayouts.value
value-takes = seq-takes number32-takes (λ n. pure-takes)

-- four of a kind
four-take : {A : Type 0} {l h : ℕ} {p : Parser A} → Takes l h p → Takes (4 * l) (4 * h) (many 4 p)
four-take t = many-takes 4 4 4 (omega arith) (omega arith) t

table-takes : Takes 1 1 ByteLayouts.table
unfolding ByteLayouts.table
table-takes = byte-takes 0 3

column-takes : Takes 1 1 ByteLayouts.column
unfolding ByteLayouts.column
column-takes = byte-takes 0 3

mask-takes : Takes 1 1 ByteLayouts.mask
unfolding ByteLayouts.mask
mask-takes = byte-takes 1 15

-- a mask, then one of a kind for each set bit, then the rest
masked-takes : {A B : Type 0} {l h l' h' : ℕ} {p : Parser A} {f : ℕ → List A → Parser B} → Takes l h p
    → ((m : ℕ) (xs : List A) → Takes l' h' (f m xs))
    → Takes (1 + (0 * l + l')) (1 + (4 * h + h')) (ByteLayouts.mask >>= λ m. many (ones m) p >>= f m)
unfolding ByteLayouts.mask
masked-takes t k =
    then-takes mask-takes (within-gives 1 15 (omega arith)) (λ m few.
    seq-takes (many-takes 0 4 (ones m) (omega arith) (ones-le 4 m (omega arith)) t) (k m))

-- ---- The log

pub operation-takes : Takes 1 22 ByteLayouts.operation
unfolding ByteLayouts.operation ByteLayouts.operation_of ByteLayouts.insertion ByteLayouts.deletion ByteLayouts.change
operation-takes =
    seq-takes any-byte-takes (λ n.
    if-takes (eqb n 1) (seq-takes table-takes (λ t. seq-takes (four-take value-takes) (λ vs. pure-takes)))
    (if-takes (eqb n 2) (seq-takes number32-takes (λ h. pure-takes))
    (if-takes (eqb n 3) (seq-takes number32-takes (λ h. masked-takes value-takes (λ m vs. pure-takes))) malformed-takes)))

-- operation count, operations
unfoldable pub log_fields : Parser (List LogOperation)
log_fields = do
  n ← number16
  must (leb n most_operations)
  many n ByteLayouts.operation

pub log-takes : Takes 2 5634 log_fields
unfolding log_fields
log-takes =
    seq-takes number16-takes (λ n. must-takes (leb n most_operations) (λ few.
    many-takes 0 most_operations n (omega arith) (leb-true n most_operations few) operation-takes))

-- ---- The book

expression-takes : Takes 1 6 ByteLayouts.expression
unfolding ByteLayouts.expression ByteLayouts.expression_of ByteLayouts.constant ByteLayouts.of_column ByteLayouts.sum
expression-takes =
    seq-takes any-byte-takes (λ n.
    if-takes (eqb n 0) (seq-takes value-takes (λ v. pure-takes))
    (if-takes (eqb n 1) (seq-takes column-takes (λ c. pure-takes))
    (if-takes (eqb n 2) (seq-takes column-takes (λ c. seq-takes value-takes (λ v. pure-takes))) malformed-takes)))

pair-takes : Takes 2 2 ByteLayouts.pair
unfolding ByteLayouts.pair
pair-takes = seq-takes column-takes (λ a. seq-takes column-takes (λ b. pure-takes))

module _ (g : ℕ) where
  source-takes : Takes 1 1 (ByteLayouts.source g)
  unfolding ByteLayouts.source ByteLayouts.source_of
  source-takes =
      seq-takes any-byte-takes (λ n.
      if-takes (ltb n 4) pure-takes (if-takes (eqb n 4 && bit g 0) pure-takes (if-takes (eqb n 5 && bit g 1) pure-takes
      (if-takes (eqb n 6 && bit g 2) pure-takes (if-takes (eqb n 7 && bit g 2) pure-takes malformed-takes)))))

  matching-takes : (make : Source → List Pair → Term) → Takes 2 10 (ByteLayouts.matching g make)
  unfolding ByteLayouts.matching
  matching-takes make =
      seq-takes source-takes (λ s. then-takes (byte-takes 1 most_pairs) (within-gives 1 most_pairs (omega arith)) (λ n few.
      seq-takes (many-takes 0 most_pairs n (omega arith) few.1 pair-takes) (λ ps. pure-takes)))

  term-takes : Takes 1 11 (ByteLayouts.term g)
  unfolding ByteLayouts.term ByteLayouts.term_of ByteLayouts.against_constant ByteLayouts.against_column
  term-takes =
      seq-takes any-byte-takes (λ n.
      if-takes (ltb n 6) (seq-takes column-takes (λ c. seq-takes value-takes (λ v. pure-takes)))
      (if-takes (ltb n 12) (seq-takes column-takes (λ c. seq-takes column-takes (λ d. pure-takes)))
      (if-takes (eqb n 12) (matching-takes match) (if-takes (eqb n 13) (matching-takes no_match) malformed-takes))))

  terms-takes : Takes 1 45 (ByteLayouts.terms g)
  unfolding ByteLayouts.terms
  terms-takes = counted-takes 0 most_terms (omega arith) term-takes

  query-takes : Takes 2 46 (ByteLayouts.query g)
  unfolding ByteLayouts.query
  query-takes = seq-takes source-takes (λ s. seq-takes terms-takes (λ ts. pure-takes))

  action-takes : Takes 1 72 (ByteLayouts.action g)
  unfolding ByteLayouts.action ByteLayouts.action_of ByteLayouts.insert_row ByteLayouts.insert_from_query ByteLayouts.delete_rows
      ByteLayouts.update_rows
  action-takes =
      seq-takes any-byte-takes (λ n.
      if-takes (eqb n 0) pure-takes
      (if-takes (eqb n 1) (seq-takes table-takes (λ t. seq-takes (four-take value-takes) (λ vs. pure-takes)))
      (if-takes (eqb n 2)
      (seq-takes table-takes (λ t. seq-takes query-takes (λ q. seq-takes (four-take expression-takes) (λ es. pure-takes))))
      (if-takes (eqb n 3) (seq-takes table-takes (λ t. seq-takes terms-takes (λ ts. pure-takes)))
      (if-takes (eqb n 4)
      (seq-takes table-takes (λ t. masked-takes expression-takes (λ m es. seq-takes terms-takes (λ ts. pure-takes)))) malformed-takes)))))

  actions-takes : Takes 2 289 (ByteLayouts.actions g)
  unfolding ByteLayouts.actions
  actions-takes = counted-takes 1 most_actions (omega arith) action-takes

  condition-takes : Takes 1 47 (ByteLayouts.condition g)
  unfolding ByteLayouts.condition ByteLayouts.some_query
  condition-takes = seq-takes (byte-takes 0 1) (λ n. if-takes (eqb n 0) pure-takes (seq-takes query-takes (λ q. pure-takes)))

  columns-takes : Takes 1 1 (ByteLayouts.columns g)
  unfolding ByteLayouts.columns
  columns-takes = if-takes (bit g 2) mask-takes (byte-takes 0 0)

pub rule-takes : (n : ℕ) → Takes 9 342 (ByteLayouts.rule n)
unfolding ByteLayouts.rule
rule-takes n =
    seq-takes (byte-takes 0 1) (λ a. seq-takes table-takes (λ t. seq-takes (byte-takes 1 7) (λ g.
    seq-takes (columns-takes g) (λ c. seq-takes number16-takes (λ p. must-takes (ltb p (2 ^ n)) (λ few.
    seq-takes (condition-takes g) (λ q. seq-takes (actions-takes g) (λ acts. pure-takes))))))))

-- step limit, rule count, rules
unfoldable pub book_fields : Parser Book
book_fields = do
  l ← number16
  must (within 1 most_steps l)
  n ← byte_within 0 most_rules
  rs ← many n (ByteLayouts.rule n)
  pure (record { limit = l; rules = rs })

pub book-takes : Takes 3 5475 book_fields
unfolding book_fields
book-takes =
    seq-takes number16-takes (λ l. must-takes (within 1 most_steps l) (λ few.
    then-takes (byte-takes 0 most_rules) (within-gives 0 most_rules (omega arith)) (λ n few.
    seq-takes (many-takes 0 most_rules n (omega arith) few.1 (rule-takes n)) (λ rs. pure-takes))))

-- ---- The same bytes, again and again

abbrev pub times : ℕ → List ℕ → List ℕ
times zero bytes = []
times (suc n) bytes = bytes ++ times n bytes

pub times-length : (n : ℕ) (bytes : List ℕ) → length (times n bytes) ≡ n * length bytes
times-length zero bytes = omega arith
times-length (suc n) bytes = omega (arith, length-append bytes (times n bytes), times-length n bytes)

-- what is read from them is the same value each time
module _ {A : Type 0} {l h : ℕ} {p : Parser A} (t : Takes l h p) (x : A) (bytes : List ℕ)
    (one : (rest : List ℕ) → p (bytes ++ rest) 0 ≡ got x (length bytes)) where
  pub many-same : (n : ℕ) {s : List ℕ} {at next : ℕ} → Spans s at (times n bytes) next → many n p s at ≡ got (replicate n x) next
  unfolding many
  many-same zero span = same-got refl (omega (arith, span.ends))
  many-same (suc n) {s} {at} {next} span =
      let front = spans-first bytes (times n bytes) span in
      let first : p s at ≡ got x (at + length bytes) =
      t.here s at ∙ ap (λ (t : List ℕ). shift at (p t 0)) front.holds ∙ ap (shift at) (one (drop (at + length bytes) s)) in
      rw (first, many-same n (spans-rest bytes span))
