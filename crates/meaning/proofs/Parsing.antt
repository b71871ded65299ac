-- What a parser that succeeds tells of the bytes, and what makes it succeed. A parser and a writer belong together (`Reads`) where the
-- parser gives a value exactly if the slice holds the writer's bytes of it there; sequences of such parsers belong to joined bytes.
use Rattle.std.specs.Prelude.{if◌then◌else◌}
use mathlib.Core.Path.{◌≡◌, refl, sym, ap, ◌∙◌}
use mathlib.Core.Bool.{Bool, true, false}
use mathlib.Core.List.{List, [], ◌∷◌, ◌++◌, append_assoc, append-nil}
use mathlib.Core.Option.{some}
use Prim.Native.Nat.{ℕ, zero, suc, ◌+◌, ◌*◌, ◌/◌, ◌%◌, ◌-◌, ◌≤◌, ◌<◌}
use native.Mathlib.Omega.{arith}
use native.Mathlib.Nat.{add-zero}
use native.Mathlib.Numerals.{add-one}
use lib.IntN.{ℤ, pos, negsuc}
use lib.Signed.{mag}
use lib.Dec.{eqb, leb, ltb}
use lib.ListN.{length, take, drop, length-append, length-drop}
use lib.Seq.{take-append_seam, drop-cons, drop-drop, drop-append_seam, drop-length, get_or-drop}
use borrow.Author.Tests.{eqb-true, eq-eqb, leb-true, le-leb, ltb-true, ltb-false, lt-ltb, le-ltb}
use Rattle.meaning.specs.Base.{within, Each, no_element, an_element}
use Rattle.meaning.specs.Reading.{Read, bad, got, Parser, on_from, must, byte_at, byte_within, byte, number16, number32, many, bytes_left}
use Rattle.meaning.specs.Reading.{read_all, value_of}
use Rattle.meaning.specs.Values.{signed, unsigned}
use Rattle.meaning.specs.ByteLayouts.{value, framed, bytes2, bytes4}
use Rattle.meaning.proofs.Lists.{and-true}

-- ---- Bytes in a slice

-- from one place to another, the slice holds these bytes
pub record Spans (s : List ℕ) (at : ℕ) (bytes : List ℕ) (next : ℕ) : Type 0 where
  pub holds : drop at s ≡ bytes ++ drop next s
  pub ends : next ≡ at + length bytes

pub spans-none : (s : List ℕ) (at : ℕ) → Spans s at [] at
spans-none s at = record { holds = refl; ends = omega arith }

pub spans-whole : (s : List ℕ) → Spans s 0 s (length s)
spans-whole s = record { holds = rw (drop-length s) (sym (append-nil s)); ends = omega arith }

module _ {s : List ℕ} {at : ℕ} where
  pub spans-then : {mid next : ℕ} {xs ys : List ℕ} → Spans s at xs mid → Spans s mid ys next → Spans s at (xs ++ ys) next
  spans-then {mid} {next} {xs} {ys} p q = record {
    holds = p.holds ∙ ap (λ (l : List ℕ). xs ++ l) q.holds ∙ sym (append_assoc xs ys (drop next s));
    ends = simp length-append (omega arith);
  }

  pub spans-rest : {next : ℕ} (xs : List ℕ) {ys : List ℕ} → Spans s at (xs ++ ys) next → Spans s (at + length xs) ys next
  spans-rest {next} xs {ys} p = record {
    holds = sym (drop-drop (length xs) at s) ∙ ap (λ (l : List ℕ). drop (length xs) l) (p.holds ∙ append_assoc xs ys (drop next s))
        ∙ drop-append_seam xs (ys ++ drop next s);
    ends = omega (arith, p.ends, length-append xs ys);
  }

  pub spans-first : {next : ℕ} (xs ys : List ℕ) → Spans s at (xs ++ ys) next → Spans s at xs (at + length xs)
  spans-first {next} xs ys p = record {
    holds = p.holds ∙ append_assoc xs ys (drop next s) ∙ ap (λ (l : List ℕ). xs ++ l) (sym (spans-rest xs p).holds);
    ends = refl;
  }

  pub spans-as : {mid next : ℕ} {xs ys : List ℕ} → xs ≡ ys → mid ≡ next → Spans s at xs mid → Spans s at ys next
  spans-as p q span = rw (← p, ← q) span

  pub spans-from : {from next : ℕ} {xs : List ℕ} → at ≡ from → Spans s at xs next → Spans s from xs next
  spans-from p span = rw (← p) span

  -- where the slice ends with them, they are all that is left
  pub spans-last : {bytes : List ℕ} {next : ℕ} → Spans s at bytes next → next ≡ length s → drop at s ≡ bytes
  spans-last {bytes} {next} p e =
      p.holds ∙ ap (λ (l : List ℕ). bytes ++ l) (ap (λ (k : ℕ). drop k s) e ∙ drop-length s) ∙ append-nil bytes

  -- they end within the slice, and can be taken from it
  pub spans-within : {bytes : List ℕ} {next : ℕ} → Spans s at bytes next → at ≤ length s → next ≤ length s
  spans-within {bytes} {next} p h = omega (arith, simp (length-drop, length-append) at (ap length p.holds), p.ends)

  pub spans-take : {bytes : List ℕ} {next : ℕ} → Spans s at bytes next → take (length bytes) (drop at s) ≡ bytes
  spans-take {bytes} {next} p = ap (λ (l : List ℕ). take (length bytes) l) p.holds ∙ take-append_seam bytes (drop next s)

-- ---- One parser after another

-- what success in two steps tells: where the first ended, with what, and that the second went on from there
pub on-from-got : {A B : Type 0} {X : Type 0} (r : Read A) (f : A → ℕ → Read B) {b : B} {next : ℕ} → on_from r f ≡ got b next
    → ((a : A) (mid : ℕ) → r ≡ got a mid → f a mid ≡ got b next → X) → X
on-from-got bad f e on = absurd (let z : ◌≡◌ {A = ℕ} 0 1 = cc in omega arith)
on-from-got (got a mid) f e on = on a mid refl e

module _ {A : Type 0} where
  pub same-value : {a b : A} {at next : ℕ} → got a at ≡ got b next → a ≡ b
  same-value e = cc

  pub same_place : {a b : A} {at next : ℕ} → got a at ≡ got b next → at ≡ next
  same_place e = cc

  pub same-got : {a b : A} {at next : ℕ} → a ≡ b → at ≡ next → got a at ≡ got b next
  same-got p q = cc

  -- a choice that is not bad was made for the test
  pub if-got : (test : Bool) (r : Read A) {a : A} {next : ℕ} → (if test then r else bad) ≡ got a next → (test ≡ true) × (r ≡ got a next)
  if-got true r e = (refl, e)
  if-got false r e = absurd (let z : ◌≡◌ {A = ℕ} 0 1 = cc in omega arith)

  pub value-of : (r : Read A) {a : A} → value_of r ≡ some a → (next : ℕ) × (r ≡ got a next)
  value-of bad e = absurd (let z : ◌≡◌ {A = ℕ} 0 1 = cc in omega arith)
  value-of (got b next) e = (next, ap (λ (c : A). got c next) (cc))

  pub read-all : (p : Parser A) (s : List ℕ) {a : A} → read_all p s ≡ some a → (next : ℕ) × (p s 0 ≡ got a next)
  unfolding read_all
  read-all p s e = value-of (p s 0) e

pub must-got : (b : Bool) (s : List ℕ) (at : ℕ) {u : Unit {0}} {next : ℕ} → must b s at ≡ got u next → (b ≡ true) × (at ≡ next)
must-got b s at e = let h = if-got b (got tt at) e in (h.0, same_place h.1)

pub bytes-left-got : (n : ℕ) (s : List ℕ) (at : ℕ) {u : Unit {0}} {next : ℕ} → bytes_left n s at ≡ got u next
    → (at + n ≡ length s) × (at ≡ next)
unfolding bytes_left
bytes-left-got n s at e = let h = must-got (eqb (at + n) (length s)) s at e in (eqb-true (at + n) (length s) h.0, h.1)

pub bytes_left_lem : (n : ℕ) (s : List ℕ) (at : ℕ) → at + n ≡ length s → bytes_left n s at ≡ got tt at
unfolding bytes_left
bytes_left_lem n s at e = rw (eq-eqb (at + n) (length s) e)

-- ---- Parsers and writers that belong together

-- the values that the parser gives are those that are fit; of each, it reads the bytes that the writer writes
pub record Reads {A : Type 0} (p : Parser A) (bytes_of : A → List ℕ) (Fit : A → Type 0) : Type 0 where
  pub told : {s : List ℕ} {at : ℕ} {a : A} {next : ℕ} → p s at ≡ got a next → Spans s at (bytes_of a) next
  pub fit : {s : List ℕ} {at : ℕ} {a : A} {next : ℕ} → p s at ≡ got a next → Fit a
  pub found : {s : List ℕ} {at : ℕ} {a : A} {next : ℕ} → Fit a → Spans s at (bytes_of a) next → p s at ≡ got a next

-- ---- A byte

pub within-true : (lo hi n : ℕ) → within lo hi n ≡ true → (lo ≤ n) × (n ≤ hi)
within-true lo hi n e = let h = and-true (leb lo n) (leb n hi) e in (leb-true lo n h.0, leb-true n hi h.1)

pub true-within : (lo hi n : ℕ) → lo ≤ n → n ≤ hi → within lo hi n ≡ true
true-within lo hi n p q = rw (le-leb lo n p, le-leb n hi q)

-- what is no 256 stands in the slice
pub inside : (s : List ℕ) (at : ℕ) → byte_at s at < 256 → at < length s
inside [] at h = absurd (omega arith)
inside (x ∷ s) zero h = omega arith
inside (x ∷ s) (suc at) h = omega (arith, inside s at h)

pub byte-there : {s : List ℕ} {at b next : ℕ} {bytes : List ℕ} → Spans s at (b ∷ bytes) next → byte_at s at ≡ b
byte-there {s} {at} p = rw (← add-zero at, ← get_or-drop at s 0 256, p.holds)

pub spans-byte : (s : List ℕ) (at : ℕ) → at < length s → Spans s at (byte_at s at ∷ []) (at + 1)
spans-byte s at h = record { holds = rw (add-one at) (drop-cons s at 256 h); ends = refl }

pub byte_reads : {lo hi : ℕ} → hi < 256 → Reads (byte_within lo hi) (λ b. b ∷ []) (λ b. (lo ≤ b) × (b ≤ hi))
unfolding byte_within
byte_reads {lo} {hi} h = record {
  told = λ {s} {at} {a} {next} e.
      let g = if-got (within lo hi (byte_at s at)) (got (byte_at s at) (at + 1)) e in
      let w = within-true lo hi (byte_at s at) g.0 in
      let i = inside s at (omega arith) in
      rw (← same-value g.1, ← same_place g.1) (spans-byte s at i);
  fit = λ {s} {at} {a} {next} e.
      let g = if-got (within lo hi (byte_at s at)) (got (byte_at s at) (at + 1)) e in
      rw (same-value g.1) at (within-true lo hi (byte_at s at) g.0);
  found = λ {s} {at} {a} {next} f p.
      rw (byte-there p, true-within lo hi a f.0 f.1) (same-got refl (sym p.ends));
}

-- ---- Two parts that make one value

-- how a value is made of two fit parts, and falls apart into them
pub record Parts {A B C : Type 0} (FitA : A → Type 0) (FitB : B → Type 0) (FitC : C → Type 0) : Type 0 where
  pub make : A → B → C
  pub left : C → A
  pub right : C → B
  pub made : (a : A) (b : B) → FitA a → FitB b → (FitC (make a b)) × (left (make a b) ≡ a) × (right (make a b) ≡ b)
  pub parted : (c : C) → FitC c → (FitA (left c)) × (FitB (right c)) × (make (left c) (right c) ≡ c)

-- one parser, then the other, then the value that they make
unfoldable pub two_parts : {A B C : Type 0} → Parser A → Parser B → (A → B → C) → Parser C
two_parts p q make = λ s at. on_from (p s at) (λ a mid. on_from (q s mid) (λ b next. got (make a b) next))

pub parts-read : {A B C : Type 0} {p : Parser A} {q : Parser B} {xs : A → List ℕ} {ys : B → List ℕ} {FitA : A → Type 0}
    {FitB : B → Type 0} {FitC : C → Type 0} → Reads p xs FitA → Reads q ys FitB → (m : Parts FitA FitB FitC)
    → Reads (two_parts p q m.make) (λ c. xs (m.left c) ++ ys (m.right c)) FitC
unfolding two_parts
parts-read {A} {B} {C} {p} {q} {xs} {ys} reads more m = record {
  told = λ {s} {at} {a = c} e.
      on-from-got (p s at) _ e (λ a mid one rest.
      on-from-got (q s mid) _ rest (λ b end two same.
      let k = m.made a b (reads.fit one) (more.fit two) in
      let v = same-value same in
      spans-as (cc) (same_place same) (spans-then (reads.told one) (more.told two))));
  fit = λ {s} {at} e.
      on-from-got (p s at) _ e (λ a mid one rest.
      on-from-got (q s mid) _ rest (λ b end two same.
      rw (same-value same) at (m.made a b (reads.fit one) (more.fit two)).0));
  found = λ {a = c} f span.
      let k = m.parted c f in
      rw (
        reads.found k.0 (spans-first (xs (m.left c)) (ys (m.right c)) span),
        more.found k.1 (spans-rest (xs (m.left c)) span),
      )
      (same-got k.2 refl);
}

-- ---- Numbers

pub number16-reads : Reads number16 bytes2 (λ n. n < 65536)
unfolding number16 byte bytes2 two_parts
number16-reads = parts-read (byte_reads (omega arith)) (byte_reads (omega arith)) (record {
  make = λ high low. high * 256 + low;
  left = λ n. n / 256 % 256;
  right = λ n. n % 256;
  made = λ high low f g. (omega arith, omega arith, omega arith);
  parted = λ n f. ((omega arith, omega arith), (omega arith, omega arith), omega arith);
})

bytes4-halves : (n : ℕ) → bytes2 (n / 65536) ++ bytes2 (n % 65536) ≡ bytes4 n
unfolding bytes2 bytes4
bytes4-halves n =
    let a : n / 65536 / 256 % 256 ≡ n / 16777216 % 256 = omega arith in
    let b : n % 65536 / 256 % 256 ≡ n / 256 % 256 = omega arith in
    let c : n % 65536 % 256 ≡ n % 256 = omega arith in
    rw (a, b, c)

-- the writer may be another that writes the same
pub reads_as : {A : Type 0} {p : Parser A} {xs ys : A → List ℕ} {Fit : A → Type 0} → ((a : A) → xs a ≡ ys a) → Reads p xs Fit
    → Reads p ys Fit
reads_as same reads = record {
  told = λ {a = a} e. spans-as (same a) refl (reads.told e);
  fit = reads.fit;
  found = λ {a = a} f span. reads.found f (spans-as (sym (same a)) refl span);
}

pub number32-reads : Reads number32 bytes4 (λ n. n < 4294967296)
unfolding number32 two_parts
number32-reads = reads_as bytes4-halves (parts-read number16-reads number16-reads (record {
  make = λ high low. high * 65536 + low;
  left = λ n. n / 65536;
  right = λ n. n % 65536;
  made = λ high low f g. (omega arith, omega arith, omega arith);
  parted = λ n f. (omega arith, omega arith, omega arith);
}))

-- ---- Values

pub unsigned_signed : (n : ℕ) → n < 4294967296 → unsigned (signed n) ≡ n
unfolding signed unsigned
unsigned_signed n h = go (ltb n 2147483648) refl
  where
    go : (b : Bool) → ltb n 2147483648 ≡ b → unsigned (signed n) ≡ n
    go true e = rw e
    go false e = rw e (omega arith)

pub signed-fits : (n : ℕ) → n < 4294967296 → mag (signed n) ≤ 2147483647
unfolding signed
signed-fits n h = go (ltb n 2147483648) refl
  where
    go : (b : Bool) → ltb n 2147483648 ≡ b → mag (signed n) ≤ 2147483647
    go true e = rw e (omega (arith, ltb-true n 2147483648 e))
    go false e = rw e (omega (arith, ltb-false n 2147483648 e))

pub signed-unsigned : (v : ℤ) → mag v ≤ 2147483647 → signed (unsigned v) ≡ v
unfolding signed unsigned
signed-unsigned (pos n) h = rw (lt-ltb n 2147483648 (omega arith))
signed-unsigned (negsuc n) h =
    rw (le-ltb (4294967295 - n) 2147483648 (omega arith)) (ap negsuc (omega arith))

pub unsigned-fits : (v : ℤ) → mag v ≤ 2147483647 → unsigned v < 4294967296
unfolding unsigned
unsigned-fits (pos n) h = omega arith
unsigned-fits (negsuc n) h = omega arith

pub value-reads : Reads value (λ v. bytes4 (unsigned v)) (λ v. mag v ≤ 2147483647)
unfolding value
value-reads = record {
  told = λ {s} {at} {a = v} e.
      on-from-got (number32 s at) _ e (λ n mid one same.
      let u = unsigned_signed n (number32-reads.fit one) in
      let w = same-value same in
      spans-as (cc) (same_place same) (number32-reads.told one));
  fit = λ {s} {at} e.
      on-from-got (number32 s at) _ e (λ n mid one same.
      rw (same-value same) at (signed-fits n (number32-reads.fit one)));
  found = λ {a = v} f span. rw (number32-reads.found (unsigned-fits v f) span) (same-got (signed-unsigned v f) refl);
}

-- ---- Many of a kind

module _ {A : Type 0} where
  -- the bytes of all, one after another
  abbrev pub spread : (A → List ℕ) → List A → List ℕ
  spread bytes_of [] = []
  spread bytes_of (x ∷ xs) = bytes_of x ++ spread bytes_of xs

  module _ {p : Parser A} where
    -- what is true of every value of the parser is true of each
    pub many-each : {P : A → Type 0} → ((s : List ℕ) (at : ℕ) (x : A) (next : ℕ) → p s at ≡ got x next → P x)
        → (n : ℕ) (s : List ℕ) (at : ℕ) {xs : List A} {next : ℕ} → many n p s at ≡ got xs next → (length xs ≡ n) × Each P xs
    unfolding many
    many-each all zero s at e = rw (← same-value e) (refl, no_element)
    many-each all (suc n) s at e =
        on-from-got (p s at) _ e (λ x mid one rest.
        on-from-got (many n p s mid) _ rest (λ xs end two same.
        let ih = many-each all n s mid two in
        rw (← same-value same) (ap suc ih.0, an_element (all s at x mid one) ih.1)))

    module _ {bytes_of : A → List ℕ} {Fit : A → Type 0} (reads : Reads p bytes_of Fit) where
      many-told : (n : ℕ) {s : List ℕ} {at : ℕ} {xs : List A} {next : ℕ} → many n p s at ≡ got xs next
          → Spans s at (spread bytes_of xs) next
      unfolding many
      many-told zero {s} {at} e = spans-as (ap (spread bytes_of) (same-value e)) (same_place e) (spans-none s at)
      many-told (suc n) {s} {at} e =
          on-from-got (p s at) _ e (λ x mid one rest.
          on-from-got (many n p s mid) _ rest (λ xs end two same.
          spans-as (ap (spread bytes_of) (same-value same)) (same_place same) (spans-then (reads.told one) (many-told n two))))

      many-found : (n : ℕ) {s : List ℕ} {at : ℕ} {xs : List A} {next : ℕ} → length xs ≡ n → Each Fit xs
          → Spans s at (spread bytes_of xs) next → many n p s at ≡ got xs next
      unfolding many
      many-found zero h no_element span = same-got refl (omega (arith, span.ends))
      many-found zero h (an_element f fs) span = absurd (omega arith)
      many-found (suc n) h no_element span = absurd (omega arith)
      many-found (suc n) h (an_element {x} {xs} f fs) span =
          rw (
            reads.found f (spans-first (bytes_of x) (spread bytes_of xs) span),
            many-found n (omega arith) fs (spans-rest (bytes_of x) span),
          )

      pub many-reads : (n : ℕ) → Reads (many n p) (spread bytes_of) (λ xs. (length xs ≡ n) × Each Fit xs)
      many-reads n = record {
        told = many-told n;
        fit = λ {s} {at} e. many-each (λ s at x next e. reads.fit e) n s at e;
        found = λ f span. many-found n f.0 f.1 span;
      }

-- ---- A whole slice: its length, the version, and fields that fill it

pub length-bytes4 : (n : ℕ) → length (bytes4 n) ≡ 4
unfolding bytes4
length-bytes4 n = refl

pub length-bytes2 : (n : ℕ) → length (bytes2 n) ≡ 2
unfolding bytes2
length-bytes2 n = refl

-- the length, the version, the fields
abbrev pub frame : List ℕ → List ℕ
frame bytes = bytes4 (length (1 ∷ bytes)) ++ (1 ∷ bytes)

module _ {A : Type 0} where
  pub record Framed (fields : Parser A) (s : List ℕ) (at : ℕ) (a : A) (next : ℕ) : Type 0 where
    pub count : ℕ
    pub small : count < 4294967296
    pub counted : Spans s at (bytes4 count) (at + 4)
    pub accounts : at + 4 + count ≡ length s
    pub version : Spans s (at + 4) (1 ∷ []) (at + 5)
    pub body : fields s (at + 5) ≡ got a next
    pub filled : next ≡ length s

  pub framed-got : (fields : Parser A) (s : List ℕ) (at : ℕ) {a : A} {next : ℕ} → framed fields s at ≡ got a next
      → Framed fields s at a next
  unfolding framed
  framed-got fields s at e =
      on-from-got (number32 s at) _ e (λ n mid1 one rest1.
      on-from-got (bytes_left n s mid1) _ rest1 (λ u mid2 two rest2.
      on-from-got (byte_within 1 1 s mid2) _ rest2 (λ b mid3 three rest3.
      on-from-got (fields s mid3) _ rest3 (λ a mid4 four rest4.
      on-from-got (bytes_left 0 s mid4) _ rest4 (λ u mid5 five same.
      let counted = number32-reads.told one in
      let left = bytes-left-got n s mid1 two in
      let reads : Reads (byte_within 1 1) (λ b. b ∷ []) (λ b. (1 ≤ b) × (b ≤ 1)) = byte_reads (omega arith) in
      let version = reads.told three in
      let known = reads.fit three in
      let full = bytes-left-got 0 s mid4 five in
      let v = same-value same in
      let w = same_place same in
      let k = length-bytes4 n in
      let is_one : b ≡ 1 = omega arith in
      let at2 : mid2 ≡ at + 4 = omega arith in
      let at3 : mid3 ≡ at + 5 = omega arith in
      record {
        count = n;
        small = number32-reads.fit one;
        counted = spans-as refl (omega arith) counted;
        accounts = omega arith;
        version = spans-from at2 (spans-as (ap (λ (b : ℕ). b ∷ []) is_one) at3 version);
        body = cc;
        filled = omega arith;
      })))))

  -- where the fields' parser tells what it read, the whole slice is known
  pub framed-told : (fields : Parser A) (bytes s : List ℕ) (a : A)
      → ((at next : ℕ) → fields s at ≡ got a next → Spans s at bytes next) → read_all (framed fields) s ≡ some a → frame bytes ≡ s
  framed-told fields bytes s a told e =
      let whole = read-all (framed fields) s e in
      let f = framed-got fields s 0 whole.1 in
      let body = told 5 whole.0 f.body in
      let n = f.count in
      let counts : n ≡ length (1 ∷ bytes) = omega arith in
      rw (← counts) (sym (spans-last (spans-then f.counted (spans-then f.version body)) f.filled))

  -- and where it finds its value from bytes that fit a length, the whole slice is read
  pub framed-found : (fields : Parser A) (bytes : List ℕ) (a : A) → length (1 ∷ bytes) < 4294967296
      → ((at next : ℕ) → Spans (frame bytes) at bytes next → fields (frame bytes) at ≡ got a next)
      → read_all (framed fields) (frame bytes) ≡ some a
  unfolding read_all framed
  framed-found fields bytes a small found =
      let n = length (1 ∷ bytes) in
      let s = frame bytes in
      let whole = spans-whole s in
      let rest = spans-rest (bytes4 n) whole in
      let reads : Reads (byte_within 1 1) (λ b. b ∷ []) (λ b. (1 ≤ b) × (b ≤ 1)) = byte_reads (omega arith) in
      let at1 : ℕ = 0 + length (bytes4 n) in
      let left : at1 + n ≡ length s = omega (arith, length-append (bytes4 n) (1 ∷ bytes)) in
      rw (
        number32-reads.found small (spans-first (bytes4 n) (1 ∷ bytes) whole),
        bytes_left_lem n s at1 left,
        reads.found (omega arith, omega arith) (spans-first (1 ∷ []) bytes rest),
        found (at1 + 1) (length s) (spans-rest (1 ∷ []) rest),
        bytes_left_lem 0 s (length s) (omega arith),
      )
