-- Laws of reading and writing bytes, for decoders. A parser of the specification gives the number that stands at a place where its
-- bytes stand in the slice, and is bad where they do not; n of them are read one by one; what was written is read again.
use Rattle.std.specs.Prelude.{if◌then◌else◌, Option, Some, None}
use mathlib.Core.Path.{◌≡◌, refl, sym, ap, ◌∙◌}
use mathlib.Core.Bool.{Bool, true, false, ◌&&◌}
use mathlib.Core.List.{List, [], ◌∷◌}
use Prim.Native.Nat.{ℕ, zero, suc, ◌+◌, ◌-◌, ◌/◌, ◌%◌, ◌≤◌, ◌<◌}
use native.Mathlib.Numerals.{unary_clauses}
use native.Mathlib.Nat.{add-zero}
use native.Mathlib.Omega.{arith}
use borrow.Author.Tests.{le-leb, lt-leb, ltb-true, ltb-false}
use lib.Dec.{leb, ltb}
use lib.ListN.{length, take, get_or, set, replicate, length-set, get_or-eq_default}
use lib.Seq.{sets, drop-drop, get_or-set_same, get_or-set_other}
use borrow.Rule.Slice.PartMut.{put_mid}
use Rattle.std.proofs.lemmas.List.{append_assoc}
use Rattle.std.proofs.lemmas.List.Edits.{sets-eq}
use Rattle.meaning.specs.Base.{Each, no_element, an_element}
use Rattle.meaning.specs.Reading.{Read, bad, got, Parser, on_from, byte_at, byte_within, byte, number16, number32, many}
use Rattle.meaning.specs.ByteLayouts.{value}
use Rattle.meaning.specs.Values.{signed}
use Rattle.meaning.proofs.Parsing.{on-from-got, same-value, same_place}
use Rattle.meaning.proofs.RunsFit.{Gives}
use Rattle.words.specs.Words.{Bytes, word16_at, word32_at, low32_at, low_bytes4, read, end_of, and_more, readable}

-- a test is true or false, and which is known
pub split : {P : Type 0} (t : Bool) → (t ≡ true → P) → (t ≡ false → P) → P
split true f g = f refl
split false f g = g refl

-- no place of a list of one value holds another, and past its end is the default
pub all_same : {A : Type 0} (n k : ℕ) (a : A) → get_or (replicate n a) k a ≡ a
all_same zero k a = refl
all_same (suc n) zero a = refl
all_same (suc n) (suc k) a = all_same n k a

-- ---- One byte

-- within the list the default is not looked at
pub get_d_any : (s : List ℕ) (i d e : ℕ) → i < length s → get_or s i d ≡ get_or s i e
get_d_any [] i d e h = absurd (omega arith)
get_d_any (x ∷ s) zero d e h = refl
get_d_any (x ∷ s) (suc i) d e h = get_d_any s i d e (omega arith)

pub byte-here : (s : List ℕ) (at : ℕ) → at < length s → get_or s at 0 ≡ byte_at s at
byte-here s at h = get_d_any s at 0 256 h

pub byte_past : (s : List ℕ) (at : ℕ) → length s ≤ at → byte_at s at ≡ 256
byte_past s at h = get_or-eq_default s 256 h

pub byte-lt : (s : List ℕ) → Bytes s → (at : ℕ) → at < length s → byte_at s at < 256
byte-lt s b at h = rw (← byte-here s at h) (b at)

pub byte-within-yes : (lo hi : ℕ) (s : List ℕ) (at : ℕ) → lo ≤ byte_at s at → byte_at s at ≤ hi
    → byte_within lo hi s at ≡ got (byte_at s at) (at + 1)
unfolding byte_within
byte-within-yes lo hi s at l h = rw (le-leb lo (byte_at s at) l, le-leb (byte_at s at) hi h)

pub byte-within-low : (lo hi : ℕ) (s : List ℕ) (at : ℕ) → byte_at s at < lo → byte_within lo hi s at ≡ bad
unfolding byte_within
byte-within-low lo hi s at h = rw (lt-leb lo (byte_at s at) h)

-- a range that one test refuses
no-range : (t : Bool) (r : Read ℕ) → (if t && false then r else bad) ≡ bad
no-range true r = refl
no-range false r = refl

pub byte-within-high : (lo hi : ℕ) (s : List ℕ) (at : ℕ) → hi < byte_at s at → byte_within lo hi s at ≡ bad
unfolding byte_within
byte-within-high lo hi s at h = rw (lt-leb (byte_at s at) hi h) (no-range (leb lo (byte_at s at)) _)

pub byte-read : (s : List ℕ) → Bytes s → (at : ℕ) → at < length s → byte s at ≡ got (byte_at s at) (at + 1)
unfolding byte
byte-read s b at h = byte-within-yes 0 255 s at (omega arith) (omega (arith, byte-lt s b at h))

pub byte-short : (s : List ℕ) (at : ℕ) → length s ≤ at → byte s at ≡ bad
unfolding byte
byte-short s at h = byte-within-high 0 255 s at (omega (arith, byte_past s at h))

-- ---- Numbers

module _ (s : List ℕ) (b : Bytes s) (at : ℕ) where
  pub low32-lt : low32_at s at < 4294967296
  unfolding low32_at
  low32-lt = omega (arith, b at, b (at + 1), b (at + 2), b (at + 3))

  pub number16-read : at + 2 ≤ length s → number16 s at ≡ got (word16_at s at) (at + 2)
  unfolding number16 word16_at
  number16-read h =
      let next : at + 1 + 1 ≡ at + 2 = omega arith in
      rw (byte-read s b at (omega arith), byte-read s b (at + 1) (omega arith))
      (rw (← byte-here s at (omega arith), ← byte-here s (at + 1) (omega arith), next))

  pub number16-short : length s < at + 2 → number16 s at ≡ bad
  unfolding number16
  number16-short h =
      split (ltb at (length s))
      (λ e. rw (byte-read s b at (ltb-true at (length s) e), byte-short s (at + 1) (omega arith)))
      (λ e. rw (byte-short s at (ltb-false at (length s) e)))

module _ (s : List ℕ) (b : Bytes s) (at : ℕ) where
  pub number32-read : at + 4 ≤ length s → number32 s at ≡ got (word32_at s at) (at + 4)
  unfolding number32 word16_at word32_at
  number32-read h =
      let next : at + 2 + 2 ≡ at + 4 = omega arith in
      let third : at + 2 + 1 ≡ at + 3 = omega arith in
      rw (number16-read s b at (omega arith), number16-read s b (at + 2) (omega arith), next, third)
      (ap (λ (n : ℕ). got n (at + 4)) (omega arith))

  pub number32-short : length s < at + 4 → number32 s at ≡ bad
  unfolding number32
  number32-short h =
      split (ltb (length s) (at + 2))
      (λ e. rw (number16-short s b at (ltb-true (length s) (at + 2) e)))
      (λ e. rw (number16-read s b at (ltb-false (length s) (at + 2) e), number16-short s b (at + 2) (omega arith)))

  pub value_read : at + 4 ≤ length s → value s at ≡ got (signed (word32_at s at)) (at + 4)
  unfolding value
  value_read h = rw (number32-read h)

  pub value-short : length s < at + 4 → value s at ≡ bad
  unfolding value
  value-short h = rw (number32-short h)

-- ---- n of them, one after another: by what the first gives, for a loop over those that are left

module _ {A : Type 0} (p : Parser A) where
  pub many-none : (n : ℕ) (s : List ℕ) (at : ℕ) → n ≤ 0 → many n p s at ≡ got [] at
  unfolding many
  many-none zero s at h = refl
  many-none (suc n) s at h = absurd (omega arith)

  pub many-bad : (n : ℕ) (s : List ℕ) (at : ℕ) → 0 < n → p s at ≡ bad → many n p s at ≡ bad
  unfolding many
  many-bad zero s at h e = absurd (omega arith)
  many-bad (suc n) s at h e = rw e

  pub many_more : (n : ℕ) (s : List ℕ) (at : ℕ) (x : A) (next : ℕ) → 0 < n → p s at ≡ got x next
      → many n p s at ≡ on_from (many (n - 1) p s next) (λ xs e. got (x ∷ xs) e)
  unfolding many
  many_more zero s at x next h e = absurd (omega arith)
  many_more (suc n) s at x next h e = simp unary_clauses (rw e)

-- where n are read, the first of them, and the others after it
pub record FirstOf {A : Type 0} (p : Parser A) (n : ℕ) (s : List ℕ) (at : ℕ) (xs : List A) (end : ℕ) : Type 0 where
  pub first : A
  pub next : ℕ
  pub others : List A
  pub read : p s at ≡ got first next
  pub more : many (n - 1) p s next ≡ got others end
  pub all : xs ≡ first ∷ others

pub first_of : {A : Type 0} (p : Parser A) (n : ℕ) (s : List ℕ) (at : ℕ) {xs : List A} {end : ℕ} → 0 < n → many n p s at ≡ got xs end
    → FirstOf p n s at xs end
unfolding many
first_of p zero s at h e = absurd (omega arith)
first_of p (suc n) s at h e =
    on-from-got (p s at) _ e (λ x next one rest.
    on-from-got (many n p s next) _ rest (λ ys end two same.
    record {
      first = x;
      next = next;
      others = ys;
      read = one;
      more = simp unary_clauses (two ∙ ap (got ys) (same_place same));
      all = sym (same-value same);
    }))

-- ---- What an answer tells that was read

module _ {A : Type 0} {r : Option (A × ℕ)} {p : Read A} (same : read r ≡ p) where
  pub reads-bad : r ≡ None → p ≡ bad
  reads-bad was = sym same ∙ ap read was

  pub reads-got : {x : A} {next : ℕ} → r ≡ Some (x, next) → p ≡ got x next
  reads-got was = sym same ∙ ap read was

-- ---- Where a structure ends

module _ {A : Type 0} where
  pub ends-got : (x : A) (next : ℕ) → end_of (got x next) ≡ Some next
  ends-got x next = refl

  -- what ends nowhere is bad
  pub short-bad : (r : Read A) → end_of r ≡ None → r ≡ bad
  short-bad bad h = refl
  short-bad (got x next) h = cc

module _ {A B : Type 0} where
  -- a second structure after the first: where both end depends on where the first ends alone
  pub ends_on : (r : Read A) (f : A → ℕ → Read B) (g : ℕ → Option ℕ) (next : ℕ)
      → ((x : A) (e : ℕ) → end_of (f x e) ≡ g e) → end_of r ≡ Some next → end_of (on_from r f) ≡ g next
  ends_on bad f g next same h = cc
  ends_on (got x e) f g next same h = same x e ∙ ap g (cc)

  -- a value made of what was read ends where that ends
  pub ends-made : (r : Read A) (f : A → B) → end_of (on_from r (λ x e. got (f x) e)) ≡ end_of r
  ends-made bad f = refl
  ends-made (got x e) f = refl

module _ {A : Type 0} (p : Parser A) where
  pub ends-none : (n : ℕ) (s : List ℕ) (at : ℕ) → n ≤ 0 → end_of (many n p s at) ≡ Some at
  ends-none n s at h = rw (many-none p n s at h)

  pub ends-bad : (n : ℕ) (s : List ℕ) (at : ℕ) → 0 < n → end_of (p s at) ≡ None → end_of (many n p s at) ≡ None
  ends-bad n s at h e = rw (many-bad p n s at h (short-bad (p s at) e))

  pub ends_more : (n : ℕ) (s : List ℕ) (at next : ℕ) → 0 < n → end_of (p s at) ≡ Some next
      → end_of (many n p s at) ≡ end_of (many (n - 1) p s next)
  unfolding many
  ends_more zero s at next h e = absurd (omega arith)
  ends_more (suc n) s at next h e =
      simp unary_clauses (ends_on (p s at) _ (λ k. end_of (many n p s k)) next (λ x k. ends-made (many n p s k) (λ xs. x ∷ xs)) e)

  -- all n that are read are readable
  read-readable : (r : Read A) (f : ℕ → Read (List A)) (g : ℕ → List A) (xs : List A) (e : ℕ)
      → ((k : ℕ) (ys : List A) (d : ℕ) → f k ≡ got ys d → g k ≡ ys)
      → on_from r (λ x d. on_from (f d) (λ ys d'. got (x ∷ ys) d')) ≡ got xs e → and_more r g ≡ xs
  unfolding and_more
  read-readable bad f g xs e ih h = cc
  read-readable (got x d) f g xs e ih h = go x (f d) (g d) xs e (ih d) h
    where
      go : (x : A) (r : Read (List A)) (ys xs : List A) (e : ℕ) → ((zs : List A) (k : ℕ) → r ≡ got zs k → ys ≡ zs)
          → on_from r (λ zs k. got (x ∷ zs) k) ≡ got xs e → x ∷ ys ≡ xs
      go x bad ys xs e ih h = cc
      go x (got zs k) ys xs e ih h = cc (ih zs k refl)

  pub readable-many : (n : ℕ) (s : List ℕ) (at : ℕ) (xs : List A) (e : ℕ) → many n p s at ≡ got xs e → readable n p s at ≡ xs
  unfolding many readable
  readable-many zero s at xs e h = cc
  readable-many (suc n) s at xs e h = read-readable (p s at) (many n p s) (readable n p s) xs e (readable-many n s) h

  end-got : (r : Read (List A)) (xs : List A) (e : ℕ) → ((ys : List A) (k : ℕ) → r ≡ got ys k → xs ≡ ys) → end_of r ≡ Some e → r ≡ got xs e
  end-got bad xs e f h = absurd (let z : ◌≡◌ {A = ℕ} 0 1 = cc in omega arith)
  end-got (got ys k) xs e f h = let same : k ≡ e = cc in rw (f ys k refl, same)

  -- where n end, they are the readable ones
  pub ends-readable : (n : ℕ) (s : List ℕ) (at e : ℕ) → end_of (many n p s at) ≡ Some e → many n p s at ≡ got (readable n p s at) e
  ends-readable n s at e h = end-got (many n p s at) (readable n p s at) e (λ ys k q. readable-many n s at ys k q) h

  pub readable-none : (n : ℕ) (s : List ℕ) (at : ℕ) → n ≤ 0 → readable n p s at ≡ []
  unfolding readable
  readable-none zero s at h = refl
  readable-none (suc n) s at h = absurd (omega arith)

  pub readable-bad : (n : ℕ) (s : List ℕ) (at : ℕ) → p s at ≡ bad → readable n p s at ≡ []
  unfolding readable and_more
  readable-bad zero s at e = refl
  readable-bad (suc n) s at e = rw e

  pub readable-more : (n : ℕ) (s : List ℕ) (at : ℕ) (x : A) (next : ℕ) → 0 < n → p s at ≡ got x next
      → readable n p s at ≡ x ∷ readable (n - 1) p s next
  unfolding readable and_more
  readable-more zero s at x next h e = absurd (omega arith)
  readable-more (suc n) s at x next h e = simp unary_clauses (rw e)

-- for the attributes of decoders, which name no lemma with a dash
pub ruleset read_in_a_row = (ends-readable)

-- each that can be read is what the parser gives
pub readable-each : {A : Type 0} {P : A → Type 0} {p : Parser A} → Gives p P → (n : ℕ) (s : List ℕ) (at : ℕ) → Each P (readable n p s at)
unfolding readable and_more
readable-each g zero s at = no_element
readable-each {A} {P} {p} g (suc n) s at = go (p s at) refl (readable-each g n s)
  where
    go : (r : Read A) → p s at ≡ r → ((k : ℕ) → Each P (readable n p s k)) → Each P (and_more r (readable n p s))
    go bad e ih = no_element
    go (got x next) e ih = an_element (g.fit e) (ih next)

-- ---- Writing

-- stores from a place on change nothing before it and nothing after the last
pub sets_below : (vs xs : List ℕ) (at j d : ℕ) → j < at → get_or (sets xs at vs) j d ≡ get_or xs j d
sets_below [] xs at j d h = refl
sets_below (v ∷ vs) xs at j d h = sets_below vs (set xs at v) (suc at) j d (omega arith) ∙ get_or-set_other xs at j v d (omega arith)

pub sets-above : (vs xs : List ℕ) (at j d : ℕ) → at + length vs ≤ j → get_or (sets xs at vs) j d ≡ get_or xs j d
sets-above [] xs at j d h = refl
sets-above (v ∷ vs) xs at j d h = sets-above vs (set xs at v) (suc at) j d (omega arith) ∙ get_or-set_other xs at j v d (omega arith)

-- and each is found where it was stored
pub sets-within : (vs xs : List ℕ) (at k d : ℕ) → k < length vs → at + length vs ≤ length xs
    → get_or (sets xs at vs) (at + k) d ≡ get_or vs k d
sets-within [] xs at k d h fits = absurd (omega arith)
sets-within (v ∷ vs) xs at zero d h fits =
    rw add-zero (sets_below vs (set xs at v) (suc at) at d (omega arith) ∙ get_or-set_same xs at v d (omega arith))
sets-within (v ∷ vs) xs at (suc k) d h fits =
    let e : at + suc k ≡ suc at + k = omega arith in
    rw e (sets-within vs (set xs at v) (suc at) k d (omega arith) (simp length-set (omega arith)))

-- a word of the working room that was put there
module _ (xs : List ℕ) (at v : ℕ) where
  pub read-written-low32 : v < 4294967296 → at + 4 ≤ length xs → low32_at (sets xs at (low_bytes4 v)) at ≡ v
  unfolding low32_at low_bytes4
  read-written-low32 small fits =
      let w = low_bytes4 v in
      let top : v / 16777216 % 256 ≡ v / 16777216 = omega arith in
      let first : get_or (sets xs at w) at 0 ≡ v % 256 = rw add-zero at (sets-within w xs at 0 0 (omega arith) fits) in
      let last : get_or (sets xs at w) (at + 3) 0 ≡ v / 16777216 = sets-within w xs at 3 0 (omega arith) fits ∙ top in
      omega (arith, sets-within w xs at 1 0 (omega arith) fits, sets-within w xs at 2 0 (omega arith) fits)

  pub written-low32-below : (j d : ℕ) → j < at → get_or (sets xs at (low_bytes4 v)) j d ≡ get_or xs j d
  written-low32-below j d h = sets_below (low_bytes4 v) xs at j d h

  pub written-low32-above : (j d : ℕ) → at + 4 ≤ j → get_or (sets xs at (low_bytes4 v)) j d ≡ get_or xs j d
  unfolding low_bytes4
  written-low32-above j d h = sets-above (low_bytes4 v) xs at j d h

-- what overwrites a part is stored there, from its first place on
pub part-sets : (xs : List ℕ) (at : ℕ) (vs : List ℕ) {ys : List ℕ} {e : ℕ} → ys ≡ vs → e ≡ at + length vs → e ≤ length xs → put_mid at (e - at) xs ys ≡ sets xs at vs
part-sets xs at vs {ys} {e} same end fits =
    let size : e - at ≡ length vs = omega arith in
    rw (same, size, sets-eq vs xs at (omega arith), drop-drop (length vs) at xs) (sym (append_assoc (take at xs) vs _))
