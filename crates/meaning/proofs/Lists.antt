-- Laws of Bools, optional values and lists: lists of which each element is so, tests over lists, and membership, `any (eqb k) xs`, all by
-- induction. Distinct numbers that all stand in a list are no more than it has, as each takes away another of its elements.
use Rattle.std.specs.Prelude.{if◌then◌else◌}
use mathlib.Core.Path.{◌≡◌, refl, sym, ap, ◌∙◌, subst}
use mathlib.Core.Bool.{Bool, true, false, ◌&&◌, ◌||◌}
use mathlib.Core.List.{List, [], ◌∷◌, ◌++◌}
use mathlib.Core.Logic.{◌⊎◌, inl, inr}
use mathlib.Core.Option.{Option, none, some}
use Prim.Native.Nat.{ℕ, zero, suc, ◌+◌, ◌≤◌, ◌<◌}
use native.Mathlib.Omega.{arith}
use lib.Dec.{eqb}
use lib.ListN.{length, drop, get_elem?}
use borrow.Author.Tests.{eqb-true, eqb-false, eq-eqb}
use Rattle.meaning.specs.Base.{maybe, up_from, any, all, select, first_with, Each, no_element, an_element}

-- ---- Bools

pub true-is-false : {A : Type 0} {b : Bool} → b ≡ true → b ≡ false → A
true-is-false t f = absurd (let z : ◌≡◌ {A = ℕ} 0 1 = cc in omega arith)

pub or_cases : (a b : Bool) → a || b ≡ true → (a ≡ true) ⊎ (b ≡ true)
or_cases true b h = inl refl
or_cases false b h = inr h

pub or_left : (a b : Bool) → a ≡ true → a || b ≡ true
or_left a b h = rw h

pub or_right : (a b : Bool) → b ≡ true → a || b ≡ true
or_right true b h = refl
or_right false b h = h

pub or-false : (a b : Bool) → a || b ≡ false → (a ≡ false) × (b ≡ false)
or-false true b h = true-is-false refl h
or-false false b h = (refl, h)

pub and-true : (a b : Bool) → a && b ≡ true → (a ≡ true) × (b ≡ true)
and-true true b h = (refl, h)
and-true false b h = true-is-false h refl

pub and-false : (a b : Bool) → a && b ≡ false → (a ≡ false) ⊎ (b ≡ false)
and-false true b h = inr h
and-false false b h = inl refl

-- ---- Optional values

-- none and some differ
pub clash {ℓ} : {X : Type ℓ} {A : Type 0} {a : A} {o : Option A} → o ≡ none → o ≡ some a → X
clash p q = absurd (let z : ◌≡◌ {A = ℕ} 0 1 = cc in omega arith)

pub same_some : {A : Type 0} {a b : A} → ◌≡◌ {A = Option A} (some a) (some b) → a ≡ b
same_some e = cc

-- what is found at a place stands below the end
pub there-below : {A : Type 0} (xs : List A) (k : ℕ) (x : A) → get_elem? xs k ≡ some x → k < length xs
there-below [] k x q = clash refl q
there-below (y ∷ ys) zero x q = omega arith
there-below (y ∷ ys) (suc k) x q = let h = there-below ys k x q in omega arith

-- what passes a test is there
pub some-passes : {A : Type 0} (p : A → Bool) (o : Option A) → maybe o false p ≡ true → (x : A) × (o ≡ some x)
some-passes p none h = true-is-false h refl
some-passes p (some x) h = (x, refl)

-- ---- What is so of both results of a test is so of the result

module _ {A : Type 0} (P : A → Type 0) where
  pub if-so : {x y : A} (b : Bool) → (b ≡ true → P x) → (b ≡ false → P y) → P (if b then x else y)
  if-so true p q = p refl
  if-so false p q = q refl

  pub maybe-so : {B : Type 0} {d : A} {f : B → A} (o : Option B) → (o ≡ none → P d) → ((x : B) → o ≡ some x → P (f x))
      → P (maybe o d f)
  maybe-so none p q = p refl
  maybe-so (some x) p q = q x refl

-- ---- Lists of which each element is so

module _ {A : Type 0} {P : A → Type 0} where
  pub each-select : {xs : List A} (p : A → Bool) → Each P xs → Each P (select p xs)
  each-select p no_element = no_element
  each-select p (an_element {x = x} {xs = xs} a rest) = go (p x) (each-select p rest)
    where
      go : (b : Bool) → Each P (select p xs) → Each P (if b then x ∷ select p xs else select p xs)
      go true ih = an_element a ih
      go false ih = ih

  pub each-drop : {xs : List A} (n : ℕ) → Each P xs → Each P (drop n xs)
  each-drop zero rest = rest
  each-drop (suc n) no_element = no_element
  each-drop (suc n) (an_element {x = x} {xs = xs} a rest) = each-drop {xs = xs} n rest

  pub each-element : {xs : List A} {x : A} (k : ℕ) → Each P xs → get_elem? xs k ≡ some x → P x
  each-element k no_element q = absurd (let z : ◌≡◌ {A = ℕ} 0 1 = cc in omega arith)
  each-element zero (an_element {x = y} a rest) q = subst P (cc) a
  each-element (suc k) (an_element a rest) q = each-element k rest q

-- ---- Tests over any list

module _ {A : Type 0} (p : A → Bool) where
  pub any_append : (xs ys : List A) → any p (xs ++ ys) ≡ any p xs || any p ys
  any_append [] ys = refl
  any_append (x ∷ xs) ys = go (p x) (any_append xs ys)
    where
      go : (b : Bool) → any p (xs ++ ys) ≡ any p xs || any p ys → b || any p (xs ++ ys) ≡ (b || any p xs) || any p ys
      go true h = refl
      go false h = h

  pub any-front : (xs ys : List A) → any p xs ≡ true → any p (xs ++ ys) ≡ true
  any-front xs ys h = rw (any_append xs ys) (or_left (any p xs) (any p ys) h)

  pub any-back : (xs ys : List A) → any p ys ≡ true → any p (xs ++ ys) ≡ true
  any-back xs ys h = rw (any_append xs ys) (or_right (any p xs) (any p ys) h)

  -- an element that passes, and that none before it does
  pub record First (xs : List A) (x : A) : Type 0 where
    pub before : List A
    pub after : List A
    pub split : xs ≡ before ++ (x ∷ after)
    pub passes : p x ≡ true
    pub earlier : any p before ≡ false

  pub first-is : (xs : List A) (x : A) → first_with p xs ≡ some x → First xs x
  first-is [] x h = absurd (let z : ◌≡◌ {A = ℕ} 0 1 = cc in omega arith)
  first-is (y ∷ ys) x h = go (p y) refl (first-is ys x)
    where
      go : (b : Bool) → p y ≡ b → (first_with p ys ≡ some x → First ys x) → First (y ∷ ys) x
      go true e f =
          let q : ◌≡◌ {A = Option A} (some y) (some x) = rw e at h in
          let s : y ≡ x = cc in
          record { before = []; after = ys; split = ap (λ (z : A). z ∷ ys) s; passes = ap p (sym s) ∙ e; earlier = refl }
      go false e f =
          let r = f (rw e at h) in
          record {
            before = y ∷ r.before;
            after = r.after;
            split = ap (λ (l : List A). y ∷ l) r.split;
            passes = r.passes;
            earlier = rw e r.earlier;
          }

  pub first-none : (xs : List A) → first_with p xs ≡ none → any p xs ≡ false
  first-none [] h = refl
  first-none (y ∷ ys) h = go (p y) refl (first-none ys)
    where
      go : (b : Bool) → p y ≡ b → (first_with p ys ≡ none → any p ys ≡ false) → p y || any p ys ≡ false
      go true e f = absurd (let q : ◌≡◌ {A = Option A} (some y) none = rw e at h in let z : ◌≡◌ {A = ℕ} 0 1 = cc in omega arith)
      go false e f = rw e (f (rw e at h))

-- a list with an element in it is not empty
pub not-empty : {A B : Type 0} (xs : List A) (x : A) (ys : List A) → [] ≡ xs ++ (x ∷ ys) → B
not-empty [] x ys h = absurd (let z : ◌≡◌ {A = ℕ} 0 1 = cc in omega arith)
not-empty (a ∷ xs) x ys h = absurd (let z : ◌≡◌ {A = ℕ} 0 1 = cc in omega arith)

-- one element more at the end: a place in the longer list is that end, or stands in the shorter one
pub data AtEnd {A : Type 0} (zs : List A) (z : A) (xs : List A) (x : A) : Type 0 where
  is_end : xs ≡ zs → x ≡ z → AtEnd zs z xs x
  is_before : (rest : List A) → zs ≡ xs ++ (x ∷ rest) → AtEnd zs z xs x

pub at-end : {A : Type 0} (zs : List A) (z : A) (xs : List A) (x : A) (ys : List A) → zs ++ (z ∷ []) ≡ xs ++ (x ∷ ys) → AtEnd zs z xs x
at-end [] z [] x ys h = is_end refl (cc)
at-end [] z (a ∷ xs) x ys h = not-empty xs x ys (cc)
at-end (a ∷ zs) z [] x ys h = is_before zs (let q : a ≡ x = cc in rw q)
at-end (a ∷ zs) z (b ∷ xs) x ys h = go (at-end zs z xs x ys (cc))
  where
    s : b ≡ a
    s = cc

    go : AtEnd zs z xs x → AtEnd (a ∷ zs) z (b ∷ xs) x
    go (is_end e f) = is_end (rw (s, e)) f
    go (is_before rest e) = is_before rest (rw (s, e))

-- ---- Membership

-- is the number in the list
abbrev pub has : ℕ → List ℕ → Bool
has k xs = any (eqb k) xs

pub eqb-self : (k : ℕ) → eqb k k ≡ true
eqb-self k = eq-eqb k k refl

pub has_here : (k : ℕ) (xs ys : List ℕ) → has k (xs ++ (k ∷ ys)) ≡ true
has_here k xs ys = any-back (eqb k) xs (k ∷ ys) (rw (eqb-self k))

-- where it stands
pub record Split (k : ℕ) (xs : List ℕ) : Type 0 where
  pub before : List ℕ
  pub after : List ℕ
  pub split : xs ≡ before ++ (k ∷ after)

pub has_split : (k : ℕ) (xs : List ℕ) → has k xs ≡ true → Split k xs
has_split k [] h = true-is-false h refl
has_split k (x ∷ xs) h = go (eqb k x) refl (has_split k xs)
  where
    go : (b : Bool) → eqb k x ≡ b → (has k xs ≡ true → Split k xs) → Split k (x ∷ xs)
    go true e f = record { before = []; after = xs; split = ap (λ (z : ℕ). z ∷ xs) (sym (eqb-true k x e)) }
    go false e f =
        let s = f (rw e at h) in
        record { before = x ∷ s.before; after = s.after; split = ap (λ (l : List ℕ). x ∷ l) s.split }

-- a test that holds of a member holds of some element
pub has-any : (p : ℕ → Bool) (k : ℕ) (xs : List ℕ) → has k xs ≡ true → p k ≡ true → any p xs ≡ true
has-any p k xs h t = let s = has_split k xs h in rw s.split (any-back p s.before (k ∷ s.after) (rw t))

-- what no element passes, no member passes
pub has-none : (p : ℕ → Bool) (k : ℕ) (xs : List ℕ) → has k xs ≡ true → any p xs ≡ false → p k ≡ false
has-none p k xs h n = go (p k) refl
  where
    go : (b : Bool) → p k ≡ b → b ≡ false
    go true e = true-is-false (has-any p k xs h e) n
    go false e = refl

-- what all elements pass, each member passes
pub has_all : (p : ℕ → Bool) (k : ℕ) (xs : List ℕ) → has k xs ≡ true → all p xs ≡ true → p k ≡ true
has_all p k [] h t = true-is-false h refl
has_all p k (x ∷ xs) h t = go (or_cases (eqb k x) (has k xs) h) (and-true (p x) (all p xs) t) (has_all p k xs)
  where
    go : (eqb k x ≡ true) ⊎ (has k xs ≡ true) → (p x ≡ true) × (all p xs ≡ true)
        → (has k xs ≡ true → all p xs ≡ true → p k ≡ true) → p k ≡ true
    go (inl e) (a, b) f = ap p (eqb-true k x e) ∙ a
    go (inr e) (a, b) f = f e b

-- where not all pass, there is a member that does not
pub all-false : (p : ℕ → Bool) (xs : List ℕ) → all p xs ≡ false → (k : ℕ) × (has k xs ≡ true) × (p k ≡ false)
all-false p [] h = true-is-false refl h
all-false p (x ∷ xs) h = go (and-false (p x) (all p xs) h) (all-false p xs)
  where
    go : (p x ≡ false) ⊎ (all p xs ≡ false) → (all p xs ≡ false → (k : ℕ) × (has k xs ≡ true) × (p k ≡ false))
        → (k : ℕ) × (has k (x ∷ xs) ≡ true) × (p k ≡ false)
    go (inl e) f = (x, rw (eqb-self x), e)
    go (inr e) f = let r = f e in (r.0, or_right (eqb r.0 x) (has r.0 xs) r.1, r.2)

-- ---- Numbers that rise by one

pub from-has : (k a n : ℕ) → a ≤ k → k < a + n → has k (up_from a n) ≡ true
from-has k a zero l h = absurd (omega arith)
from-has k a (suc n) l h = go (eqb k a) refl (from-has k (suc a) n)
  where
    go : (b : Bool) → eqb k a ≡ b → (suc a ≤ k → k < suc a + n → has k (up_from (suc a) n) ≡ true)
        → eqb k a || has k (up_from (suc a) n) ≡ true
    go true e f = rw e
    go false e f = let d = eqb-false k a e in rw e (f (omega arith) (omega arith))

pub has-from : (k a n : ℕ) → has k (up_from a n) ≡ true → (a ≤ k) × (k < a + n)
has-from k a zero h = true-is-false h refl
has-from k a (suc n) h = go (or_cases (eqb k a) (has k (up_from (suc a) n)) h) (has-from k (suc a) n)
  where
    go : (eqb k a ≡ true) ⊎ (has k (up_from (suc a) n) ≡ true) → (has k (up_from (suc a) n) ≡ true → (suc a ≤ k) × (k < suc a + n))
        → (a ≤ k) × (k < a + suc n)
    go (inl e) f = let d = eqb-true k a e in (omega arith, omega arith)
    go (inr e) f = let d = f e in (omega arith, omega arith)

-- a lower number stands earlier
pub from-earlier : (a n : ℕ) (xs ys : List ℕ) (k : ℕ) → up_from a n ≡ xs ++ (k ∷ ys) → (j : ℕ) → a ≤ j → j < k → has j xs ≡ true
from-earlier a zero xs ys k h j l m = not-empty xs k ys h
from-earlier a (suc n) [] ys k h j l m = absurd (let e : a ≡ k = cc in omega arith)
from-earlier a (suc n) (x ∷ xs) ys k h j l m = go (eqb j x) refl (from-earlier (suc a) n xs ys k (cc) j)
  where
    e : a ≡ x
    e = cc

    go : (b : Bool) → eqb j x ≡ b → (suc a ≤ j → j < k → has j xs ≡ true) → eqb j x || has j xs ≡ true
    go true t f = rw t
    go false t f = let d = eqb-false j x t in rw t (f (omega (arith, e)) m)

pub from-length : (a n : ℕ) → length (up_from a n) ≡ n
from-length a zero = refl
from-length a (suc n) = ap suc (from-length (suc a) n)

-- ---- Distinct numbers

pub data Distinct : List ℕ → Type 0 where
  no_number : Distinct []
  another : {x : ℕ} {xs : List ℕ} → has x xs ≡ false → Distinct xs → Distinct (x ∷ xs)

pub from-distinct : (a n : ℕ) → Distinct (up_from a n)
from-distinct a zero = no_number
from-distinct a (suc n) = another (go (has a (up_from (suc a) n)) refl) (from-distinct (suc a) n)
  where
    go : (b : Bool) → has a (up_from (suc a) n) ≡ b → b ≡ false
    go true e = absurd (let d = has-from a (suc a) n e in omega arith)
    go false e = refl

-- where every element of a list is not among those before it, the elements are distinct
pub all_new : (xs : List ℕ) → ((front back : List ℕ) (k : ℕ) → xs ≡ front ++ (k ∷ back) → has k front ≡ false) → Distinct xs
all_new [] f = no_number
all_new (x ∷ xs) f =
    another (go (has x xs) refl) (all_new xs (λ front back k e. (or-false (eqb k x) (has k front) (f (x ∷ front) back k (rw e))).1))
  where
    go : (b : Bool) → has x xs ≡ b → b ≡ false
    go true e =
        let s = has_split x xs e in
        let n = f (x ∷ s.before) s.after x (ap (λ (l : List ℕ). x ∷ l) s.split) in
        true-is-false (or_left (eqb x x) (has x s.before) (eqb-self x)) n
    go false e = refl

-- the list without one of its elements
unfoldable less : ℕ → List ℕ → List ℕ
less k [] = []
less k (x ∷ xs) = if eqb k x then xs else x ∷ less k xs

less-length : (k : ℕ) (xs : List ℕ) → has k xs ≡ true → suc (length (less k xs)) ≡ length xs
unfolding less
less-length k [] h = true-is-false h refl
less-length k (x ∷ xs) h = go (eqb k x) refl (less-length k xs)
  where
    go : (b : Bool) → eqb k x ≡ b → (has k xs ≡ true → suc (length (less k xs)) ≡ length xs)
        → suc (length (less k (x ∷ xs))) ≡ suc (length xs)
    go true e f = rw e
    go false e f = rw e (ap suc (f (rw e at h)))

less-has : (k j : ℕ) (xs : List ℕ) → eqb j k ≡ false → has j xs ≡ true → has j (less k xs) ≡ true
unfolding less
less-has k j [] n h = h
less-has k j (x ∷ xs) n h = go (eqb k x) refl (eqb j x) refl (less-has k j xs n)
  where
    go : (b : Bool) → eqb k x ≡ b → (d : Bool) → eqb j x ≡ d → (has j xs ≡ true → has j (less k xs) ≡ true) → has j (less k (x ∷ xs)) ≡ true
    go true e true d f = absurd (eqb-false j k n (eqb-true j x d ∙ sym (eqb-true k x e)))
    go true e false d f = rw e (rw d at h)
    go false e true d f = rw (e, d)
    go false e false d f = rw (e, d) (f (rw d at h))

-- distinct numbers that all stand in a list are no more than it has
pub no_longer : {xs : List ℕ} → Distinct xs → (ys : List ℕ) → ((k : ℕ) → has k xs ≡ true → has k ys ≡ true) → length xs ≤ length ys
no_longer no_number ys f = omega arith
no_longer (another {x = x} {xs = xs} n d) ys f =
    let i = f x (rw (eqb-self x)) in
    let h = no_longer d (less x ys) (λ k m. less-has x k ys (other k m (eqb k x) refl) (f k (or_right (eqb k x) (has k xs) m))) in
    omega (arith, less-length x ys i)
  where
    other : (k : ℕ) → has k xs ≡ true → (b : Bool) → eqb k x ≡ b → eqb k x ≡ false
    other k m true e = true-is-false (rw (eqb-true k x e) at m) n
    other k m false e = e

-- distinct numbers below n are at most n
pub at_most : {xs : List ℕ} (n : ℕ) → Distinct xs → ((k : ℕ) → has k xs ≡ true → k < n) → length xs ≤ n
at_most n d f =
    let h = no_longer d (up_from 0 n) (λ k m. let b = f k m in from-has k 0 n (omega arith) (omega arith)) in
    omega (arith, from-length 0 n)

-- n distinct numbers below n are all the numbers below n
pub all_there : (n : ℕ) (xs : List ℕ) → Distinct xs → ((k : ℕ) → has k xs ≡ true → k < n) → n ≤ length xs
    → (k : ℕ) → k < n → has k xs ≡ true
all_there n xs d f l k b = go (has k xs) refl
  where
    below : (j : ℕ) → (eqb j k ≡ true) ⊎ (has j xs ≡ true) → j < n
    below j (inl e) = let q = eqb-true j k e in omega arith
    below j (inr e) = f j e

    go : (c : Bool) → has k xs ≡ c → c ≡ true
    go true e = refl
    go false e = absurd (let h = at_most n (another e d) (λ j m. below j (or_cases (eqb j k) (has j xs) m)) in omega arith)

-- fewer than n numbers leave one below n out
pub one-missing : (n : ℕ) (xs : List ℕ) → length xs < n → (k : ℕ) × (k < n) × (has k xs ≡ false)
one-missing n xs l = go (all (λ k. has k xs) (up_from 0 n)) refl
  where
    go : (b : Bool) → all (λ k. has k xs) (up_from 0 n) ≡ b → (k : ℕ) × (k < n) × (has k xs ≡ false)
    go true e =
        let h = no_longer (from-distinct 0 n) xs (λ k m. has_all (λ j. has j xs) k (up_from 0 n) m e) in
        absurd (omega (arith, from-length 0 n))
    go false e =
        let r = all-false (λ k. has k xs) (up_from 0 n) e in
        let b = has-from r.0 0 n r.1 in
        (r.0, omega arith, r.2)
