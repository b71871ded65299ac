-- General tools, with no meaning of their own: a choice, tests over lists, what an optional value leads to, the bits of a number, and what
-- is said of the elements of a list.
use Rattle.std.specs.Prelude.{◌≡◌, Bool, true, false, ◌&&◌, ◌||◌, List, [], ◌∷◌, ◌++◌, ℕ, zero, suc, ◌/◌, ◌%◌, ◌^◌, eqb, leb, length, drop, if◌then◌else◌}
use Rattle.std.proofs.Math.Option.{Option, none, some}
use Prim.Native.Char.{code}
use Prim.Native.String.{String, [] as []ˢ, ◌∷◌ as ◌∷ˢ◌}

-- lo ≤ n ≤ hi
abbrev pub within : ℕ → ℕ → ℕ → Bool
within lo hi n = leb lo n && leb n hi

-- does the mask have bit k
abbrev pub bit : ℕ → ℕ → Bool
bit mask k = eqb (mask / 2 ^ k % 2) 1

-- n, n + 1, .., k of them
abbrev pub up_from : ℕ → ℕ → List ℕ
up_from n zero = []
up_from n (suc k) = n ∷ up_from (suc n) k

-- the first list at the front of the second, whose later elements stay
abbrev pub in_front_of : List ℕ → List ℕ → List ℕ
in_front_of xs ys = xs ++ drop (length xs) ys

-- the bytes of a text
abbrev pub ascii : String → List ℕ
ascii []ˢ = []
ascii (c ∷ˢ s) = code c ∷ ascii s

module _ {A : Type 0} where
  abbrev pub any : (A → Bool) → List A → Bool
  any p [] = false
  any p (x ∷ xs) = p x || any p xs

  abbrev pub all : (A → Bool) → List A → Bool
  all p [] = true
  all p (x ∷ xs) = p x && all p xs

  -- those that pass, in order
  abbrev pub select : (A → Bool) → List A → List A
  select p [] = []
  select p (x ∷ xs) = if p x then x ∷ select p xs else select p xs

  -- the first that passes
  abbrev pub first_with : (A → Bool) → List A → Option A
  first_with p [] = none
  first_with p (x ∷ xs) = if p x then some x else first_with p xs

  -- is there an element
  abbrev pub some_in : List A → Bool
  some_in [] = false
  some_in (x ∷ xs) = true

  -- in front of a list, if it is there
  abbrev pub before : Option A → List A → List A
  before none xs = xs
  before (some x) xs = x ∷ xs

  abbrev pub both : Option A → Option (List A) → Option (List A)
  both none xs = none
  both (some x) none = none
  both (some x) (some xs) = some (x ∷ xs)

module _ {A B : Type 0} where
  -- on with what is there, or the other
  abbrev pub maybe : Option A → B → (A → B) → B
  maybe none other f = other
  maybe (some a) other f = f a

  -- the results that are there, in order
  abbrev pub gather : (A → Option B) → List A → List B
  gather f [] = []
  gather f (x ∷ xs) = before (f x) (gather f xs)

  -- the result of each element, or none where one has none
  abbrev pub each_or : (A → Option B) → List A → Option (List B)
  each_or f [] = some []
  each_or f (x ∷ xs) = both (f x) (each_or f xs)

-- ---- What is said of the elements of a list

-- x stands in it
infix 4 ◌∈◌
pub data ◌∈◌ {A : Type 0} (x : A) : List A → Type 0 where
  first : {y : A} {ys : List A} → x ≡ y → x ∈ (y ∷ ys)
  later : {y : A} {ys : List A} → x ∈ ys → x ∈ (y ∷ ys)

-- P is so of each
pub data Each {A : Type 0} (P : A → Type 0) : List A → Type 0 where
  no_element : Each P []
  an_element : {x : A} {xs : List A} → P x → Each P xs → Each P (x ∷ xs)

-- the second list is the first with exactly those left out of which P is not so, the others in their order
pub data Picks {A : Type 0} (P : A → Type 0) : List A → List A → Type 0 where
  no_more : Picks P [] []
  takes : {x : A} {xs ys : List A} → P x → Picks P xs ys → Picks P (x ∷ xs) (x ∷ ys)
  leaves : {x : A} {xs ys : List A} → ¬ P x → Picks P xs ys → Picks P (x ∷ xs) ys
