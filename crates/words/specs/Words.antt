-- Bytes and numbers at places of a slice, and the answers of the functions that read them.
use Rattle.std.specs.Prelude.{◌≡◌, List, [], ◌∷◌, ℕ, zero, suc, ◌+◌, ◌*◌, ◌/◌, ◌%◌, ◌<◌, ◌≤◌, ℤ, length, get_or, Option, Some, None}
use Rattle.std.proofs.Math.Option.{Option as Maybe, none, some}
use Rattle.meaning.specs.Reading.{byte_at, Read, bad, got, Parser}
use Rattle.meaning.specs.Values.{signed}

-- each element is a byte; past the end `get_or` gives 0, which is one too
abbrev pub Bytes : List ℕ → Type 0
Bytes s = (i : ℕ) → get_or s i 0 < 256

-- the big-endian numbers of two and of four bytes at a place
unfoldable pub word16_at : List ℕ → ℕ → ℕ
word16_at s at = get_or s at 0 * 256 + get_or s (at + 1) 0

unfoldable pub word32_at : List ℕ → ℕ → ℕ
word32_at s at = get_or s at 0 * 16777216 + get_or s (at + 1) 0 * 65536 + get_or s (at + 2) 0 * 256 + get_or s (at + 3) 0

-- The number of four bytes, the low byte first, and the bytes of one: the words of the working room, which only the engine reads. On the
-- machines that it is built for, such a word is loaded and stored at once.
unfoldable pub low32_at : List ℕ → ℕ → ℕ
low32_at s at = get_or s (at + 3) 0 * 16777216 + get_or s (at + 2) 0 * 65536 + get_or s (at + 1) 0 * 256 + get_or s at 0

unfoldable pub low_bytes4 : ℕ → List ℕ
low_bytes4 n = n % 256 ∷ n / 256 % 256 ∷ n / 65536 % 256 ∷ n / 16777216 % 256 ∷ []

-- A look at a place: the byte, or 256 past the end. The second part says, in words of arithmetic, that a byte below 256 stands in the
-- slice.
pub record Peeked (s : List ℕ) (at r : ℕ) : Type 0 where
  pub is : r ≡ byte_at s at
  pub inside : at < length s + r / 256 * 18446744073709551616
  pub small : r < 257

-- an `Option` of the code as one of the specification, by what its value means
abbrev pub option_as : {A B : Type 0} → (A → B) → Option A → Maybe B
option_as f None = none
option_as f (Some x) = some (f x)

-- what was read, and the place after it, by what the value means
abbrev pub read_as : {A B : Type 0} → (A → B) → Option (A × ℕ) → Read B
read_as f None = bad
read_as f (Some (x, next)) = got (f x) next

abbrev pub read : {A : Type 0} → Option (A × ℕ) → Read A
read = read_as (λ x. x)

-- a number that was read is in a range
pub record Within (low high : ℕ) (read : ℕ × ℕ) : Type 0 where
  pub low_bound : low ≤ read.0
  pub high_bound : read.0 ≤ high

-- where what was read ends
abbrev pub end_of : {A : Type 0} → Read A → Option ℕ
end_of bad = None
end_of (got a next) = Some next

-- what was read, and then more from the place after it
unfoldable pub and_more : {A : Type 0} → Read A → (ℕ → List A) → List A
and_more bad more = []
and_more (got x next) more = x ∷ more next

-- the values that can be read one after another, n at most: all n of them where `many` reads them
unfoldable pub readable : {A : Type 0} → ℕ → Parser A → List ℕ → ℕ → List A
readable zero p s at = []
readable (suc n) p s at = and_more (p s at) (readable n p s)

-- what a sum of two words stands for
abbrev pub sum_meant : Option ℕ → Maybe ℤ
sum_meant = option_as signed
