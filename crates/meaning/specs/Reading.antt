-- How layouts are read: a parser looks at a place of a slice, and gives a value and the place after it, or is bad.
use Rattle.std.specs.Prelude.{Bool, List, [], ◌∷◌, ℕ, zero, suc, ◌+◌, ◌*◌, eqb, length, get_or, if◌then◌else◌}
use Rattle.std.proofs.Math.Option.{Option, none, some}
use Rattle.meaning.specs.Base.{within}

pub data Read (A : Type 0) : Type 0 where
  bad : Read A
  got : A → ℕ → Read A

abbrev pub Parser : Type 0 → Type 0
Parser A = List ℕ → ℕ → Read A

-- on from what was read
abbrev pub on_from : {A B : Type 0} → Read A → (A → ℕ → Read B) → Read B
on_from bad f = bad
on_from (got a next) f = f a next

infixl 20 ◌>>=◌ ◌>>◌
abbrev pub ◌>>=◌ : {A B : Type 0} → Parser A → (A → Parser B) → Parser B
◌>>=◌ p f = λ s at. on_from (p s at) (λ a next. f a s next)

abbrev pub ◌>>◌ : {A B : Type 0} → Parser A → Parser B → Parser B
◌>>◌ p q = λ s at. on_from (p s at) (λ a next. q s next)

abbrev pub pure : {A : Type 0} → A → Parser A
pure a = λ s at. got a at

abbrev pub malformed : {A : Type 0} → Parser A
malformed = λ s at. bad

abbrev pub must : Bool → Parser (Unit {0})
must b = λ s at. if b then got tt at else bad

-- the byte at a place; past the end it is 256, which no range admits
abbrev pub byte_at : List ℕ → ℕ → ℕ
byte_at s at = get_or s at 256

-- one byte, which a range must admit
abbrev pub read_byte : ℕ → ℕ → ℕ → ℕ → Read ℕ
read_byte lo hi b at = if within lo hi b then got b (at + 1) else bad

unfoldable pub byte_within : ℕ → ℕ → Parser ℕ
byte_within lo hi = λ s at. read_byte lo hi (byte_at s at) at

unfoldable pub byte : Parser ℕ
byte = byte_within 0 255

-- numbers are big-endian
unfoldable pub number16 : Parser ℕ
number16 = do
  high ← byte
  low ← byte
  pure (high * 256 + low)

unfoldable pub number32 : Parser ℕ
number32 = do
  high ← number16
  low ← number16
  pure (high * 65536 + low)

-- n of them, each where the one before it ends
unfoldable pub many : {A : Type 0} → ℕ → Parser A → Parser (List A)
many zero p = pure []
many (suc n) p = do
  x ← p
  xs ← many n p
  pure (x ∷ xs)

-- n bytes of the slice are left, no more and no fewer
unfoldable pub bytes_left : ℕ → Parser (Unit {0})
bytes_left n = λ s at. must (eqb (at + n) (length s)) s at

-- where a value was read, the value
abbrev pub value_of : {A : Type 0} → Read A → Option A
value_of bad = none
value_of (got a next) = some a

-- what a parser reads from the front of a slice
unfoldable pub read_all : {A : Type 0} → Parser A → List ℕ → Option A
read_all p s = value_of (p s 0)
