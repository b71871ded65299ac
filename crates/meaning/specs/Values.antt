-- Values: signed 32-bit numbers, in two's complement as bytes. All that is asked of a value is asked here.
use Rattle.std.specs.Prelude.{Bool, ◌&&◌, not, ℕ, ◌-◌, ℤ, pos, negsuc, ◌+ℤ◌, leb, ltb, if◌then◌else◌}
use Rattle.std.proofs.Math.Option.{Option, none, some}
use Rattle.std.specs.Int.Signed.{lt_z, le_z, mag}
use Rattle.meaning.specs.Covers.{Comparison, equal, unequal, less, at_most, greater, at_least}

-- the value that a 32-bit word stands for
unfoldable pub signed : ℕ → ℤ
signed n = if ltb n 2147483648 then pos n else negsuc (4294967295 - n)

-- the word of a value
unfoldable pub unsigned : ℤ → ℕ
unsigned (pos n) = n
unsigned (negsuc n) = 4294967295 - n

-- the two are equal
unfoldable pub agree : ℤ → ℤ → Bool
agree a b = le_z a b && le_z b a

unfoldable pub compare : Comparison → ℤ → ℤ → Bool
compare equal a b = agree a b
compare unequal a b = not (agree a b)
compare less a b = lt_z a b
compare at_most a b = le_z a b
compare greater a b = lt_z b a
compare at_least a b = le_z b a

-- the value, unless it leaves 32 bits: -2147483648 has the magnitude of 2147483647
unfoldable pub in_range : ℤ → Option ℤ
in_range z = if leb (mag z) 2147483647 then some z else none

-- the sum, unless it leaves 32 bits
unfoldable pub plus : ℤ → ℤ → Option ℤ
plus a b = in_range (a +ℤ b)
