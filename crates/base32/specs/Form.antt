-- The rules of Base32's form, on quintets. Nothing here comes from writing or reading.
use Rattle.std.specs.Prelude.{ℕ, ◌+◌, ◌-◌, ◌*◌, ◌/◌, ◌%◌, Bool, ◌||◌, List, eqb, length}
use Rattle.basis.specs.Tests.{both, every}
use Rattle.basis.specs.Rows.{at}
use Rattle.base32.specs.Bits.{row_bit}

-- how many whole octets n quintets hold
abbrev pub octet_count : ℕ → ℕ
octet_count n = 5 * n / 8

-- the length leaves 0, 2, 4, 5 or 7 on division by 8
unfoldable pub length_lawful : ℕ → Bool
length_lawful n = eqb (n % 8) 0 || eqb (n % 8) 2 || eqb (n % 8) 4 || eqb (n % 8) 5 || eqb (n % 8) 7

-- the bits after the last whole octet are zero
unfoldable pub spare_zero : List ℕ → Bool
spare_zero quintets =
    every (5 * length quintets - 8 * octet_count (length quintets))
    (λ k. eqb (row_bit 5 (at quintets) (8 * octet_count (length quintets) + k)) 0)

-- a row of quintets is lawful Base32
unfoldable pub is_lawful : List ℕ → Bool
is_lawful quintets = both (length_lawful (length quintets)) (spare_zero quintets)
