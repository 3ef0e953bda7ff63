-- The digits of a number to a base of at most 16, as characters.
use Rattle.std.specs.Prelude.{ℕ, zero, suc, ◌+◌, ◌/◌, ◌%◌, max, List, [], ◌∷◌, ltb}
use Rattle.basis.specs.Tests.{pick}

-- the character of a digit: 0 to 9, then A to F
unfoldable pub digit_character : ℕ → ℕ
digit_character d = pick (ltb d 10) (48 + d) (55 + d)

-- exactly so many digits of n to the base, highest first, before the rest: the lowest if n has more, zeros in front if it has fewer
unfoldable pub digits_before : ℕ → ℕ → ℕ → List ℕ → List ℕ
digits_before base zero n rest = rest
digits_before base (suc count) n rest = digits_before base count (n / base) (digit_character (n % base) ∷ rest)

-- how many digits n has to the base, without leading zeros; zero has none.
-- The second argument bounds the recursion: n itself is enough
unfoldable pub digit_count : ℕ → ℕ → ℕ → ℕ
digit_count base zero n = zero
digit_count base (suc bound) zero = zero
digit_count base (suc bound) (suc n) = suc (digit_count base bound (suc n / base))

-- so many digits of n to the base
abbrev pub fixed_digits : ℕ → ℕ → ℕ → List ℕ
fixed_digits base count n = digits_before base count n []

-- the digits of n to the base, at least so many, and no further leading zeros
unfoldable pub digits_of : ℕ → ℕ → ℕ → List ℕ
digits_of base least n = fixed_digits base (max least (digit_count base n n)) n
