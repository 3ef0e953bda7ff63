-- Bits, highest first, of rows of numbers of any width, and rows regrouped from one width to another.
-- A row is a function of the index; the row of a list goes on with zeros, so a last group is filled up with zero bits.
use Rattle.std.specs.Prelude.{ℕ, zero, suc, ◌+◌, ◌-◌, ◌*◌, ◌/◌, ◌%◌, ◌^◌}

-- bit j of the number x of w bits
unfoldable pub bit_of : ℕ → ℕ → ℕ → ℕ
bit_of w x j = x / 2 ^ (w - 1 - j) % 2

-- the number whose w bits are f 0, f 1, .., f (w - 1)
unfoldable pub from_bits : ℕ → (ℕ → ℕ) → ℕ
from_bits zero f = 0
from_bits (suc w) f = 2 * from_bits w f + f w

-- bit k of a row of numbers of w bits
unfoldable pub row_bit : ℕ → (ℕ → ℕ) → ℕ → ℕ
row_bit w row k = bit_of w (row (k / w)) (k % w)

-- number i of w bits that a row of bits holds
unfoldable pub group : ℕ → (ℕ → ℕ) → ℕ → ℕ
group w bits i = from_bits w (λ j. bits (w * i + j))

-- number i of w bits that a row of numbers of v bits holds
unfoldable pub regroup : ℕ → ℕ → (ℕ → ℕ) → ℕ → ℕ
regroup v w row i = group w (row_bit v row) i
