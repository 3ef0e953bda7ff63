-- Surrogates, and the unpaired ones of a row of UTF-16 units.
use Rattle.std.specs.Prelude.{ℕ, suc, Bool, not, ◌||◌, List, ◌∷◌, length, get_or}
use Rattle.basis.specs.Tests.{both, within, first_below}

-- a high surrogate, the first unit of a pair
unfoldable pub is_high : ℕ → Bool
is_high u = within 0xd800 0xdbff u

-- a low surrogate, the second unit of a pair
unfoldable pub is_low : ℕ → Bool
is_low u = within 0xdc00 0xdfff u

-- the unit u is an unpaired surrogate: a high one with no low one after it, or a low one with no high one before it
unfoldable pub is_unpaired : ℕ → ℕ → ℕ → Bool
is_unpaired before u after = both (is_high u) (not (is_low after)) || both (is_low u) (not (is_high before))

-- the same of the unit at index i of a row that follows the unit before; past the row's end there is 0, no surrogate
unfoldable pub unpaired_at : ℕ → List ℕ → ℕ → Bool
unpaired_at before us i = is_unpaired (get_or (before ∷ us) i 0) (get_or us i 0) (get_or us (suc i) 0)

-- the index of the first unpaired surrogate of a row, or the length
unfoldable pub first_unpaired : List ℕ → ℕ
first_unpaired us = first_below (length us) (unpaired_at 0 us)
