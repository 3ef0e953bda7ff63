-- UTF-16: surrogate pairs, and points to units and back.
use Rattle.std.specs.Prelude.{ℕ, ◌+◌, ◌-◌, ◌*◌, ◌/◌, ◌%◌, List, [], ◌∷◌, ltb}
use Rattle.basis.specs.Tests.{pick}
unfoldable pub use Rattle.surrogates.specs.Surrogates.{is_high, is_low, is_unpaired, unpaired_at, first_unpaired}

-- the pair of a point of 10000 hex or more: what is over 10000 hex, its upper ten bits in the high surrogate
abbrev pub high_of : ℕ → ℕ
high_of p = 0xd800 + (p - 0x10000) / 1024

-- and its lower ten bits in the low surrogate
abbrev pub low_of : ℕ → ℕ
low_of p = 0xdc00 + (p - 0x10000) % 1024

-- the point of a pair: the low ten bits of each surrogate, over 10000 hex
abbrev pub pair_of : ℕ → ℕ → ℕ
pair_of high low = 0x10000 + high % 1024 * 1024 + low % 1024

-- the units of the point p, before the units that follow
unfoldable pub units_of : ℕ → List ℕ → List ℕ
units_of p rest = pick (ltb p 0x10000) (p ∷ rest) (high_of p ∷ low_of p ∷ rest)

-- the units of a row of points
unfoldable pub to_units : List ℕ → List ℕ
to_units [] = []
to_units (p ∷ ps) = units_of p (to_units ps)

-- the point that the unit u ends, after the unit before: a low surrogate ends a pair, a high one ends none
unfoldable pub point_of : ℕ → ℕ → List ℕ → List ℕ
point_of before u rest = pick (is_high u) rest (pick (is_low u) (pair_of before u ∷ rest) (u ∷ rest))

-- the points of a row of units that follows the unit before
unfoldable pub points_after : ℕ → List ℕ → List ℕ
points_after before [] = []
points_after before (u ∷ us) = point_of before u (points_after u us)

-- the points of a row of units
unfoldable pub to_points : List ℕ → List ℕ
to_points us = points_after 0 us
