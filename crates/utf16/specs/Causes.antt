-- The causes of refusal of the conversions, each by itself.
use Rattle.std.specs.Prelude.{ℕ, ◌*◌, ◌/◌, ◌%◌, ◌<◌, ◌≡◌, not, List, [], ◌∷◌, length, get_or, take}
use Rattle.basis.specs.Tests.{IsFirst}
use Rattle.basis.specs.Causes.{Cause, whole, placed}
use Rattle.utf16.specs.Points.{is_point}
use Rattle.utf16.specs.Units.{unpaired_at}
use Rattle.utf16.specs.Bytes.{units_of_bytes}

-- 4: a number that is no point, the first at index i
abbrev pub NotAPointAt : List ℕ → ℕ → Type 0
NotAPointAt ps i = IsFirst (length ps) (λ k. not (is_point (get_or ps k 0))) i

-- 10: an unpaired surrogate, the first at index i
abbrev pub UnpairedAt : List ℕ → ℕ → Type 0
UnpairedAt us i = IsFirst (length us) (unpaired_at 0 us) i

-- 12: an odd number of bytes
abbrev pub OddBytes : List ℕ → Type 0
OddBytes bytes = length bytes % 2 ≡ 1

-- points to units: the count is above the row; fewer units than twice the points; a number that is
-- no point
abbrev pub to_units_causes : List ℕ → ℕ → ℕ → List Cause
to_units_causes ps count capacity = whole 1 (length ps < count) ∷ whole 1 (capacity < 2 * count) ∷ placed 4 (NotAPointAt (take count ps)) ∷ []

-- units to points: the count is above the row; fewer points than units; an unpaired surrogate
abbrev pub to_points_causes : List ℕ → ℕ → ℕ → List Cause
to_points_causes us count capacity = whole 1 (length us < count) ∷ whole 1 (capacity < count) ∷ placed 10 (UnpairedAt (take count us)) ∷ []

-- points to bytes: the count is above the row; fewer bytes than four times the points; a number
-- that is no point
abbrev pub points_to_bytes_causes : List ℕ → ℕ → ℕ → List Cause
points_to_bytes_causes ps count capacity = whole 1 (length ps < count) ∷ whole 1 (capacity < 4 * count) ∷ placed 4 (NotAPointAt (take count ps)) ∷ []

-- units to bytes: the count is above the row; fewer bytes than twice the units
abbrev pub units_to_bytes_causes : List ℕ → ℕ → ℕ → List Cause
units_to_bytes_causes us count capacity = whole 1 (length us < count) ∷ whole 1 (capacity < 2 * count) ∷ []

-- bytes to units: fewer units than pairs of bytes; an odd number of bytes
abbrev pub bytes_to_units_causes : List ℕ → ℕ → List Cause
bytes_to_units_causes bytes capacity = whole 1 (capacity < length bytes / 2) ∷ whole 12 (OddBytes bytes) ∷ []

-- bytes to points: an odd number of bytes; fewer points than pairs of bytes; an unpaired surrogate
abbrev pub bytes_to_points_causes : List ℕ → ℕ → List Cause
bytes_to_points_causes bytes capacity = whole 12 (OddBytes bytes) ∷ whole 1 (capacity < length bytes / 2) ∷ placed 10 (UnpairedAt (units_of_bytes bytes)) ∷ []
