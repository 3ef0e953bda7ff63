-- What the conversions between points, units and bytes answer, for every input.
use Rattle.std.specs.Prelude.{ℕ, ◌*◌, ◌/◌, ◌%◌, Bool, List, eqb, ltb, length, take, Result}
use Rattle.basis.specs.Outcome.{Outcome, done, refused_if, outcome_by}
use Rattle.utf16.specs.Points.{first_not_point}
use Rattle.utf16.specs.Units.{to_units, to_points, first_unpaired}
use Rattle.utf16.specs.Bytes.{units_of_bytes, bytes_of_units, points_of, bytes_of}
use Rattle.basis.specs.declared.Refusal.{Refusal}
use Rattle.utf16.specs.declared.UnitCount.{UnitCount}
use Rattle.utf16.specs.declared.PointCount.{PointCount}

-- what an answer in units says, and one in points
abbrev pub units_outcome : Result UnitCount Refusal → Outcome
units_outcome answer = outcome_by (λ count. count.0) answer

abbrev pub points_outcome : Result PointCount Refusal → Outcome
points_outcome answer = outcome_by (λ count. count.0) answer

-- the order of the refusals of a counted row: a count above it, a capacity below the needed, then
-- the first element that has no place in it
unfoldable pub converted : (given count needed capacity first number result : ℕ) → Outcome
converted given count needed capacity first number result =
    refused_if (ltb given count) 1 0
    (refused_if (ltb capacity needed) 1 0
    (refused_if (ltb first count) number first
    (done result)))

-- points to units: twice as many units as points are needed
unfoldable pub to_units_outcome : List ℕ → ℕ → ℕ → Outcome
to_units_outcome ps count capacity =
    converted (length ps) count (2 * count) capacity (first_not_point (take count ps)) 4 (length (to_units (take count ps)))

-- units to points: as many points as units are needed
unfoldable pub to_points_outcome : List ℕ → ℕ → ℕ → Outcome
to_points_outcome us count capacity =
    converted (length us) count count capacity (first_unpaired (take count us)) 10 (length (to_points (take count us)))

-- points to bytes: four times as many bytes as points are needed
unfoldable pub points_to_bytes_outcome : List ℕ → ℕ → ℕ → Outcome
points_to_bytes_outcome ps count capacity =
    converted (length ps) count (4 * count) capacity (first_not_point (take count ps)) 4 (length (bytes_of (take count ps)))

-- units to bytes: 1 for a count above the row, 1 for fewer bytes than twice the units
unfoldable pub units_to_bytes_outcome : List ℕ → ℕ → ℕ → Outcome
units_to_bytes_outcome us count capacity =
    refused_if (ltb (length us) count) 1 0
    (refused_if (ltb capacity (2 * count)) 1 0
    (done (length (bytes_of_units (take count us)))))

-- an odd number
unfoldable pub is_odd : ℕ → Bool
is_odd n = eqb (n % 2) 1

-- bytes to units: 1 for fewer units than pairs of bytes, 12 for an odd number of bytes
unfoldable pub bytes_to_units_outcome : List ℕ → ℕ → Outcome
bytes_to_units_outcome bytes capacity =
    refused_if (ltb capacity (length bytes / 2)) 1 0
    (refused_if (is_odd (length bytes)) 12 0
    (done (length (units_of_bytes bytes))))

-- 10 at the first unpaired surrogate of a row of units, else what follows
unfoldable pub refused_unpaired : List ℕ → Outcome → Outcome
refused_unpaired us next = refused_if (ltb (first_unpaired us) (length us)) 10 (first_unpaired us) next

-- bytes to points: oddness is tested first, 12; then 1 for fewer points than pairs of bytes, and 10
-- at the first unpaired surrogate
unfoldable pub bytes_to_points_outcome : List ℕ → ℕ → Outcome
bytes_to_points_outcome bytes capacity =
    refused_if (is_odd (length bytes)) 12 0
    (refused_if (ltb capacity (length bytes / 2)) 1 0
    (refused_unpaired (units_of_bytes bytes)
    (done (length (points_of bytes)))))
