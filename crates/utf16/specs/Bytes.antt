-- Units as bytes, two for each, the high one first; and texts as bytes, by way of units.
use Rattle.std.specs.Prelude.{ℕ, ◌+◌, ◌*◌, ◌/◌, ◌%◌, List, [], ◌∷◌}
use Rattle.utf16.specs.Units.{to_units, to_points}

-- the units of a row of bytes; a last byte without another makes none
unfoldable pub units_of_bytes : List ℕ → List ℕ
units_of_bytes [] = []
units_of_bytes (high ∷ []) = []
units_of_bytes (high ∷ low ∷ bytes) = (high * 256 + low) ∷ units_of_bytes bytes

-- the bytes of a row of units
unfoldable pub bytes_of_units : List ℕ → List ℕ
bytes_of_units [] = []
bytes_of_units (unit ∷ units) = unit / 256 ∷ unit % 256 ∷ bytes_of_units units

-- the points of a row of bytes
unfoldable pub points_of : List ℕ → List ℕ
points_of bytes = to_points (units_of_bytes bytes)

-- the bytes of a row of points
unfoldable pub bytes_of : List ℕ → List ℕ
bytes_of points = bytes_of_units (to_units points)
