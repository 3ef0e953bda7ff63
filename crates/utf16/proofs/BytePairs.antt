-- Laws on units as bytes: elements, lengths, bounds, and that each conversion undoes the other.
use Prim.Native.Nat.{ℕ, zero, suc, ◌+◌, ◌*◌, ◌-◌, ◌/◌, ◌%◌, ◌^◌, ◌<◌}
use mathlib.Core.Path.{◌≡◌, refl, ap, ap₂}
use mathlib.Core.List.{List, [], ◌∷◌, ◌++◌}
use lib.ListN.{length, get_or, take}
use native.Mathlib.Omega.{arith}
use Rattle.std.specs.Int.{w16, to_be_bytes}
use Rattle.basis.specs.Rows.{AllBelow}
use Rattle.basis.proofs.Lists.{below_none, below_more, below-tail}
use Rattle.utf16.specs.Bytes.{units_of_bytes, bytes_of_units}

pub length-units_of_bytes : (bytes : List ℕ) → length (units_of_bytes bytes) ≡ length bytes / 2
unfolding units_of_bytes
length-units_of_bytes [] = refl
length-units_of_bytes (high ∷ []) = refl
length-units_of_bytes (high ∷ low ∷ bytes) = let e = length-units_of_bytes bytes in omega arith

pub length-bytes_of_units : (units : List ℕ) → length (bytes_of_units units) ≡ 2 * length units
unfolding bytes_of_units
length-bytes_of_units [] = refl
length-bytes_of_units (unit ∷ units) = let e = length-bytes_of_units units in omega arith

-- the bytes of a unit, as the library has them
pub pair-bytes : (unit : ℕ) → unit < 2 ^ 16 → bytes_of_units (unit ∷ []) ≡ to_be_bytes w16 unit
unfolding bytes_of_units
pair-bytes unit h =
    let e : unit / 256 % 256 ≡ unit / 256 = omega arith in
    rw e

-- the unit at an index is made of the two bytes from twice the index on
pub at-units_of_bytes : (bytes : List ℕ) (i : ℕ) → i < length bytes / 2 → get_or (units_of_bytes bytes) i 0 ≡ get_or bytes (2 * i) 0 * 256 + get_or bytes (2 * i + 1) 0
unfolding units_of_bytes
at-units_of_bytes [] i h = absurd (omega arith)
at-units_of_bytes (high ∷ []) i h = absurd (omega arith)
at-units_of_bytes (high ∷ low ∷ bytes) zero h = refl
at-units_of_bytes (high ∷ low ∷ bytes) (suc i) h =
    let e : 2 * suc i ≡ suc (suc (2 * i)) = omega arith in
    let d : 2 * suc i + 1 ≡ suc (suc (2 * i + 1)) = omega arith in
    rw (d, e) (at-units_of_bytes bytes i (omega arith))

-- of an odd number of bytes the last makes no unit
pub units_of_bytes-even : (bytes : List ℕ) → units_of_bytes (take (length bytes - length bytes % 2) bytes) ≡ units_of_bytes bytes
unfolding units_of_bytes
units_of_bytes-even [] = refl
units_of_bytes-even (high ∷ []) = refl
units_of_bytes-even (high ∷ low ∷ bytes) =
    let e : length (high ∷ low ∷ bytes) - length (high ∷ low ∷ bytes) % 2 ≡ suc (suc (length bytes - length bytes % 2)) = omega arith in
    rw e (ap (λ (l : List ℕ). (high * 256 + low) ∷ l) (units_of_bytes-even bytes))

pub bytes_of_units-append : (units more : List ℕ) → bytes_of_units (units ++ more) ≡ bytes_of_units units ++ bytes_of_units more
unfolding bytes_of_units
bytes_of_units-append [] more = refl
bytes_of_units-append (unit ∷ units) more = ap (λ (l : List ℕ). unit / 256 ∷ unit % 256 ∷ l) (bytes_of_units-append units more)

-- units, as bytes and back
pub units_of_bytes-bytes_of_units : (units : List ℕ) → units_of_bytes (bytes_of_units units) ≡ units
unfolding units_of_bytes bytes_of_units
units_of_bytes-bytes_of_units [] = refl
units_of_bytes-bytes_of_units (unit ∷ units) =
    let e : unit / 256 * 256 + unit % 256 ≡ unit = omega arith in
    ap₂ ◌∷◌ e (units_of_bytes-bytes_of_units units)

-- an even number of bytes, as units and back
pub bytes_of_units-units_of_bytes : (bytes : List ℕ) → AllBelow 256 bytes → length bytes % 2 ≡ 0 → bytes_of_units (units_of_bytes bytes) ≡ bytes
unfolding units_of_bytes bytes_of_units
bytes_of_units-units_of_bytes [] b e = refl
bytes_of_units-units_of_bytes (high ∷ []) b e = absurd (omega arith)
bytes_of_units-units_of_bytes (high ∷ low ∷ bytes) b e =
    let h : high < 256 = b 0 (omega arith) in
    let l : low < 256 = b 1 (omega arith) in
    let u : (high * 256 + low) / 256 ≡ high = omega arith in
    let d : (high * 256 + low) % 256 ≡ low = omega arith in
    ap₂ ◌∷◌ u (ap₂ ◌∷◌ d (bytes_of_units-units_of_bytes bytes (below-tail 256 low bytes (below-tail 256 high (low ∷ bytes) b)) (omega arith)))

-- the units of bytes are below 10000 hex, and the bytes of such units are bytes
pub below-units_of_bytes : (bytes : List ℕ) → AllBelow 256 bytes → AllBelow 0x10000 (units_of_bytes bytes)
unfolding units_of_bytes
below-units_of_bytes [] b = below_none _
below-units_of_bytes (high ∷ []) b = below_none _
below-units_of_bytes (high ∷ low ∷ bytes) b =
    let h : high < 256 = b 0 (omega arith) in
    let l : low < 256 = b 1 (omega arith) in
    below_more 0x10000 (high * 256 + low) (units_of_bytes bytes) (omega arith) (below-units_of_bytes bytes (below-tail 256 low bytes (below-tail 256 high (low ∷ bytes) b)))

pub below-bytes_of_units : (units : List ℕ) → AllBelow 0x10000 units → AllBelow 256 (bytes_of_units units)
unfolding bytes_of_units
below-bytes_of_units [] b = below_none _
below-bytes_of_units (unit ∷ units) b =
    let u : unit < 0x10000 = b 0 (omega arith) in
    below_more 256 (unit / 256) (unit % 256 ∷ bytes_of_units units) (omega arith)
    (below_more 256 (unit % 256) (bytes_of_units units) (omega arith) (below-bytes_of_units units (below-tail 0x10000 unit units b)))
