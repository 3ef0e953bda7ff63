-- How many bytes lines have at most, if each of their points is at most 10FFFF hex.
use Prim.Native.Nat.{ℕ, suc, ◌+◌, ◌*◌, ◌^◌, ◌≤◌, ◌<◌}
use mathlib.Core.List.{List, [], ◌∷◌}
use lib.ListN.{length, get_or, length-append}
use native.Mathlib.Omega.{arith}
use Rattle.report.specs.Lines.{point_bytes, spaced_points, points_bytes, points_line, list_line}
use Rattle.report.proofs.DigitLaws.{digits-length, count-below-power}
use Rattle.report.proofs.PointLaws.{point-length}
use Rattle.report.proofs.LineLaws.{points-line-length, list-line-length}

-- a point has at most eight bytes
point-few : (p : ℕ) → p ≤ 0x10ffff → length (point_bytes p) ≤ 8
point-few p top =
    let small : p < 16 ^ 6 = omega arith in
    omega (arith, point-length p, digits-length 16 4 p, count-below-power 16 (omega arith) 6 p small)

-- each point of a row is at most 10FFFF hex
abbrev pub Low : List ℕ → Type 0
Low points = (i : ℕ) → i < length points → get_or points i 0 ≤ 0x10ffff

-- and with a space before each, nine
spaced-few : (ps : List ℕ) → Low ps → length (spaced_points ps) ≤ 9 * length ps
unfolding spaced_points
spaced-few [] t = omega arith
spaced-few (p ∷ ps) t =
    omega (arith, length-append (point_bytes p) (spaced_points ps), point-few p (t 0 (omega arith)), spaced-few ps (λ i h. t (suc i) (omega arith)))

-- the line of a row of points, and the line of a list
pub points-few : (ps : List ℕ) → Low ps → length (points_line ps) ≤ 9 * length ps + 1
unfolding points_bytes
points-few [] t = omega (arith, points-line-length [])
points-few (p ∷ ps) t =
    omega (arith, points-line-length (p ∷ ps), length-append (point_bytes p) (spaced_points ps), point-few p (t 0 (omega arith)), spaced-few ps (λ i h. t (suc i) (omega arith)))

pub list-few : (reader letter : ℕ) (ps : List ℕ) → Low ps → length (list_line reader letter ps) ≤ 9 * length ps + 9
list-few reader letter ps t = omega (arith, list-line-length reader letter ps, points-few ps t)
