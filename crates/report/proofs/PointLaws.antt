-- Points: the bytes of one, and of a row from an index on.
use Prim.Native.Nat.{ℕ, ◌+◌, ◌-◌, ◌≤◌, ◌<◌}
use mathlib.Core.Path.{◌≡◌, refl, sym, ap}
use mathlib.Core.List.{List, [], ◌∷◌, ◌++◌}
use native.Mathlib.Numerals.{add-one}
use native.Mathlib.Omega.{arith}
use lib.ListN.{length, take, drop, set, length-append, drop_of_length-le}
use lib.Seq.{drop-cons}
use Rattle.std.proofs.lemmas.List.{take_rest}
use Rattle.basis.specs.Rows.{at}
use Rattle.report.specs.Digits.{digits_of}
use Rattle.report.specs.Lines.{point_mark, point_bytes, spaced_points, points_bytes}
use Rattle.basis.specs.Internal.{Stored}
use Rattle.basis.proofs.Stores.{StoringFrom, stored-append, stored-none, stored_one, storing-piece, storing-end}

pub point-length : (p : ℕ) → length (point_bytes p) ≡ length (digits_of 16 4 p) + 2
unfolding point_bytes point_mark
point-length p = omega arith

pub points_none : (points : List ℕ) → length points < 1 → points_bytes points ≡ []
unfolding points_bytes
points_none [] e = refl
points_none (p ∷ points) e = absurd (omega arith)

pub stored-no-points : (points : List ℕ) → length points < 1 → (old : List ℕ) (k : ℕ) → Stored old k (points_bytes points) old k
stored-no-points points e old k = rw (points_none points e) (stored-none old k)

-- the points but the first
abbrev others : List ℕ → List ℕ
others points = take (length points - 1) (drop 1 points)

-- a row is its first point, and the others each after a space
points-first : (points : List ℕ) → 1 ≤ length points → points_bytes points ≡ point_bytes (at points 0) ++ spaced_points (others points)
unfolding points_bytes
points-first [] n = absurd (omega arith)
points-first (p ∷ points) n = ap (λ ps. point_bytes p ++ spaced_points ps) (sym (take_rest (p ∷ points) 1))

pub first-length : (points : List ℕ) → 1 ≤ length points → length (points_bytes points) ≡ length (point_bytes (at points 0)) + length (spaced_points (others points))
first-length points n = rw (points-first points n, length-append)

module _ (points : List ℕ) (i : ℕ) where
  module _ (inside : i < length points) where
    spaced-turn : spaced_points (drop i points) ≡ (32 ∷ point_bytes (at points i)) ++ spaced_points (drop (i + 1) points)
    unfolding spaced_points
    spaced-turn = rw (drop-cons points i 0, add-one)

    pub spaced-length : length (spaced_points (drop i points)) ≡ 1 + length (point_bytes (at points i)) + length (spaced_points (drop (i + 1) points))
    spaced-length = rw (spaced-turn, length-append (32 ∷ point_bytes (at points i))) (omega arith)

    -- a space and the point stored
    pub point-turn : {old values now later : List ℕ} {from k next : ℕ} → StoringFrom from old values now k (spaced_points (drop i points))
        → Stored (set now k 32) (k + 1) (point_bytes (at points i)) later next → StoringFrom from old values later next (spaced_points (drop (i + 1) points))
    point-turn {now = now} {k = k} b s = storing-piece b spaced-turn (stored-append (stored_one now k 32) s)

  module _ (past : length points ≤ i) where
    pub spaced-end : spaced_points (drop i points) ≡ []
    unfolding spaced_points
    spaced-end = rw drop_of_length-le

-- the first point and the others
pub points-end : (points : List ℕ) (i : ℕ) → 1 ≤ length points → length (others points) ≤ i → {old mid now : List ℕ} {from k next : ℕ}
    → Stored old from (point_bytes (at points 0)) mid k → StoringFrom k mid (spaced_points (others points)) now next (spaced_points (drop i (others points)))
    → Stored old from (points_bytes points) now next
points-end points i some past s b = rw (points-first points some) (stored-append s (storing-end b (spaced-end (others points) i past)))
