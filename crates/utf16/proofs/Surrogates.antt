-- Laws on one point or unit: the pair of a point, the units of a point, the point that a unit ends;
-- and those of `surrogates`.
use Prim.Native.Nat.{ℕ, ◌+◌, ◌≤◌, ◌<◌}
use mathlib.Core.Path.{◌≡◌}
use mathlib.Core.Bool.{true, false}
use mathlib.Core.List.{List, ◌∷◌}
use lib.ListN.{length}
use borrow.Author.Tests.{lt-ltb, le-ltb}
use native.Mathlib.Omega.{arith}
use Rattle.basis.proofs.Tests.{cases, by-lt, within-true, within_low, within-high}
use Rattle.utf16.specs.Points.{is_point}
use Rattle.utf16.specs.Units.{is_high, is_low, high_of, low_of, pair_of, units_of, point_of}
pub use Rattle.surrogates.proofs.Surrogates.{zero-not-high, zero-not-low, high-not-low, low-not-high, point-top, under-point, over-point, point-not-high, point-not-low, plain-point, unpaired-high, unpaired-low, unpaired-plain, Searching, searching-none, searching-all, searching-found, searching-more, text_at}

-- a point of 10000 hex or more and its pair
module _ (p : ℕ) (big : 0x10000 ≤ p) (top : p ≤ 0x10ffff) where
  pub high-of : is_high (high_of p) ≡ true
  unfolding is_high
  high-of = within-true 0xd800 0xdbff (high_of p) (omega arith) (omega arith)

  pub low-of : is_low (low_of p) ≡ true
  unfolding is_low
  low-of = within-true 0xdc00 0xdfff (low_of p) (omega arith) (omega arith)

  pub pair-of : pair_of (high_of p) (low_of p) ≡ p
  pair-of = omega arith

-- a pair and its point
module _ (high low : ℕ) (eh : is_high high ≡ true) (el : is_low low ≡ true) where
  pub pair-big : 0x10000 ≤ pair_of high low
  pair-big = omega arith

  pub pair-high : high_of (pair_of high low) ≡ high
  unfolding is_high
  pair-high =
      let a = within_low 0xd800 0xdbff high eh in
      let b = within-high 0xd800 0xdbff high eh in
      omega arith

  pub pair-low : low_of (pair_of high low) ≡ low
  unfolding is_low
  pair-low =
      let a = within_low 0xdc00 0xdfff low el in
      let b = within-high 0xdc00 0xdfff low el in
      omega arith

  pub pair-point : is_point (pair_of high low) ≡ true
  pair-point = over-point (pair_of high low) (omega arith) (omega arith)

-- the units of a point, by its size
pub units_small : (p : ℕ) (rest : List ℕ) → p < 0x10000 → units_of p rest ≡ p ∷ rest
unfolding units_of
units_small p rest h = rw (lt-ltb p 0x10000 h)

pub units-big : (p : ℕ) (rest : List ℕ) → 0x10000 ≤ p → units_of p rest ≡ high_of p ∷ low_of p ∷ rest
unfolding units_of
units-big p rest h = rw (le-ltb p 0x10000 h)

-- the point that a unit ends, by its kind
pub point-high : (before u : ℕ) (rest : List ℕ) → is_high u ≡ true → point_of before u rest ≡ rest
unfolding point_of
point-high before u rest h = rw h

pub point-low : (before u : ℕ) (rest : List ℕ) → is_low u ≡ true → point_of before u rest ≡ pair_of before u ∷ rest
unfolding point_of
point-low before u rest l = rw (low-not-high u l, l)

pub point-plain : (before u : ℕ) (rest : List ℕ) → is_high u ≡ false → is_low u ≡ false → point_of before u rest ≡ u ∷ rest
unfolding point_of
point-plain before u rest h l = rw (h, l)

-- a point has one unit or two, a unit ends at most one point
pub some-units_of : (p : ℕ) (rest : List ℕ) → 1 + length rest ≤ length (units_of p rest)
some-units_of p rest = by-lt p 0x10000 (λ h. rw (units_small p rest h) (omega arith)) (λ h. rw (units-big p rest h) (omega arith))

pub length-units_of : (p : ℕ) (rest : List ℕ) → length (units_of p rest) ≤ 2 + length rest
length-units_of p rest = by-lt p 0x10000 (λ h. rw (units_small p rest h) (omega arith)) (λ h. rw (units-big p rest h) (omega arith))

pub length-point_of : (before u : ℕ) (rest : List ℕ) → length (point_of before u rest) ≤ 1 + length rest
unfolding point_of
length-point_of before u rest =
    cases (is_high u) (λ h. rw h (omega arith)) (λ h. cases (is_low u) (λ l. rw (h, l) (omega arith)) (λ l. rw (h, l) (omega arith)))
