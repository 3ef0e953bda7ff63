-- What the choice of a style promises, and what it counts.
use Rattle.std.specs.Prelude.{ℕ, ◌+◌, ◌/◌, ◌≤◌, ◌<◌, ◌≡◌, List, [], ◌∷◌, ltb, length}
use Rattle.basis.specs.Tests.{pick}
use Rattle.basis.specs.Rows.{at}
use Rattle.brace_choice.specs.Choice.{mixed_cost}

-- the half-row h is used, has the least M of those that are used, and is the lowest with that M
pub record BestHalf (codes : List ℕ) (h : ℕ) : Type 0 where
  pub used : (i : ℕ) × (i < length codes) × (at codes i / 128 ≡ h)
  pub fewest : (i : ℕ) → i < length codes → mixed_cost codes h ≤ mixed_cost codes (at codes i / 128)
  pub lowest : (i : ℕ) → i < length codes → mixed_cost codes h ≡ mixed_cost codes (at codes i / 128) → h ≤ at codes i / 128

-- there are codes, and all are in this group of so many units: 128 make a half-row, 256 a row
pub record AllIn (size : ℕ) (codes : List ℕ) (group : ℕ) : Type 0 where
  pub some : 1 ≤ length codes
  pub each : (i : ℕ) → i < length codes → at codes i / size ≡ group

-- how many symbols of a row are coded
unfoldable pub coded_count : List ℕ → ℕ
coded_count [] = 0
coded_count (s ∷ symbols) = pick (ltb s 32) 1 0 + coded_count symbols
