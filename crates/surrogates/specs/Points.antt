-- Points (Unicode scalar values) and texts.
use Rattle.std.specs.Prelude.{ℕ, Bool, not, List, leb}
use Rattle.basis.specs.Tests.{both, within, every_in, first_in}

-- a number 0 to 10FFFF hex other than D800 to DFFF
unfoldable pub is_point : ℕ → Bool
is_point p = both (leb p 0x10ffff) (not (within 0xd800 0xdfff p))

-- a row of points
unfoldable pub is_text : List ℕ → Bool
is_text ps = every_in is_point ps

-- the index of the first number that is no point, or the length
unfoldable pub first_not_point : List ℕ → ℕ
first_not_point ps = first_in (λ p. not (is_point p)) ps
