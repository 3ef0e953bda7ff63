-- The lines of an input.
use Rattle.std.specs.Prelude.{ℕ, Bool, List, [], ◌∷◌, eqb}
use Rattle.basis.specs.Tests.{pick}

-- the line feed
unfoldable pub is_line_feed : ℕ → Bool
is_line_feed b = eqb b 10

-- a byte put before the first line; where there is none it is one
unfoldable pub to_first : ℕ → List (List ℕ) → List (List ℕ)
to_first b [] = (b ∷ []) ∷ []
to_first b (line ∷ lines) = (b ∷ line) ∷ lines

-- a byte before an input with these lines: a line feed ends an empty line before them
unfoldable pub with_byte : ℕ → List (List ℕ) → List (List ℕ)
with_byte b lines = pick (is_line_feed b) ([] ∷ lines) (to_first b lines)

-- the lines of an input, without their line feeds; a last line without one counts if it has a byte
unfoldable pub lines_of : List ℕ → List (List ℕ)
lines_of [] = []
lines_of (b ∷ bytes) = with_byte b (lines_of bytes)
