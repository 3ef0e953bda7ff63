-- Bytes in chunks of these lengths.
use Rattle.std.specs.Prelude.{ℕ, List, [], ◌∷◌, take, drop}

-- the chunks of these lengths, one after the other; a length past the end takes what is left, and
-- what is left after the last length is in no chunk
unfoldable pub chunks_of : (lengths : List ℕ) → List ℕ → List (List ℕ)
chunks_of [] bytes = []
chunks_of (n ∷ lengths) bytes = take n bytes ∷ chunks_of lengths (drop n bytes)
