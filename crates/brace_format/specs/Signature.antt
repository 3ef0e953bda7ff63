-- The signature at the end of every label that is not plain.
use Rattle.std.specs.Prelude.{ℕ, ◌-◌, Bool, List, [], ◌∷◌, length, drop}
use Rattle.alphabet.specs.Alphabet.{brace}
use Rattle.copying.specs.Symbols.{are_for}

-- the signature -8Q9 as symbols: a hyphen and the quintets 6, 22 and 7
unfoldable pub signature : List ℕ
signature = 45 ∷ 6 ∷ 22 ∷ 7 ∷ []

-- a row ends with the signature, in either case
unfoldable pub is_signed : List ℕ → Bool
is_signed row = are_for brace signature (drop (length row - 4) row)
