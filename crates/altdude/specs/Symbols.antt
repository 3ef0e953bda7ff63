-- The symbols that a label is made of: 45 for the hyphen, a value 0 to 31 for a character of either case.
use Rattle.std.specs.Prelude.{ℕ, Bool, not, List, eqb}
use Rattle.basis.specs.Tests.{pick, first_in}
use Rattle.alphabet.specs.Alphabet.{altdude, character_of, value_of}

-- the symbol of a byte, 32 where it is neither a hyphen nor one of the 32 characters
unfoldable pub symbol_of : ℕ → ℕ
symbol_of byte = pick (eqb byte 45) 45 (value_of altdude byte)

-- the byte of a symbol
unfoldable pub byte_of : ℕ → ℕ
byte_of symbol = pick (eqb symbol 45) 45 (character_of altdude symbol)

-- a hyphen or one of the 32
unfoldable pub is_character : ℕ → Bool
is_character byte = not (eqb (symbol_of byte) 32)

-- the index of the first byte that is neither a hyphen nor one of the 32, or the length
unfoldable pub first_outside : List ℕ → ℕ
first_outside l = first_in (λ b. not (is_character b)) l
