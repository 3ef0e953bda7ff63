-- The directory of schemes: the number, the kind of entry and the letter of each, and what they name.
use Rattle.std.specs.Prelude.{ℕ, Bool, true, false, List, [], ◌∷◌, eqb, Option, Some, None}
use Rattle.basis.specs.Tests.{pick}
use Rattle.scheme.specs.declared.Scheme.{Scheme}
use Rattle.scheme.specs.declared.Scheme.TheVariants.{Altdude, Lace, Brace}

-- a row of the directory: the scheme's number, the kind of its entries and its letter
pub record Row : Type 0 where
  pub number : ℕ
  pub kind : ℕ
  pub letter : ℕ

-- AltDUDE is 1, has entries of kind 41 hex and the letter A; LACE is 2, with 4C hex and L; BRACE is
-- 3, with 42 hex and B
unfoldable pub row_of : Scheme → Row
row_of Altdude = record { number = 1; kind = 0x41; letter = 65 }
row_of Lace = record { number = 2; kind = 0x4c; letter = 76 }
row_of Brace = record { number = 3; kind = 0x42; letter = 66 }

-- all schemes
unfoldable pub schemes : List Scheme
schemes = Altdude ∷ Lace ∷ Brace ∷ []

-- the scheme's number
unfoldable pub number_of : Scheme → ℕ
number_of s = (row_of s).number

-- the kind of the scheme's entries
unfoldable pub kind_of : Scheme → ℕ
kind_of s = (row_of s).kind

-- the scheme's letter
unfoldable pub letter_of : Scheme → ℕ
letter_of s = (row_of s).letter

-- the first of the schemes that has this value
unfoldable pub first_with : (Scheme → ℕ) → ℕ → List Scheme → Option Scheme
first_with value_of value [] = None
first_with value_of value (s ∷ rest) = pick (eqb value (value_of s)) (Some s) (first_with value_of value rest)

-- the number that 0 stands for, the house default: AltDUDE
unfoldable pub default_number : ℕ
default_number = 1

-- the scheme that a number names by itself; 0 names none
unfoldable pub own_number_names : ℕ → Option Scheme
own_number_names number = first_with number_of number schemes

-- the scheme that a number names; 0 names the default
unfoldable pub number_names : ℕ → Option Scheme
number_names number = pick (eqb number 0) (own_number_names default_number) (own_number_names number)

-- the scheme that a kind of entry names
unfoldable pub kind_names : ℕ → Option Scheme
kind_names kind = first_with kind_of kind schemes

-- a scheme is named
unfoldable pub is_known : Option Scheme → Bool
is_known (Some scheme) = true
is_known None = false

-- the scheme that is named; where none is, which is always refused before, LACE is taken
unfoldable pub scheme_named : Option Scheme → Scheme
scheme_named (Some scheme) = scheme
scheme_named None = Lace
