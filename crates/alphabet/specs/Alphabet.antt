-- Alphabets of 32 characters: the character of a quintet, the value of a byte whatever its case, and a byte looked up.
use Rattle.std.specs.Prelude.{ℕ, Bool, ◌||◌, List, [], ◌∷◌, map, eqb, ltb, length}
use Rattle.basis.specs.Tests.{both, within, every, every_in, first_in}
use Rattle.basis.specs.Rows.{at}
use Rattle.ascii.specs.Case.{is_capital, small}
use Rattle.alphabet.specs.declared.Character.{Character}

-- AltDUDE's characters for 0 to 31: abcdefghijkmnpqrstuvwxyz23456789
unfoldable pub altdude : List ℕ
altdude =
    97 ∷ 98 ∷ 99 ∷ 100 ∷ 101 ∷ 102 ∷ 103 ∷ 104 ∷ 105 ∷ 106 ∷ 107 ∷ 109 ∷ 110 ∷ 112 ∷ 113 ∷ 114
    ∷ 115 ∷ 116 ∷ 117 ∷ 118 ∷ 119 ∷ 120 ∷ 121 ∷ 122 ∷ 50 ∷ 51 ∷ 52 ∷ 53 ∷ 54 ∷ 55 ∷ 56 ∷ 57 ∷ []

-- LACE's characters for 0 to 31, those of Base32: abcdefghijklmnopqrstuvwxyz234567
unfoldable pub lace : List ℕ
lace =
    97 ∷ 98 ∷ 99 ∷ 100 ∷ 101 ∷ 102 ∷ 103 ∷ 104 ∷ 105 ∷ 106 ∷ 107 ∷ 108 ∷ 109 ∷ 110 ∷ 111 ∷ 112
    ∷ 113 ∷ 114 ∷ 115 ∷ 116 ∷ 117 ∷ 118 ∷ 119 ∷ 120 ∷ 121 ∷ 122 ∷ 50 ∷ 51 ∷ 52 ∷ 53 ∷ 54 ∷ 55 ∷ []

-- BRACE's characters for 0 to 31: 23456789abcdefghijkmnpqrstuvwxyz
unfoldable pub brace : List ℕ
brace =
    50 ∷ 51 ∷ 52 ∷ 53 ∷ 54 ∷ 55 ∷ 56 ∷ 57 ∷ 97 ∷ 98 ∷ 99 ∷ 100 ∷ 101 ∷ 102 ∷ 103 ∷ 104
    ∷ 105 ∷ 106 ∷ 107 ∷ 109 ∷ 110 ∷ 112 ∷ 113 ∷ 114 ∷ 115 ∷ 116 ∷ 117 ∷ 118 ∷ 119 ∷ 120 ∷ 121 ∷ 122 ∷ []

-- the character of a quintet; 0, no character, for 32 or more
unfoldable pub character_of : List ℕ → ℕ → ℕ
character_of alphabet quintet = at alphabet quintet

-- the place of a byte's small form in the alphabet, or the alphabet's length where it has none
unfoldable pub value_of : List ℕ → ℕ → ℕ
value_of alphabet byte = first_in (eqb (small byte)) alphabet

-- a value with the case of its byte
abbrev pub with_case : (value byte : ℕ) → Character
with_case value byte = record { value = value; capital = is_capital byte }

-- a byte looked up: its value, and whether it is a capital
abbrev pub look_up : List ℕ → ℕ → Character
look_up alphabet byte = with_case (value_of alphabet byte) byte

-- the byte has a value
unfoldable pub is_character : List ℕ → ℕ → Bool
is_character alphabet byte = ltb (value_of alphabet byte) 32

-- no element is there twice: the first place of each is its own
unfoldable pub is_distinct : List ℕ → Bool
is_distinct alphabet = every (length alphabet) (λ i. eqb (first_in (eqb (at alphabet i)) alphabet) i)

-- the test of an alphabet: 32 elements, small letters or digits, distinct
unfoldable pub is_alphabet : List ℕ → Bool
is_alphabet alphabet =
    both (eqb (length alphabet) 32)
    (both (every_in (λ c. within 97 122 c || within 48 57 c) alphabet)
    (is_distinct alphabet))

-- the values of a row of bytes
unfoldable pub values_of : List ℕ → List ℕ → List ℕ
values_of alphabet bytes = map (value_of alphabet) bytes
