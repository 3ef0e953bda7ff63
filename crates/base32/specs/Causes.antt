-- The causes of refusal of the Base32 writer and reader, each by itself.
use Rattle.std.specs.Prelude.{ℕ, ◌<◌, ◌≡◌, false, not, List, [], ◌∷◌, length}
use Rattle.basis.specs.Tests.{IsFirst}
use Rattle.basis.specs.Rows.{at}
use Rattle.basis.specs.Causes.{Cause, whole, placed}
use Rattle.alphabet.specs.Alphabet.{lace, is_character, values_of}
use Rattle.base32.specs.Form.{octet_count, is_lawful}
use Rattle.base32.specs.Base32.{quintet_count}

-- 7: a byte that has no value, the first at index i
abbrev pub OutsideAt : List ℕ → List ℕ → ℕ → Type 0
OutsideAt alphabet bytes i = IsFirst (length bytes) (λ k. not (is_character alphabet (at bytes k))) i

-- 9: the values are not lawful Base32
abbrev pub NotLawful : List ℕ → Type 0
NotLawful characters = is_lawful (values_of lace characters) ≡ false

-- writing: fewer bytes than characters
abbrev pub encode_causes : List ℕ → ℕ → List Cause
encode_causes octets capacity = whole 1 (capacity < quintet_count (length octets)) ∷ []

-- reading: fewer bytes than octets, a byte outside the alphabet, not lawful
abbrev pub decode_causes : List ℕ → ℕ → List Cause
decode_causes characters capacity =
    whole 1 (capacity < octet_count (length characters)) ∷ placed 7 (OutsideAt lace characters) ∷ whole 9 (NotLawful characters) ∷ []
