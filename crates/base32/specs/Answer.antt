-- What the Base32 writer and reader answer, for every input.
use Rattle.std.specs.Prelude.{ℕ, not, List, ltb, length}
use Rattle.basis.specs.Tests.{first_in}
use Rattle.basis.specs.Outcome.{Outcome, done, refused_if}
use Rattle.alphabet.specs.Alphabet.{lace, is_character, values_of}
use Rattle.base32.specs.Form.{octet_count, is_lawful}
use Rattle.base32.specs.Base32.{quintet_count}

-- the index of the first byte that has no value, or the length
unfoldable pub first_outside : List ℕ → List ℕ → ℕ
first_outside alphabet bytes = first_in (λ b. not (is_character alphabet b)) bytes

-- writing: a capacity below the count is 1
unfoldable pub encode_outcome : List ℕ → ℕ → Outcome
encode_outcome octets capacity =
    refused_if (ltb capacity (quintet_count (length octets))) 1 0
    (done (quintet_count (length octets)))

-- reading: a capacity below the count is 1, then the first byte outside the alphabet 7, then what is not lawful 9
unfoldable pub decode_outcome : List ℕ → ℕ → Outcome
decode_outcome characters capacity =
    refused_if (ltb capacity (octet_count (length characters))) 1 0
    (refused_if (ltb (first_outside lace characters) (length characters)) 7 (first_outside lace characters)
    (refused_if (not (is_lawful (values_of lace characters))) 9 0
    (done (octet_count (length characters)))))
