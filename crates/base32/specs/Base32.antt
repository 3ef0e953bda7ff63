-- Base32: octets as quintets, quintets as octets, and the characters of octets.
use Rattle.std.specs.Prelude.{ℕ, ◌+◌, ◌*◌, ◌/◌, List, map, length}
use Rattle.basis.specs.Rows.{at, tabulate}
use Rattle.alphabet.specs.Alphabet.{character_of}
use Rattle.base32.specs.Bits.{regroup}
use Rattle.base32.specs.Form.{octet_count}

-- how many quintets hold the bits of n octets, the last one filled up
abbrev pub quintet_count : ℕ → ℕ
quintet_count n = (8 * n + 4) / 5

-- the quintets of a row of octets, highest bits first, the last one filled up with zero bits
unfoldable pub to_quintets : List ℕ → List ℕ
to_quintets octets = tabulate (quintet_count (length octets)) (regroup 8 5 (at octets))

-- the whole octets of a row of quintets
unfoldable pub to_octets : List ℕ → List ℕ
to_octets quintets = tabulate (octet_count (length quintets)) (regroup 5 8 (at quintets))

-- the characters of a row of octets
unfoldable pub characters_of : List ℕ → List ℕ → List ℕ
characters_of alphabet octets = map (character_of alphabet) (to_quintets octets)
