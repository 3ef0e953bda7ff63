-- The LACE label of a text.
use Rattle.std.specs.Prelude.{ℕ, ◌+◌, ◌*◌, ◌/◌, ◌%◌, List, [], ◌∷◌, ◌++◌, eqb, leb, length}
use Rattle.basis.specs.Tests.{pick}
use Rattle.utf16.specs.Units.{to_units}
use Rattle.alphabet.specs.Alphabet.{lace}
use Rattle.base32.specs.Base32.{characters_of}
use Rattle.utf16.specs.Bytes.{bytes_of_units}
use Rattle.lace_format.specs.Prefix.{prefix}
use Rattle.lace_format.specs.Octets.{Run, run}

-- one unit more before a row of runs: it joins the first run if their high octets are equal
unfoldable pub join_run : ℕ → List Run → List Run
join_run u [] = run (u / 256) (u % 256 ∷ []) ∷ []
join_run u (run high lows ∷ runs) = pick (eqb (u / 256) high) (run high (u % 256 ∷ lows) ∷ runs) (run (u / 256) (u % 256 ∷ []) ∷ run high lows ∷ runs)

-- the longest runs of a row of units
unfoldable pub longest_runs : List ℕ → List Run
longest_runs [] = []
longest_runs (u ∷ us) = join_run u (longest_runs us)

-- the octets of a row of runs: for each its count, its high octet and its low octets
unfoldable pub run_octets : List Run → List ℕ
run_octets [] = []
run_octets (run high lows ∷ runs) = length lows ∷ high ∷ (lows ++ run_octets runs)

-- the octets of a row of units, of n units in r runs: the runs if 2r + n is at most 2n, else FF and all units,
-- high octet first
unfoldable pub octets_of : List ℕ → List ℕ
octets_of us =
    pick (leb (2 * length (longest_runs us) + length us) (2 * length us))
    (run_octets (longest_runs us))
    (0xff ∷ bytes_of_units us)

-- the label: the prefix, and the octets in Base32
unfoldable pub label_of : List ℕ → List ℕ
label_of t = prefix ++ characters_of lace (octets_of (to_units t))
