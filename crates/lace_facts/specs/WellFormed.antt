-- The rules of form of a LACE label, sentence by sentence. Nothing here comes from encoding or decoding.
use Rattle.std.specs.Prelude.{ℕ, ◌+◌, ◌*◌, ◌≤◌, ◌<◌, ◌≡◌, true, false, ◌⊎◌, List, [], ◌∷◌, length}
use Rattle.basis.specs.Rows.{at, AllBelow}
use Rattle.ascii.specs.Case.{small}
use Rattle.ascii.specs.Prefix.{after_prefix}
use Rattle.ascii.specs.Ldh.{is_host_label}
use Rattle.surrogates.specs.Surrogates.{unpaired_at}
use Rattle.alphabet.specs.Alphabet.{lace, is_character, values_of}
use Rattle.base32.specs.Bits.{row_bit}
use Rattle.base32.specs.Form.{octet_count, length_lawful, spare_zero}
use Rattle.lace_format.specs.Prefix.{prefix}
use Rattle.lace_format.specs.Octets.{unit_of, Run, run, run_units, run_count}

-- the octets are the whole octets of the characters' bits
pub record OctetsIn (characters octets : List ℕ) : Type 0 where
  pub count : length octets ≡ octet_count (length characters)
  pub small : AllBelow 256 octets
  pub bits : (k : ℕ) → k < 8 * length octets → row_bit 8 (at octets) k ≡ row_bit 5 (at (values_of lace characters)) k

-- the octets are FF and then the two octets of each unit, the high one first: one or more units, with 2r > n
pub record AllUnits (octets units : List ℕ) : Type 0 where
  pub first : at octets 0 ≡ 0xff
  pub count : length octets ≡ 1 + 2 * length units
  pub pairs : (i : ℕ) → i < length units → at units i ≡ unit_of (at octets (1 + 2 * i)) (at octets (2 + 2 * i))
  pub some : 1 ≤ length units
  pub many : length units < 2 * run_count units

-- from this index on the octets are, for each run, its count, its high octet and its low octets, and end exactly there
unfoldable pub RunsFrom : List ℕ → ℕ → List Run → Type 0
RunsFrom octets from [] = from ≡ length octets
RunsFrom octets from (run high lows ∷ runs) =
    (at octets from ≡ length lows)
    × (at octets (from + 1) ≡ high)
    × ((i : ℕ) → i < length lows → at octets (from + 2 + i) ≡ at lows i)
    × RunsFrom octets (from + 2 + length lows) runs

-- every count is 1 or more
unfoldable pub Counted : List Run → Type 0
Counted [] = Unit {0}
Counted (run high lows ∷ runs) = (1 ≤ length lows) × Counted runs

-- neighbours differ in high octet
unfoldable pub Differ : List Run → Type 0
Differ [] = Unit {0}
Differ (run high lows ∷ []) = Unit {0}
Differ (run high lows ∷ run next more ∷ runs) = (high ≡ next → ⊥) × Differ (run next more ∷ runs)

-- the octets are runs with count 1 or more, neighbours differing in high octet, ending exactly at the end, with 2r ≤ n
pub record InRuns (octets units : List ℕ) : Type 0 where
  pub runs : List Run
  pub are : RunsFrom octets 0 runs
  pub join : units ≡ run_units runs
  pub counted : Counted runs
  pub differ : Differ runs
  pub few : 2 * length runs ≤ length units

-- the octets stand for the units
abbrev pub StandFor : List ℕ → List ℕ → Type 0
StandFor octets units = AllUnits octets units ⊎ InRuns octets units

-- every rule but the last: at most 63 bytes; lq-- first; what follows is read as Base32, its length 1 or more and one that leaves
-- 0, 2, 4, 5 or 7 on division by 8, the spare bits zero; the octets stand for the units; no surrogate is unpaired
pub record Formed (l units : List ℕ) : Type 0 where
  pub short : length l ≤ 63
  pub first : (i : ℕ) → i < 4 → small (at l i) ≡ at prefix i
  pub characters : (i : ℕ) → i < length (after_prefix prefix l) → is_character lace (at (after_prefix prefix l) i) ≡ true
  pub some : 1 ≤ length (after_prefix prefix l)
  pub lawful : length_lawful (length (after_prefix prefix l)) ≡ true
  pub spare : spare_zero (values_of lace (after_prefix prefix l)) ≡ true
  pub octets : List ℕ
  pub octets_in : OctetsIn (after_prefix prefix l) octets
  pub stand_for : StandFor octets units
  pub paired : (i : ℕ) → i < length units → unpaired_at 0 units i ≡ false

-- the rules of form: those above, and the units are no host label
pub record WellFormed (l : List ℕ) : Type 0 where
  pub units : List ℕ
  pub formed : Formed l units
  pub no_host_label : is_host_label units ≡ false
