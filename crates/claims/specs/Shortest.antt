-- LACE is as short as it may be. Among all ways of cutting a text's units into runs of equal high octet, longest or not, and the
-- FF form, none has fewer octets than the one that LACE writes, and none makes a shorter label. The octets of runs, the octets
-- that LACE writes and the label are the definitions that the contracts cite. The text's length has no bound. The count of a run
-- is taken as one octet however large it is; a text that may be written has at most 34 units, so in it the count fits.
use Rattle.std.specs.Prelude.{ℕ, ◌≤◌, ◌<◌, ◌≡◌, true, ◌⊎◌, List, [], ◌∷◌, ◌++◌, length}
use Rattle.basis.specs.Rows.{AllBelow}
use Rattle.utf16.specs.Points.{is_text}
use Rattle.utf16.specs.Units.{to_units}
use Rattle.utf16.specs.Bytes.{bytes_of_units}
use Rattle.alphabet.specs.Alphabet.{lace}
use Rattle.base32.specs.Base32.{characters_of}
use Rattle.lace_format.specs.Prefix.{prefix}
use Rattle.lace_format.specs.Octets.{Run, run, run_units}
use Rattle.lace_encoding.specs.Encoding.{run_octets, octets_of, label_of}

-- one unit or more under one high octet: the high octet is an octet, and so is each low octet
unfoldable pub IsRun : Run → Type 0
IsRun (run high lows) = (high < 256) × (1 ≤ length lows) × AllBelow 256 lows

-- so it is with each run of a row; neighbours may have the same high octet
unfoldable pub AreRuns : List Run → Type 0
AreRuns [] = Unit {0}
AreRuns (r ∷ runs) = IsRun r × AreRuns runs

-- the runs are a way of cutting the units: joined, they give the units
pub record Cutting (units : List ℕ) (runs : List Run) : Type 0 where
  pub each : AreRuns runs
  pub joined : run_units runs ≡ units

-- the FF form of the units: FF and then all units, high octet first
unfoldable pub octets_ff : List ℕ → List ℕ
octets_ff units = 0xff ∷ bytes_of_units units

-- octets that might be written for the units: those of the runs of a cutting, or the FF form
abbrev pub Candidate : List ℕ → List ℕ → Type 0
Candidate units octets = ((runs : List Run) × Cutting units runs × (octets ≡ run_octets runs)) ⊎ (octets ≡ octets_ff units)

-- the label that octets make: the prefix, and the octets in Base32
unfoldable pub label_with : List ℕ → List ℕ
label_with octets = prefix ++ characters_of lace octets

-- LACE is as short as it may be; but for `written` it is said of every row of numbers, so of every text
pub record Shortest : Type 0 where
  -- what LACE writes is the label that the octets of the text's units make, and they are one of the candidates
  pub label : (t : List ℕ) → label_of t ≡ label_with (octets_of (to_units t))
  pub written : (t : List ℕ) → is_text t ≡ true → Candidate (to_units t) (octets_of (to_units t))
  -- no candidate has fewer octets
  pub fewest_octets : (t octets : List ℕ) → Candidate (to_units t) octets → length (octets_of (to_units t)) ≤ length octets
  -- and none makes a shorter label
  pub shortest_label : (t octets : List ℕ) → Candidate (to_units t) octets → length (label_of t) ≤ length (label_with octets)
