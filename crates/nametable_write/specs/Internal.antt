-- What private steps on a list answer and ask; no public promise cites it.
use Rattle.std.specs.Prelude.{ℕ, ◌≤◌, ◌≡◌, List, [], ◌∷◌, length}
use Rattle.std.specs.Coded.{le_prop, Coded-set, coded_ℕ}
use Rattle.basis.specs.Outcome.{done}
use Rattle.scheme.specs.Coding.{encode_outcome}
use Rattle.nametable_format.specs.Format.{most_entries, label_capacity}
use Rattle.nametable_write.specs.Writing.{Entry, entry, sum_of, scheme_of}

-- rows that list entries: at most 500, as many of each, and the points that the lengths sum to
pub record Rows (readers schemes lengths points : List ℕ) : Type 0 where
  pub few : length readers ≤ most_entries
  pub schemed : length schemes ≡ length readers
  pub measured : length lengths ≡ length readers
  pub summed : sum_of lengths ≡ length points

pub Rows-prop : {readers schemes lengths points : List ℕ} → IsProp (Rows readers schemes lengths points)
Rows-prop = hlevel (le_prop, Coded-set coded_ℕ)

-- the label of an entry may be written
abbrev pub Spelled : Entry → Type 0
Spelled (entry reader scheme text) = (n : ℕ) × (encode_outcome (scheme_of scheme) label_capacity text ≡ done n)

-- and that of every entry
abbrev pub AllSpelled : List Entry → Type 0
AllSpelled [] = Unit {0}
AllSpelled (e ∷ es) = Spelled e × AllSpelled es
