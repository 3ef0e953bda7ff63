-- The parts of a row between its dots, and parts joined again.
use Rattle.std.specs.Prelude.{ℕ, Bool, List, [], ◌∷◌, ◌++◌, eqb, ltb, length}
use Rattle.basis.specs.Tests.{pick, first_in}

-- U+002E, the only point that parts a row
abbrev pub dot : ℕ
dot = 0x2e

-- the index of the first dot, or the length
unfoldable pub first_dot : List ℕ → ℕ
first_dot row = first_in (λ x. eqb x dot) row

-- the row holds a dot
unfoldable pub has_dot : List ℕ → Bool
has_dot row = ltb (first_dot row) (length row)

-- one element more before the first part
unfoldable pub join_first : ℕ → List (List ℕ) → List (List ℕ)
join_first x [] = (x ∷ []) ∷ []
join_first x (part ∷ parts) = (x ∷ part) ∷ parts

-- the parts of a row: each dot ends one and begins the next, so there is one part more than dots
unfoldable pub parts_of : List ℕ → List (List ℕ)
parts_of [] = [] ∷ []
parts_of (x ∷ row) = pick (eqb x dot) ([] ∷ parts_of row) (join_first x (parts_of row))

-- the parts, each after a dot
unfoldable pub after_dots : List (List ℕ) → List ℕ
after_dots [] = []
after_dots (part ∷ parts) = dot ∷ (part ++ after_dots parts)

-- the parts joined, with a dot between neighbours
unfoldable pub joined : List (List ℕ) → List ℕ
joined [] = []
joined (part ∷ parts) = part ++ after_dots parts
