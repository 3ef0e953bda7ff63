-- The starred cells of the scope paper's known spellings: one table, and the equations that it means.
use Rattle.std.specs.Prelude.{ℕ, ◌≡◌, List, [], ◌∷◌}
use Rattle.altdude.specs.Encoding as altdude
use Rattle.lace_encoding.specs.Encoding as lace

-- a cell: a text, and its label under a scheme
pub data Cell : Type 0 where
  altdude_cell : List ℕ → List ℕ → Cell
  lace_cell : List ℕ → List ℕ → Cell

-- the text's label is the one of the cell
abbrev pub Spells : Cell → Type 0
Spells (altdude_cell text label) = altdude.label_of text ≡ label
Spells (lace_cell text label) = lace.label_of text ≡ label

-- so it is in every cell: an equation for each
abbrev pub AllSpell : List Cell → Type 0
AllSpell [] = Unit {0}
AllSpell (cell ∷ cells) = Spells cell × AllSpell cells

-- the eleven cells, row by row
unfoldable pub known_labels : List Cell
known_labels =
    altdude_cell (0x60 ∷ []) (97 ∷ [])
    ∷ altdude_cell (0x61 ∷ []) (98 ∷ [])
    ∷ altdude_cell (0xfc ∷ []) (51 ∷ 110 ∷ [])
    ∷ lace_cell (0xfc ∷ []) (108 ∷ 113 ∷ 45 ∷ 45 ∷ 55 ∷ 52 ∷ 97 ∷ 112 ∷ 121 ∷ [])
    ∷ lace_cell (0xfc ∷ 0xfc ∷ []) (108 ∷ 113 ∷ 45 ∷ 45 ∷ 97 ∷ 105 ∷ 97 ∷ 112 ∷ 122 ∷ 55 ∷ 97 ∷ [])
    ∷ altdude_cell (0x61 ∷ 0x2d ∷ 0x61 ∷ []) (98 ∷ 45 ∷ 97 ∷ [])
    ∷ altdude_cell (0x10ffff ∷ []) (116 ∷ 115 ∷ 57 ∷ 57 ∷ 51 ∷ 114 ∷ [])
    ∷ altdude_cell (0x1f9f6 ∷ []) (116 ∷ 57 ∷ 51 ∷ 51 ∷ 103 ∷ [])
    ∷ lace_cell (0x1f9f6 ∷ []) (108 ∷ 113 ∷ 45 ∷ 45 ∷ 55 ∷ 55 ∷ 109 ∷ 100 ∷ 53 ∷ 120 ∷ 112 ∷ 119 ∷ [])
    ∷ lace_cell (0x12f ∷ 0x111 ∷ 0x149 ∷ 0xe5 ∷ []) (108 ∷ 113 ∷ 45 ∷ 45 ∷ 97 ∷ 109 ∷ 97 ∷ 115 ∷ 54 ∷ 101 ∷ 107 ∷ 106 ∷ 97 ∷ 101 ∷ 97 ∷ 111 ∷ 107 ∷ [])
    ∷ altdude_cell (0x305d ∷ 0x306e ∷ 0x30b9 ∷ 0x30d4 ∷ 0x30fc ∷ 0x30c9 ∷ 0x3067 ∷ []) (118 ∷ 115 ∷ 118 ∷ 112 ∷ 118 ∷ 100 ∷ 55 ∷ 104 ∷ 121 ∷ 112 ∷ 117 ∷ 105 ∷ 118 ∷ 102 ∷ 52 ∷ 113 ∷ [])
    ∷ []

-- the known spellings: the equations of all eleven cells
abbrev pub KnownLabels : Type 0
KnownLabels = AllSpell known_labels
