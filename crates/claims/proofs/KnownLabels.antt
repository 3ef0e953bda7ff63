-- The equations of the table hold: one test over all cells is computed, and a test that holds gives the equation of its cell.
use Prim.Native.Nat.{ℕ}
use mathlib.Core.Path.{◌≡◌, refl, ap₂}
use mathlib.Core.Bool.{Bool, true, false}
use mathlib.Core.List.{List, [], ◌∷◌}
use lib.Dec.{eqb}
use borrow.Author.Tests.{eqb-true}
use Rattle.basis.specs.Tests.{both}
use Rattle.basis.proofs.Tests.{true-not-false, both_left, both_right}
use Rattle.basis.specs.Rows.{tabulate}
use Rattle.utf16.specs.Units.{units_of, to_units}
use Rattle.utf16.specs.Bytes.{bytes_of_units}
use Rattle.alphabet.specs.Alphabet as alphabet
use Rattle.base32.specs.Bits.{bit_of, from_bits, row_bit, group, regroup}
use Rattle.base32.specs.Base32.{to_quintets, characters_of}
use Rattle.altdude.specs.Symbols.{byte_of}
use Rattle.altdude.specs.Encoding as altdude
use Rattle.lace_encoding.specs.Encoding as lace
use Rattle.claims.specs.KnownLabels.{Cell, altdude_cell, lace_cell, Spells, AllSpell, known_labels, KnownLabels}

-- two rows are the same
unfoldable same : List ℕ → List ℕ → Bool
same [] [] = true
same [] (y ∷ ys) = false
same (x ∷ xs) [] = false
same (x ∷ xs) (y ∷ ys) = both (eqb x y) (same xs ys)

-- the test of a cell, and of every cell
unfoldable holds : Cell → Bool
holds (altdude_cell text label) = same (altdude.label_of text) label
holds (lace_cell text label) = same (lace.label_of text) label

unfoldable all_hold : List Cell → Bool
all_hold [] = true
all_hold (cell ∷ cells) = both (holds cell) (all_hold cells)

same-equal : (xs ys : List ℕ) → same xs ys ≡ true → xs ≡ ys
unfolding same
same-equal [] [] e = refl
same-equal [] (y ∷ ys) e = absurd (true-not-false e refl)
same-equal (x ∷ xs) [] e = absurd (true-not-false e refl)
same-equal (x ∷ xs) (y ∷ ys) e = ap₂ ◌∷◌ (eqb-true x y (both_left _ _ e)) (same-equal xs ys (both_right _ _ e))

holds_spells : (cell : Cell) → holds cell ≡ true → Spells cell
unfolding holds
holds_spells (altdude_cell text label) e = same-equal (altdude.label_of text) label e
holds_spells (lace_cell text label) e = same-equal (lace.label_of text) label e

all-hold-spell : (cells : List Cell) → all_hold cells ≡ true → AllSpell cells
unfolding all_hold
all-hold-spell [] e = tt
all-hold-spell (cell ∷ cells) e = (holds_spells cell (both_left _ _ e), all-hold-spell cells (both_right _ _ e))

-- the computed test
known-hold : all_hold known_labels ≡ true
unfolding all_hold known_labels holds same both altdude.label_of altdude.symbols_from altdude.item_of altdude.group_of altdude.leading_digits altdude.remembered_after byte_of alphabet.character_of alphabet.altdude lace.label_of lace.octets_of lace.longest_runs lace.join_run lace.run_octets bytes_of_units to_units units_of characters_of to_quintets tabulate regroup group from_bits row_bit bit_of alphabet.lace
known-hold = refl

pub known-labels : KnownLabels
known-labels = all-hold-spell known_labels known-hold
