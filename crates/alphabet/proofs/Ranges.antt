-- The look-up answers what it did when it decided by ranges. The ranges, and the value by them, are kept for that theorem alone.
use Prim.Native.Nat.{ℕ, ◌+◌, ◌-◌, ◌<◌}
use mathlib.Core.Path.{◌≡◌, refl, sym, ap, ◌∙◌}
use mathlib.Core.List.{List, [], ◌∷◌}
use Rattle.basis.specs.Tests.{pick, both, within, first_below}
use Rattle.basis.specs.Rows.{at, tabulate}
use Rattle.basis.proofs.Lists.{at-tabulate}
use Rattle.ascii.specs.Case.{is_capital, small}
use Rattle.alphabet.specs.Alphabet.{altdude, lace, brace, value_of, with_case, look_up}

-- the characters from first to last, and the value of the first
pub data Range : Type 0 where
  range : (first last value : ℕ) → Range

-- the value of a byte by the first range that holds it, 32 where none does
unfoldable pub value_by : List Range → ℕ → ℕ
value_by [] byte = 32
value_by (range first last value ∷ ranges) byte = pick (within first last byte) (value + (byte - first)) (value_by ranges byte)

-- the digits and the small letters of the three alphabets
abbrev pub altdude_ranges : List Range
altdude_ranges = range 50 57 24 ∷ range 112 122 13 ∷ range 109 110 11 ∷ range 97 107 0 ∷ []

abbrev pub lace_ranges : List Range
lace_ranges = range 50 55 26 ∷ range 97 122 0 ∷ []

abbrev pub brace_ranges : List Range
brace_ranges = range 50 57 0 ∷ range 112 122 21 ∷ range 109 110 19 ∷ range 97 107 8 ∷ []

-- the test: the values of the 256 bytes' small forms by the ranges are those in the alphabet
abbrev Agree : List Range → List ℕ → Type 0
Agree ranges alphabet = tabulate 256 (value_of alphabet) ≡ tabulate 256 (λ byte. value_by ranges (small byte))

-- then the look-up's answer is the value by the ranges, with the case of the byte, for every byte
same-by-ranges : (ranges : List Range) (alphabet : List ℕ) → Agree ranges alphabet → (byte : ℕ) → byte < 256
    → look_up alphabet byte ≡ with_case (value_by ranges (small byte)) byte
same-by-ranges ranges alphabet test byte h =
    ap (λ (value : ℕ). with_case value byte)
    (sym (at-tabulate 256 (value_of alphabet) byte h) ∙ ap (λ (l : List ℕ). at l byte) test ∙ at-tabulate 256 (λ b. value_by ranges (small b)) byte h)

-- of the three alphabets
pub altdude-as-before : (byte : ℕ) → byte < 256 → look_up altdude byte ≡ with_case (value_by altdude_ranges (small byte)) byte
unfolding tabulate value_by value_of altdude small is_capital within both first_below
altdude-as-before = same-by-ranges altdude_ranges altdude refl

pub lace-as-before : (byte : ℕ) → byte < 256 → look_up lace byte ≡ with_case (value_by lace_ranges (small byte)) byte
unfolding tabulate value_by value_of lace small is_capital within both first_below
lace-as-before = same-by-ranges lace_ranges lace refl

pub brace-as-before : (byte : ℕ) → byte < 256 → look_up brace byte ≡ with_case (value_by brace_ranges (small byte)) byte
unfolding tabulate value_by value_of brace small is_capital within both first_below
brace-as-before = same-by-ranges brace_ranges brace refl
