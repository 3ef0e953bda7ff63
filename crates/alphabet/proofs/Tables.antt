-- The value of a byte by a table of 256 entries. One computed test holds any table to any alphabet; the value in BRACE's alphabet
-- follows from that in AltDUDE's.
use Prim.Native.Nat.{ℕ, ◌+◌, ◌%◌, ◌<◌}
use mathlib.Core.Path.{◌≡◌, refl, sym, ap, ◌∙◌}
use mathlib.Core.List.{List}
use lib.Dec.{eqb}
use borrow.Author.Tests.{eq-eqb, ne_eqb}
use Rattle.basis.specs.Tests.{pick, both, within, first_below}
use Rattle.basis.specs.Rows.{at, tabulate}
use Rattle.basis.proofs.Lists.{at-tabulate}
use Rattle.ascii.specs.Case.{is_capital, small}
use Rattle.alphabet.specs.Alphabet.{altdude, brace, value_of}

-- the test of a table: it is the row of the values of the 256 bytes
abbrev pub TellsValues : (table alphabet : List ℕ) → Type 0
TellsValues table alphabet = table ≡ tabulate 256 (value_of alphabet)

-- a table that passes it tells the value of every byte
pub table-value : (table alphabet : List ℕ) → TellsValues table alphabet → (byte : ℕ) → byte < 256 → at table byte ≡ value_of alphabet byte
table-value table alphabet test byte h = ap (λ (l : List ℕ). at l byte) test ∙ at-tabulate 256 (value_of alphabet) byte h

-- the value in BRACE's alphabet, by that in AltDUDE's: 8 more, modulo 32, where there is one
unfoldable from_altdude : ℕ → ℕ
from_altdude value = pick (eqb value 32) 32 ((value + 8) % 32)

brace-from-altdude : tabulate 256 (λ byte. from_altdude (value_of altdude byte)) ≡ tabulate 256 (value_of brace)
unfolding tabulate from_altdude value_of altdude brace small is_capital within both first_below
brace-from-altdude = refl

module _ (byte : ℕ) (h : byte < 256) (value : ℕ) (is : value ≡ value_of altdude byte) where
  value-from-altdude : from_altdude value ≡ value_of brace byte
  value-from-altdude =
      ap from_altdude is ∙ sym (at-tabulate 256 (λ b. from_altdude (value_of altdude b)) byte h) ∙ ap (λ (l : List ℕ). at l byte) brace-from-altdude
      ∙ at-tabulate 256 (value_of brace) byte h

  pub brace-none : value ≡ 32 → 32 ≡ value_of brace byte
  unfolding from_altdude
  brace-none e = rw (eq-eqb value 32 e) at value-from-altdude

  pub brace-some : (value ≡ 32 → ⊥) → (value + 8) % 32 ≡ value_of brace byte
  unfolding from_altdude
  brace-some n = rw (ne_eqb value 32 n) at value-from-altdude

-- what `brace_value` needs
pub ruleset brace_by_value = (brace-none, brace-some)
