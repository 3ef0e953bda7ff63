-- What private steps ask and answer; no public promise cites it.
use Rattle.std.specs.Prelude.{ℕ, ◌<◌, List, [], ◌∷◌}
use Rattle.std.specs.Coded.{Unit-prop, le_prop}
use Rattle.basis.specs.Tests.{pick}
use Rattle.copying.specs.Modes.{is_second}
use Rattle.copying.specs.declared.Mode.{Mode}
use Rattle.brace_format.specs.declared.style.Style.{Style}
use Rattle.brace_format.specs.declared.style.Style.TheVariants.{HalfRow, Row, Mixed, NoRow}
use Rattle.brace_text.specs.declared.Kind.{Kind}
use Rattle.brace_text.specs.declared.Kind.TheVariants as kind

-- the half-row or row of a style is a number of nine or eight bits
unfoldable pub RowFits : Style → Type 0
RowFits (HalfRow h) = h < 512
RowFits (Row r) = r < 256
RowFits (Mixed h) = h < 512
RowFits NoRow = Unit {0}

pub RowFits-prop : (s : Style) → IsProp (RowFits s)
unfolding RowFits
RowFits-prop (HalfRow h) = le_prop
RowFits-prop (Row r) = le_prop
RowFits-prop (Mixed h) = le_prop
RowFits-prop NoRow = Unit-prop

-- the two bits of a kind of style
abbrev pub bits_of : Kind → ℕ
bits_of kind.HalfRow = 0
bits_of kind.Row = 1
bits_of kind.Mixed = 2
bits_of kind.NoRow = 3

-- what a hyphen adds to the text
unfoldable pub hyphen_adds : Mode → List ℕ
hyphen_adds m = pick (is_second m) (45 ∷ []) []
