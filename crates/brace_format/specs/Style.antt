-- The four styles: the bits before the codes, and the bits of the code of each unit that is not LDH.
-- A half-row is 128 units (unit / 128), a row 256 (unit / 256). The draft's full-row style is `Row`.
use Rattle.std.specs.Prelude.{ℕ, ◌+◌, ◌-◌, ◌*◌, ◌/◌, ◌%◌, eqb, ltb}
use Rattle.basis.specs.Tests.{pick}
use Rattle.brace_format.specs.declared.style.Style.{Style}
use Rattle.brace_format.specs.declared.style.Style.TheVariants.{HalfRow, Row, Mixed, NoRow}

-- the other half-row of the same row
unfoldable pub other_half : ℕ → ℕ
other_half h = h + 1 - 2 * (h % 2)

-- how many bits there are before the codes: two for the style, then its half-row or row
unfoldable pub head_width : Style → ℕ
head_width (HalfRow h) = 11
head_width (Row r) = 10
head_width (Mixed h) = 11
head_width NoRow = 2

-- their value: 00 and nine bits, 01 and eight bits, 10 and nine bits, 11
unfoldable pub head_value : Style → ℕ
head_value (HalfRow h) = h
head_value (Row r) = 256 + r
head_value (Mixed h) = 1024 + h
head_value NoRow = 3

-- how many bits the code of the unit u has
unfoldable pub width_of : Style → ℕ → ℕ
width_of (HalfRow h) u = 7
width_of (Row r) u = 8
width_of (Mixed h) u = pick (eqb (u / 128) h) 8 (pick (eqb (u / 128) (other_half h)) 9 18)
width_of NoRow u = 16

-- their value; in mixed style 0 and seven bits, 10 and seven bits, or 11 and sixteen bits
unfoldable pub code_of : Style → ℕ → ℕ
code_of (HalfRow h) u = u % 128
code_of (Row r) u = u % 256
code_of (Mixed h) u = pick (eqb (u / 128) h) (u % 128) (pick (eqb (u / 128) (other_half h)) (256 + u % 128) (196608 + u))
code_of NoRow u = u

-- how many bits a code has that begins with these two bits
unfoldable pub width_by : Style → ℕ → ℕ
width_by (HalfRow h) top = 7
width_by (Row r) top = 8
width_by (Mixed h) top = pick (ltb top 2) 8 (pick (eqb top 2) 9 18)
width_by NoRow top = 16

-- the unit of a code
unfoldable pub unit_of : Style → ℕ → ℕ
unit_of (HalfRow h) c = h * 128 + c % 128
unit_of (Row r) c = r * 256 + c % 256
unit_of (Mixed h) c = pick (ltb c 128) (h * 128 + c) (pick (ltb c 65536) (other_half h * 128 + c % 128) (c % 65536))
unit_of NoRow c = c % 65536
