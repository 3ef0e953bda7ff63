-- Which style a text has: its units that are not LDH alone decide. They are called the codes of the
-- text here; the bits that stand for a unit in a style are `Style.code_of`.
use Rattle.std.specs.Prelude.{ℕ, ◌+◌, ◌-◌, ◌*◌, ◌/◌, Bool, ◌||◌, List, [], ◌∷◌, eqb, ltb, length}
use Rattle.basis.specs.Tests.{pick, both, every_in}
use Rattle.ascii.specs.Ldh.{is_ldh}
use Rattle.brace_format.specs.declared.style.Style.{Style}
use Rattle.brace_format.specs.declared.style.Style.TheVariants.{HalfRow, Row, Mixed, NoRow}
use Rattle.brace_format.specs.Style.{other_half}

-- the codes of a text
unfoldable pub codes_of : List ℕ → List ℕ
codes_of [] = []
codes_of (u ∷ t) = pick (is_ldh u) (codes_of t) (u ∷ codes_of t)

-- how many codes are in a half-row
unfoldable pub count_in : (half : ℕ) → List ℕ → ℕ
count_in half [] = 0
count_in half (c ∷ codes) = pick (eqb (c / 128) half) 1 0 + count_in half codes

-- the draft's M: how many characters mixed style takes with a half-row
unfoldable pub mixed_cost : (codes : List ℕ) (half : ℕ) → ℕ
mixed_cost codes half = 3 + (18 * length codes - 10 * count_in half codes - 9 * count_in (other_half half) codes) / 5

-- the draft's M': how many characters no-row style takes
unfoldable pub no_row_cost : (codes : List ℕ) → ℕ
no_row_cost codes = (6 + 16 * length codes) / 5

-- the half-row g is better than h: fewer characters, or as many and a lower number
unfoldable pub is_better : (codes : List ℕ) (g h : ℕ) → Bool
is_better codes g h = ltb (mixed_cost codes g) (mixed_cost codes h) || both (eqb (mixed_cost codes g) (mixed_cost codes h)) (ltb g h)

-- the best of the half-row h and those of the candidates, by the cost over all codes
unfoldable pub best_of : (codes : List ℕ) (h : ℕ) (candidates : List ℕ) → ℕ
best_of codes h [] = h
best_of codes h (c ∷ candidates) = best_of codes (pick (is_better codes (c / 128) h) (c / 128) h) candidates

-- mixed style with the half-row if that takes fewer characters than no-row style
unfoldable pub mixed_or_no_row : (codes : List ℕ) (half : ℕ) → Style
mixed_or_no_row codes half = pick (ltb (mixed_cost codes half) (no_row_cost codes)) (Mixed half) NoRow

-- the style for the codes: half-row style if all are in one half-row, row style if all are in one
-- row, else the shorter of mixed and no-row style; no-row style where there are none
unfoldable pub style_for : List ℕ → Style
style_for [] = NoRow
style_for (c ∷ codes) =
    pick (every_in (λ x. eqb (x / 128) (c / 128)) codes) (HalfRow (c / 128))
    (pick (every_in (λ x. eqb (x / 256) (c / 256)) codes) (Row (c / 256))
    (mixed_or_no_row (c ∷ codes) (best_of (c ∷ codes) (c / 128) codes)))

-- the style of a text
unfoldable pub style_of : List ℕ → Style
style_of t = style_for (codes_of t)
