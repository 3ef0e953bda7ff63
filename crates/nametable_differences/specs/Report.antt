-- The report on two name tables (02's sheet): a line for each difference and one with the counts, or one with a refusal.
use Rattle.std.specs.Prelude.{ℕ, ◌+◌, Bool, List, [], ◌∷◌, ◌++◌, eqb, ltb, length}
use Rattle.basis.specs.Tests.{pick}
use Rattle.basis.specs.Outcome.{Outcome, done, refused, refused_if}
use Rattle.report.specs.Lines.{other_word, text_word, respelled_word, only_word, left_word, right_word, side_refused_line, difference_line, counts_line}
use Rattle.nametable_differences.specs.declared.Difference.{Difference}
use Rattle.nametable_differences.specs.declared.Difference.TheVariants.{Same, OtherText, Respelled, OnlyLeft, OnlyRight}
use Rattle.nametable_differences.specs.Differences.{verdict_of, in_long_form, Row, row, rows_of}

-- the line of a row; entries that are the same have none
unfoldable pub row_line : Row → List ℕ
row_line (row reader Same) = []
row_line (row reader OtherText) = difference_line reader (other_word ++ (32 ∷ text_word))
row_line (row reader Respelled) = difference_line reader respelled_word
row_line (row reader OnlyLeft) = difference_line reader (only_word ++ (32 ∷ left_word))
row_line (row reader OnlyRight) = difference_line reader (only_word ++ (32 ∷ right_word))

-- the lines of rows
unfoldable pub row_lines : List Row → List ℕ
row_lines [] = []
row_lines (r ∷ rs) = row_line r ++ row_lines rs

-- a number for each difference, to tell them apart
unfoldable pub rank_of : Difference → ℕ
rank_of Same = 0
rank_of OtherText = 1
rank_of Respelled = 2
rank_of OnlyLeft = 3
rank_of OnlyRight = 4

-- two differences are the same
unfoldable pub same_difference : Difference → Difference → Bool
same_difference d e = eqb (rank_of d) (rank_of e)

-- 1 if they are, else 0
unfoldable pub one_if : Difference → Difference → ℕ
one_if d e = pick {A = ℕ} (same_difference d e) 1 0

-- how many rows have this difference
unfoldable pub how_many : Difference → List Row → ℕ
how_many d [] = 0
how_many d (row reader e ∷ rs) = one_if d e + how_many d rs

-- the report on two tables with these rows: their lines, and the counts
unfoldable pub rows_report : List Row → List ℕ
rows_report rs = row_lines rs ++ counts_line (how_many Same rs) (how_many OtherText rs) (how_many Respelled rs) (how_many OnlyLeft rs) (how_many OnlyRight rs)

-- by the verdict on the left table, then that on the right: a refusal alone, or the report on the rows
unfoldable pub report_after : (left right : Outcome) → List Row → List ℕ
report_after (refused number position) right rs = side_refused_line left_word number position
report_after (done count) (refused number position) rs = side_refused_line right_word number position
report_after (done count) (done others) rs = rows_report rs

-- the report on two tables of either form
unfoldable pub report_of : (left right : List ℕ) → List ℕ
report_of left right = report_after (verdict_of left) (verdict_of right) (rows_of (in_long_form left) (in_long_form right))

-- the room that a caller must have for a report, in bytes
abbrev pub report_capacity : ℕ
report_capacity = 16546

-- writing the report: 1 for a capacity under that, whatever the tables; else the report's length
unfoldable pub report_outcome : (left right : List ℕ) (capacity : ℕ) → Outcome
report_outcome left right capacity = refused_if (ltb capacity report_capacity) 1 0 (done (length (report_of left right)))
