-- The line of each difference, and the report of the request's example, byte for byte.
use mathlib.Core.Path.{◌≡◌, refl}
use mathlib.Core.List.{[], ◌∷◌}
use Rattle.report.specs.Digits.{digit_character, digits_before, digit_count, digits_of}
use Rattle.report.specs.Lines.{word_number, same_word, other_word, text_word, respelled_word, only_word, left_word, right_word, difference_line, counts_line}
use Rattle.nametable_differences.specs.declared.Difference.TheVariants.{Same, OtherText, Respelled, OnlyLeft, OnlyRight}
use Rattle.nametable_differences.specs.Differences.{row}
use Rattle.nametable_differences.specs.Report.{row_line, row_lines, rank_of, same_difference, one_if, how_many, rows_report}

-- no line
line_same : row_line (row 7 Same) ≡ []
unfolding row_line
line_same = refl

-- 00007 other text
line_other : row_line (row 7 OtherText) ≡ 48 ∷ 48 ∷ 48 ∷ 48 ∷ 55 ∷ 32 ∷ 111 ∷ 116 ∷ 104 ∷ 101 ∷ 114 ∷ 32 ∷ 116 ∷ 101 ∷ 120 ∷ 116 ∷ 10 ∷ []
unfolding row_line difference_line other_word text_word respelled_word only_word left_word right_word digits_before digit_character
line_other = refl

-- 00007 respelled
line-respelled : row_line (row 7 Respelled) ≡ 48 ∷ 48 ∷ 48 ∷ 48 ∷ 55 ∷ 32 ∷ 114 ∷ 101 ∷ 115 ∷ 112 ∷ 101 ∷ 108 ∷ 108 ∷ 101 ∷ 100 ∷ 10 ∷ []
unfolding row_line difference_line other_word text_word respelled_word only_word left_word right_word digits_before digit_character
line-respelled = refl

-- 00007 only left
line-left : row_line (row 7 OnlyLeft) ≡ 48 ∷ 48 ∷ 48 ∷ 48 ∷ 55 ∷ 32 ∷ 111 ∷ 110 ∷ 108 ∷ 121 ∷ 32 ∷ 108 ∷ 101 ∷ 102 ∷ 116 ∷ 10 ∷ []
unfolding row_line difference_line other_word text_word respelled_word only_word left_word right_word digits_before digit_character
line-left = refl

-- 00007 only right
line-right : row_line (row 7 OnlyRight) ≡ 48 ∷ 48 ∷ 48 ∷ 48 ∷ 55 ∷ 32 ∷ 111 ∷ 110 ∷ 108 ∷ 121 ∷ 32 ∷ 114 ∷ 105 ∷ 103 ∷ 104 ∷ 116 ∷ 10 ∷ []
unfolding row_line difference_line other_word text_word respelled_word only_word left_word right_word digits_before digit_character
line-right = refl

-- 00007 respelled, 00300 only left, same 0 other 0 respelled 1 left 1 right 0
request : rows_report (row 7 Respelled ∷ row 300 OnlyLeft ∷ []) ≡ 48 ∷ 48 ∷ 48 ∷ 48 ∷ 55 ∷ 32 ∷ 114 ∷ 101 ∷ 115 ∷ 112 ∷ 101 ∷ 108 ∷ 108 ∷ 101 ∷ 100 ∷ 10 ∷ 48 ∷ 48 ∷ 51 ∷ 48 ∷ 48 ∷ 32 ∷ 111 ∷ 110 ∷ 108 ∷ 121 ∷ 32 ∷ 108 ∷ 101 ∷ 102 ∷ 116 ∷ 10 ∷ 115 ∷ 97 ∷ 109 ∷ 101 ∷ 32 ∷ 48 ∷ 32 ∷ 111 ∷ 116 ∷ 104 ∷ 101 ∷ 114 ∷ 32 ∷ 48 ∷ 32 ∷ 114 ∷ 101 ∷ 115 ∷ 112 ∷ 101 ∷ 108 ∷ 108 ∷ 101 ∷ 100 ∷ 32 ∷ 49 ∷ 32 ∷ 108 ∷ 101 ∷ 102 ∷ 116 ∷ 32 ∷ 49 ∷ 32 ∷ 114 ∷ 105 ∷ 103 ∷ 104 ∷ 116 ∷ 32 ∷ 48 ∷ 10 ∷ []
unfolding rows_report row_lines how_many one_if same_difference rank_of counts_line word_number same_word digits_of digit_count row_line difference_line other_word text_word respelled_word only_word left_word right_word digits_before digit_character
request = refl
