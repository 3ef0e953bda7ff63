-- The definitions at the lines of the scope paper and of the difference report, and at the edges of the numbers.
use mathlib.Core.Path.{◌≡◌, refl}
use mathlib.Core.List.{[], ◌∷◌, ◌++◌}
use Rattle.report.specs.Digits.{digit_character, digits_before, digit_count, digits_of}
use Rattle.report.specs.Lines.{point_mark, point_bytes, spaced_points, points_bytes, points_line, list_line, refused_word, at_word, word_number, refused_number, refused_line, refused_at_line, side_refused_line, difference_line, same_word, other_word, respelled_word, left_word, right_word, counts_line}

-- 00007 A U+00FC
list-7 : list_line 7 65 (0xfc ∷ []) ≡ 48 ∷ 48 ∷ 48 ∷ 48 ∷ 55 ∷ 32 ∷ 65 ∷ 32 ∷ 85 ∷ 43 ∷ 48 ∷ 48 ∷ 70 ∷ 67 ∷ 10 ∷ []
unfolding list_line points_line points_bytes spaced_points point_bytes point_mark digits_of digits_before digit_count digit_character
list-7 = refl

-- 00300 L U+00FC
list-300 : list_line 300 76 (0xfc ∷ []) ≡ 48 ∷ 48 ∷ 51 ∷ 48 ∷ 48 ∷ 32 ∷ 76 ∷ 32 ∷ 85 ∷ 43 ∷ 48 ∷ 48 ∷ 70 ∷ 67 ∷ 10 ∷ []
unfolding list_line points_line points_bytes spaced_points point_bytes point_mark digits_of digits_before digit_count digit_character
list-300 = refl

-- 65535
reader-65535 : digits_before 10 5 65535 [] ≡ 54 ∷ 53 ∷ 53 ∷ 51 ∷ 53 ∷ []
unfolding digits_before digit_character
reader-65535 = refl

-- U+0000 U+10FFFF U+9ABC
points-three : points_line (0 ∷ 0x10ffff ∷ 0x9abc ∷ []) ≡
    (85 ∷ 43 ∷ 48 ∷ 48 ∷ 48 ∷ 48 ∷ 32 ∷ []) ++ (85 ∷ 43 ∷ 49 ∷ 48 ∷ 70 ∷ 70 ∷ 70 ∷ 70 ∷ 32 ∷ []) ++ (85 ∷ 43 ∷ 57 ∷ 65 ∷ 66 ∷ 67 ∷ 10 ∷ [])
unfolding points_line points_bytes spaced_points point_bytes point_mark digits_of digits_before digit_count digit_character
points-three = refl

-- refused 9 at 1
refused-9-at-1 : refused_at_line 9 1 ≡ 114 ∷ 101 ∷ 102 ∷ 117 ∷ 115 ∷ 101 ∷ 100 ∷ 32 ∷ 57 ∷ 32 ∷ 97 ∷ 116 ∷ 32 ∷ 49 ∷ 10 ∷ []
unfolding refused_at_line refused_number word_number refused_word at_word digits_of digits_before digit_count digit_character
refused-9-at-1 = refl

-- refused 13 at 0
refused-13-at-0 : refused_at_line 13 0 ≡ 114 ∷ 101 ∷ 102 ∷ 117 ∷ 115 ∷ 101 ∷ 100 ∷ 32 ∷ 49 ∷ 51 ∷ 32 ∷ 97 ∷ 116 ∷ 32 ∷ 48 ∷ 10 ∷ []
unfolding refused_at_line refused_number word_number refused_word at_word digits_of digits_before digit_count digit_character
refused-13-at-0 = refl

-- refused 9
refused-9 : refused_line 9 ≡ 114 ∷ 101 ∷ 102 ∷ 117 ∷ 115 ∷ 101 ∷ 100 ∷ 32 ∷ 57 ∷ 10 ∷ []
unfolding refused_line refused_number word_number refused_word digits_of digits_before digit_count digit_character
refused-9 = refl

-- left refused 9 at 1
left-refused-9-at-1 : side_refused_line left_word 9 1 ≡ 108 ∷ 101 ∷ 102 ∷ 116 ∷ 32 ∷ 114 ∷ 101 ∷ 102 ∷ 117 ∷ 115 ∷ 101 ∷ 100 ∷ 32 ∷ 57 ∷ 32 ∷ 97 ∷ 116 ∷ 32 ∷ 49 ∷ 10 ∷ []
unfolding side_refused_line left_word refused_at_line refused_number word_number refused_word at_word digits_of digits_before digit_count digit_character
left-refused-9-at-1 = refl

-- 00007 respelled
difference-7 : difference_line 7 respelled_word ≡ 48 ∷ 48 ∷ 48 ∷ 48 ∷ 55 ∷ 32 ∷ 114 ∷ 101 ∷ 115 ∷ 112 ∷ 101 ∷ 108 ∷ 108 ∷ 101 ∷ 100 ∷ 10 ∷ []
unfolding difference_line respelled_word digits_before digit_character
difference-7 = refl

-- same 0 other 0 respelled 1 left 1 right 0
counts-respelled-left : counts_line 0 0 1 1 0 ≡
    (115 ∷ 97 ∷ 109 ∷ 101 ∷ 32 ∷ 48 ∷ 32 ∷ []) ++ (111 ∷ 116 ∷ 104 ∷ 101 ∷ 114 ∷ 32 ∷ 48 ∷ 32 ∷ []) ++ (114 ∷ 101 ∷ 115 ∷ 112 ∷ 101 ∷ 108 ∷ 108 ∷ 101 ∷ 100 ∷ 32 ∷ 49 ∷ 32 ∷ []) ++ (108 ∷ 101 ∷ 102 ∷ 116 ∷ 32 ∷ 49 ∷ 32 ∷ []) ++ (114 ∷ 105 ∷ 103 ∷ 104 ∷ 116 ∷ 32 ∷ 48 ∷ 10 ∷ [])
unfolding counts_line word_number same_word other_word respelled_word left_word right_word digits_of digits_before digit_count digit_character
counts-respelled-left = refl
