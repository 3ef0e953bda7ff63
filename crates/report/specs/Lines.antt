-- The bytes of points and of the lines that the programs print.
use Rattle.std.specs.Prelude.{ℕ, List, [], ◌∷◌, ◌++◌}
use Rattle.report.specs.Digits.{fixed_digits, digits_of}

-- U+
unfoldable pub point_mark : List ℕ
point_mark = 85 ∷ 43 ∷ []

-- a point: U+ and at least four hexadecimal digits
unfoldable pub point_bytes : ℕ → List ℕ
point_bytes point = point_mark ++ digits_of 16 4 point

-- a space before each point
unfoldable pub spaced_points : List ℕ → List ℕ
spaced_points [] = []
spaced_points (point ∷ points) = (32 ∷ point_bytes point) ++ spaced_points points

-- the points with a space between each two
unfoldable pub points_bytes : List ℕ → List ℕ
points_bytes [] = []
points_bytes (point ∷ points) = point_bytes point ++ spaced_points points

-- the points and a line feed
unfoldable pub points_line : List ℕ → List ℕ
points_line points = points_bytes points ++ (10 ∷ [])

-- reader number in five decimal digits, letter and points, a space between each two, and a line feed
unfoldable pub list_line : ℕ → ℕ → List ℕ → List ℕ
list_line reader letter points = fixed_digits 10 5 reader ++ ((32 ∷ letter ∷ 32 ∷ []) ++ points_line points)

-- the word refused
unfoldable pub refused_word : List ℕ
refused_word = 114 ∷ 101 ∷ 102 ∷ 117 ∷ 115 ∷ 101 ∷ 100 ∷ []

-- the word at, a space on either side
unfoldable pub at_word : List ℕ
at_word = 32 ∷ 97 ∷ 116 ∷ 32 ∷ []

-- a word, a space, and a number in decimal
unfoldable pub word_number : List ℕ → ℕ → List ℕ
word_number word n = word ++ ((32 ∷ []) ++ digits_of 10 1 n)

-- refused, a space, and the number in decimal
unfoldable pub refused_number : ℕ → List ℕ
refused_number code = word_number refused_word code

-- refused, the number, and a line feed
unfoldable pub refused_line : ℕ → List ℕ
refused_line code = refused_number code ++ (10 ∷ [])

-- refused, the number, at, the position, and a line feed
unfoldable pub refused_at_line : ℕ → ℕ → List ℕ
refused_at_line code position = refused_number code ++ (at_word ++ (digits_of 10 1 position ++ (10 ∷ [])))

-- a side, as left or right, a space, and the line of a refusal with a position
unfoldable pub side_refused_line : List ℕ → ℕ → ℕ → List ℕ
side_refused_line side code position = side ++ ((32 ∷ []) ++ refused_at_line code position)

-- reader number in five decimal digits, a space, words, and a line feed
unfoldable pub difference_line : ℕ → List ℕ → List ℕ
difference_line reader words = fixed_digits 10 5 reader ++ ((32 ∷ []) ++ (words ++ (10 ∷ [])))

-- the word same
unfoldable pub same_word : List ℕ
same_word = 115 ∷ 97 ∷ 109 ∷ 101 ∷ []

-- the word other
unfoldable pub other_word : List ℕ
other_word = 111 ∷ 116 ∷ 104 ∷ 101 ∷ 114 ∷ []

-- the word respelled
unfoldable pub respelled_word : List ℕ
respelled_word = 114 ∷ 101 ∷ 115 ∷ 112 ∷ 101 ∷ 108 ∷ 108 ∷ 101 ∷ 100 ∷ []

-- the word left
unfoldable pub left_word : List ℕ
left_word = 108 ∷ 101 ∷ 102 ∷ 116 ∷ []

-- the word right
unfoldable pub right_word : List ℕ
right_word = 114 ∷ 105 ∷ 103 ∷ 104 ∷ 116 ∷ []

-- the word only
unfoldable pub only_word : List ℕ
only_word = 111 ∷ 110 ∷ 108 ∷ 121 ∷ []

-- the word text
unfoldable pub text_word : List ℕ
text_word = 116 ∷ 101 ∷ 120 ∷ 116 ∷ []

-- five counts, each after its word, a space before all words but the first, and a line feed
unfoldable pub counts_line : (same other respelled left right : ℕ) → List ℕ
counts_line same other respelled left right =
    word_number same_word same ++ (word_number (32 ∷ other_word) other ++ (word_number (32 ∷ respelled_word) respelled
    ++ (word_number (32 ∷ left_word) left ++ (word_number (32 ∷ right_word) right ++ (10 ∷ [])))))
