-- Lines: their lengths, their stores piece by piece, and what their writers answer and leave.
use Prim.Native.Nat.{ℕ, ◌+◌, ◌≤◌, ◌<◌}
use mathlib.Core.Path.{◌≡◌, ap, ◌∙◌}
use mathlib.Core.List.{List, [], ◌∷◌, ◌++◌}
use native.Mathlib.Omega.{arith}
use lib.ListN.{length, drop, set, length-append}
use Rattle.basis.specs.Outcome.{Outcome, done, refused, count_of, buffer_after}
use Rattle.basis.proofs.Lists.{sets-front}
use Rattle.basis.proofs.Stores.{stored-append, stored_one}
use Rattle.basis.proofs.Outcome.{stop-below, pass_below, refusal-leaves, done-leaves}
use Rattle.report.specs.Digits.{fixed_digits, digits_of}
use Rattle.report.specs.Lines.{points_bytes, points_line, list_line, refused_word, at_word, word_number, refused_number, refused_line, refused_at_line, side_refused_line, difference_line, same_word, other_word, respelled_word, left_word, right_word, counts_line}
use Rattle.report.specs.Answer.{line_outcome}
use Rattle.basis.specs.Internal.{Stored}
use Rattle.report.proofs.DigitLaws.{fixed-length}

pub points-line-length : (points : List ℕ) → length (points_line points) ≡ length (points_bytes points) + 1
unfolding points_line
points-line-length points = length-append (points_bytes points) (10 ∷ [])

pub list-line-length : (reader letter : ℕ) (points : List ℕ) → length (list_line reader letter points) ≡ length (points_line points) + 8
unfolding list_line
list-line-length reader letter points =
    omega (arith, length-append (fixed_digits 10 5 reader) ((32 ∷ letter ∷ 32 ∷ []) ++ points_line points), fixed-length 10 5 reader)

pub word-number-length : (word : List ℕ) (n : ℕ) → length (word_number word n) ≡ length word + length (digits_of 10 1 n) + 1
unfolding word_number
word-number-length word n = omega (arith, length-append word (32 ∷ digits_of 10 1 n))

-- the index after a word and a number that were stored
pub word-number-next : (word : List ℕ) (n : ℕ) {old now : List ℕ} {at next : ℕ} → Stored old at (word_number word n) now next → next ≡ at + length word + length (digits_of 10 1 n) + 1
word-number-next word n s = omega (arith, s.count, word-number-length word n)

pub number-length : (code : ℕ) → length (refused_number code) ≡ length (digits_of 10 1 code) + 8
unfolding refused_number refused_word
number-length code = omega (arith, word-number-length refused_word code)

pub refused-length : (code : ℕ) → length (refused_line code) ≡ length (refused_number code) + 1
unfolding refused_line
refused-length code = length-append (refused_number code) (10 ∷ [])

pub refused-at-length : (code position : ℕ) → length (refused_at_line code position) ≡ length (refused_number code) + length (digits_of 10 1 position) + 5
unfolding refused_at_line at_word
refused-at-length code position =
    omega (arith, length-append (refused_number code) (at_word ++ (digits_of 10 1 position ++ (10 ∷ []))), length-append (digits_of 10 1 position) (10 ∷ []))

pub side-refused-length : (side : List ℕ) (code position : ℕ) → length (side_refused_line side code position) ≡ length side + 1 + length (refused_at_line code position)
unfolding side_refused_line
side-refused-length side code position = omega (arith, length-append side (32 ∷ refused_at_line code position))

pub difference-length : (reader : ℕ) (words : List ℕ) → length (difference_line reader words) ≡ length words + 7
unfolding difference_line
difference-length reader words =
    omega (arith, length-append (fixed_digits 10 5 reader) (32 ∷ (words ++ (10 ∷ []))), fixed-length 10 5 reader, length-append words (10 ∷ []))

pub counts-length : (same other respelled left right : ℕ) → length (counts_line same other respelled left right)
    ≡ length (digits_of 10 1 same) + length (digits_of 10 1 other) + length (digits_of 10 1 respelled) + length (digits_of 10 1 left) + length (digits_of 10 1 right) + 37
unfolding counts_line same_word other_word respelled_word left_word right_word
counts-length same other respelled left right = simp (length-append, word-number-length) (omega arith)

-- a piece, a space after it, and another piece
pub stored-spaced : (space : ℕ) {old piece mid : List ℕ} {at next skip : ℕ} → Stored old at piece mid next
    → {more later : List ℕ} {last : ℕ} → Stored (set mid next space) skip more later last
    → space ≡ 32 → skip ≡ next + 1 → Stored old at (piece ++ ((32 ∷ []) ++ more)) later last
stored-spaced space {mid = mid} {next = next} s t e f = stored-append s (stored-append (stored_one mid next 32) (rw (e, f) at t))

-- the counts one after the other, and the line feed
pub stored-counts : (same other respelled left right : ℕ) {old a b c d e : List ℕ} {i j k l m : ℕ} → Stored old 0 (word_number same_word same) a i
    → Stored a i (word_number (32 ∷ other_word) other) b j → Stored b j (word_number (32 ∷ respelled_word) respelled) c k
    → Stored c k (word_number (32 ∷ left_word) left) d l → Stored d l (word_number (32 ∷ right_word) right) e m
    → Stored old 0 (counts_line same other respelled left right) (set e m 10) (m + 1)
unfolding counts_line
stored-counts same other respelled left right {e = e} {m = m} s t u v w =
    stored-append s (stored-append t (stored-append u (stored-append v (stored-append w (stored_one e m 10)))))

-- the two returns of a writer: the answer, and the buffer afterwards; and what its caller has of them
module _ (line old : List ℕ) where
  abbrev Answered : Outcome → List ℕ → Type 0
  Answered answer now = (answer ≡ line_outcome line (length old)) × (now ≡ buffer_after (line_outcome line (length old)) line old)

  pub line_refused : length old < length line → (answer : Outcome) → answer ≡ refused 1 0 → Answered answer old
  unfolding line_outcome
  line_refused h answer e = refusal-leaves _ answer _ old 1 0 e (stop-below _ _ _ _ _ h)

  pub line-done : length line ≤ length old → (now : List ℕ) (n : ℕ) → Stored old 0 line now n → Answered (done n) now
  unfolding line_outcome
  line-done h now n s =
      let e : length line ≡ n = omega (arith, s.count) in
      done-leaves (line_outcome line (length old)) line old now n
      (pass_below _ _ _ _ _ h ∙ ap done e)
      (s.stores ∙ sets-front line old h ∙ ap (λ (k : ℕ). line ++ drop k old) e)

  -- a line that has room is written whole, by the count of the answer
  pub line-written : (whole : List ℕ) → line ≡ whole → length whole ≤ length old → (answer : Outcome) (now : List ℕ) → Answered answer now → (n : ℕ) → n ≡ count_of answer
      → (n ≡ length whole) × (now ≡ whole ++ drop (length whole) old)
  unfolding line_outcome buffer_after count_of
  line-written whole same h answer now a n c =
      let o : line_outcome whole (length old) ≡ done (length whole) = pass_below _ _ _ _ _ h in
      let b = rw same at a in
      (c ∙ ap count_of (b.0 ∙ o), b.1 ∙ rw o)
