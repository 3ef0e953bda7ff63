-- What private steps promise; no public promise cites it.
use Rattle.std.specs.Prelude.{ℕ, ◌+◌, ◌<◌, min, ◌≡◌, List, ltb, length}
use Rattle.basis.specs.Tests.{pick}
use Rattle.basis.specs.Outcome.{Outcome, done, and_then}
use Rattle.nametable_format.specs.Format.{count_of, entry_at, reader_of}
use Rattle.nametable_differences.specs.declared.Difference.{Difference}
use Rattle.nametable_differences.specs.declared.Difference.TheVariants.{Same, OtherText, Respelled, OnlyLeft, OnlyRight}
use Rattle.report.specs.declared.Counts.{Counts}
use Rattle.nametable_differences.specs.declared.rows.Found.{Found}
use Rattle.nametable_differences.specs.Differences.{verdict_of, in_long_form, compared, Row, reader_numbers}
use Rattle.nametable_differences.specs.Report.{one_if, how_many}

-- leaving a table in the long form: its own refusal, else how many bytes that are
unfoldable pub long_form_outcome : List ℕ → Outcome
long_form_outcome t = and_then (λ p. p) (verdict_of t) (done (length (in_long_form t)))

-- the reader number of the entry at an index; past the last entry a number above all
unfoldable pub next_reader : List ℕ → (index : ℕ) → ℕ
next_reader t index = pick {A = ℕ} (ltb index (count_of t)) (reader_of (entry_at t index)) reader_numbers

-- what differs at the lower of the next reader numbers of both tables
unfoldable pub next_difference : (left : List ℕ) (i : ℕ) (right : List ℕ) (j : ℕ) → Difference
next_difference left i right j =
    pick (ltb (next_reader left i) (next_reader right j)) OnlyLeft
    (pick (ltb (next_reader right j) (next_reader left i)) OnlyRight
    (compared (entry_at left i) (entry_at right j)))

-- the next row was found
pub record IsNext (left : List ℕ) (i : ℕ) (right : List ℕ) (j : ℕ) (found : Found) : Type 0 where
  pub reader : found.reader ≡ min (next_reader left i) (next_reader right j)
  pub difference : found.difference ≡ next_difference left i right j
  pub small : found.reader < reader_numbers

-- how many entries of the left table a row with this difference takes
unfoldable pub left_taken : Difference → ℕ
left_taken Same = 1
left_taken OtherText = 1
left_taken Respelled = 1
left_taken OnlyLeft = 1
left_taken OnlyRight = 0

-- and of the right table
unfoldable pub right_taken : Difference → ℕ
right_taken Same = 1
right_taken OtherText = 1
right_taken Respelled = 1
right_taken OnlyLeft = 0
right_taken OnlyRight = 1

-- the counts are those of the rows
pub record Counted (rs : List Row) (counts : Counts) : Type 0 where
  pub same : counts.same ≡ how_many Same rs
  pub other : counts.other ≡ how_many OtherText rs
  pub respelled : counts.respelled ≡ how_many Respelled rs
  pub left : counts.left ≡ how_many OnlyLeft rs
  pub right : counts.right ≡ how_many OnlyRight rs

-- each count is below the number of reader numbers
pub record Few (counts : Counts) : Type 0 where
  pub same : counts.same < reader_numbers
  pub other : counts.other < reader_numbers
  pub respelled : counts.respelled < reader_numbers
  pub left : counts.left < reader_numbers
  pub right : counts.right < reader_numbers

-- a row with this difference was counted
pub record OneMore (counts : Counts) (difference : Difference) (more : Counts) : Type 0 where
  pub same : more.same ≡ counts.same + one_if Same difference
  pub other : more.other ≡ counts.other + one_if OtherText difference
  pub respelled : more.respelled ≡ counts.respelled + one_if Respelled difference
  pub left : more.left ≡ counts.left + one_if OnlyLeft difference
  pub right : more.right ≡ counts.right + one_if OnlyRight difference
