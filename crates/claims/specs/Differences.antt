-- What the report on two tables says beyond its bytes: its rows are exactly what the entries of both tables say, each reader number once
-- and in order; its counts count them and add up; a table does not differ from itself, in either form.
use Rattle.std.specs.Prelude.{ℕ, suc, ◌+◌, ◌≤◌, ◌<◌, ◌≡◌, List, [], ◌∷◌, length}
use Rattle.basis.specs.Tests.{pick}
use Rattle.basis.specs.Rows.{at, AllBelow}
use Rattle.basis.specs.Outcome.{done, refused}
use Rattle.nametable_format.specs.Format.{count_of, entry_at, reader_of, scheme_in}
use Rattle.nametable.specs.Answer.{read_outcome, text_in}
use Rattle.nametable_short.specs.Answer.{short_read_outcome, to_short, to_long}
use Rattle.report.specs.Lines.{left_word, right_word, side_refused_line, counts_line}
use Rattle.nametable_differences.specs.declared.Difference.{Difference}
use Rattle.nametable_differences.specs.declared.Difference.TheVariants.{Same, OtherText, Respelled, OnlyLeft, OnlyRight}
use Rattle.nametable_differences.specs.Differences.{verdict_of, in_long_form, Row, row, rows_of}
use Rattle.nametable_differences.specs.Report.{same_difference, how_many, rows_report, report_of, report_capacity}

-- the entry at an index of a long table has this reader number. Below, a short table stands for its long form, whose entries are its
-- own: `ShortForm.long_keeps`
abbrev pub HasAt : List ℕ → (index reader : ℕ) → Type 0
HasAt t index reader = (index < count_of t) × (reader_of (entry_at t index) ≡ reader)

-- some entry has it
abbrev pub Has : List ℕ → (reader : ℕ) → Type 0
Has t reader = (index : ℕ) × HasAt t index reader

-- an entry of either table has it, and of these two something holds
abbrev pub InBoth : (left right : List ℕ) (reader : ℕ) → (List ℕ → List ℕ → Type 0) → Type 0
InBoth left right reader P = (i : ℕ) × (j : ℕ) × HasAt left i reader × HasAt right j reader × P (entry_at left i) (entry_at right j)

-- what each difference at a reader number means, by the entries alone
abbrev pub Described : Difference → (left right : List ℕ) (reader : ℕ) → Type 0
Described Same left right reader = InBoth left right reader (λ e f. (text_in e ≡ text_in f) × (scheme_in e ≡ scheme_in f))
Described OtherText left right reader = InBoth left right reader (λ e f. text_in e ≡ text_in f → ⊥)
Described Respelled left right reader = InBoth left right reader (λ e f. (text_in e ≡ text_in f) × (scheme_in e ≡ scheme_in f → ⊥))
Described OnlyLeft left right reader = Has left reader × (Has right reader → ⊥)
Described OnlyRight left right reader = Has right reader × (Has left reader → ⊥)

-- each number is below the next
abbrev pub Rising : List ℕ → Type 0
Rising numbers = (i : ℕ) → suc i < length numbers → at numbers i < at numbers (suc i)

-- the reader numbers of rows
unfoldable pub readers_of : List Row → List ℕ
readers_of [] = []
readers_of (row reader d ∷ rs) = reader ∷ readers_of rs

-- the rows with this difference
unfoldable pub with_difference : Difference → List Row → List Row
with_difference d [] = []
with_difference d (row reader e ∷ rs) = pick (same_difference d e) (row reader e ∷ with_difference d rs) (with_difference d rs)

-- the numbers are exactly those that something holds of, each once, rising
pub record ListsAll (Holds : ℕ → Type 0) (numbers : List ℕ) : Type 0 where
  pub rising : Rising numbers
  pub each : (i : ℕ) → i < length numbers → Holds (at numbers i)
  pub all : (number : ℕ) → Holds number → (i : ℕ) × (i < length numbers) × (at numbers i ≡ number)

-- two tables of bytes, each of either form, that read whole, with so many entries
pub record BothWhole (left right : List ℕ) (m n : ℕ) : Type 0 where
  pub left_bytes : AllBelow 256 left
  pub right_bytes : AllBelow 256 right
  pub left_reads : verdict_of left ≡ done m
  pub right_reads : verdict_of right ≡ done n

-- the rows of two tables of either form
abbrev pub rows_for : (left right : List ℕ) → List Row
rows_for left right = rows_of (in_long_form left) (in_long_form right)

-- the report has no line but the last, with so many entries that are the same
abbrev pub AllSame : (left right : List ℕ) (n : ℕ) → Type 0
AllSame left right n = report_of left right ≡ counts_line n 0 0 0 0

pub record Differences : Type 0 where
  -- a refusal is reported alone: the left table's, else the right one's
  pub left_refused : (left right : List ℕ) (number position : ℕ) → verdict_of left ≡ refused number position
      → report_of left right ≡ side_refused_line left_word number position
  pub right_refused : (left right : List ℕ) (m number position : ℕ) → verdict_of left ≡ done m → verdict_of right ≡ refused number position
      → report_of left right ≡ side_refused_line right_word number position
  -- of two whole tables the rows are reported, and there is room for the report
  pub whole_tables : (left right : List ℕ) (m n : ℕ) → BothWhole left right m n
      → (report_of left right ≡ rows_report (rows_for left right)) × (length (report_of left right) ≤ report_capacity)
  -- the rows are in the order of reader numbers, each once
  pub in_order : (left right : List ℕ) → Rising (readers_of (rows_for left right))
  -- the rows with a difference are exactly the reader numbers that it describes, each once, rising
  pub described : (left right : List ℕ) (m n : ℕ) → BothWhole left right m n → (d : Difference)
      → ListsAll (Described d (in_long_form left) (in_long_form right)) (readers_of (with_difference d (rows_for left right)))
  -- and its count is how many these are
  pub counts : (d : Difference) (rs : List Row) → how_many d rs ≡ length (readers_of (with_difference d rs))
  -- the counts add up to the number of entries of the left table, and of the right
  pub left_total : (left right : List ℕ) (m n : ℕ) → BothWhole left right m n
      → how_many Same (rows_for left right) + how_many OtherText (rows_for left right) + how_many Respelled (rows_for left right) + how_many OnlyLeft (rows_for left right) ≡ m
  pub right_total : (left right : List ℕ) (m n : ℕ) → BothWhole left right m n
      → how_many Same (rows_for left right) + how_many OtherText (rows_for left right) + how_many Respelled (rows_for left right) + how_many OnlyRight (rows_for left right) ≡ n
  -- a whole table does not differ from itself
  pub itself : (table : List ℕ) (n : ℕ) → AllBelow 256 table → verdict_of table ≡ done n → AllSame table table n
  -- nor a long one from its short form, or a short one from its long form, on either side
  pub short_form : (table : List ℕ) (n : ℕ) → AllBelow 256 table → read_outcome table ≡ done n
      → AllSame table (to_short table) n × AllSame (to_short table) table n
  pub long_form : (table : List ℕ) (n : ℕ) → AllBelow 256 table → short_read_outcome table ≡ done n
      → AllSame table (to_long table) n × AllSame (to_long table) table n
