-- What differs between two name tables of either form, by reader number.
use Rattle.std.specs.Prelude.{ℕ, zero, suc, Bool, List, [], ◌∷◌, ◌++◌, eqb, ltb, length}
use Rattle.basis.specs.Tests.{pick, both, every, first_below}
use Rattle.basis.specs.Rows.{at}
use Rattle.basis.specs.Outcome.{Outcome}
use Rattle.scheme.specs.Naming as naming
use Rattle.nametable_format.specs.Format.{count_of, entry_at, reader_of, scheme_in}
use Rattle.nametable.specs.Answer.{read_outcome, text_in}
use Rattle.nametable_short_format.specs.Format.{short_header_kind}
use Rattle.nametable_short.specs.Answer.{short_read_outcome, to_long}
use Rattle.nametable_differences.specs.declared.Difference.{Difference}
use Rattle.nametable_differences.specs.declared.Difference.TheVariants.{Same, OtherText, Respelled, OnlyLeft, OnlyRight}

-- a table is taken for one of the short form by its first byte, 49 hex; any other is one of the long form
unfoldable pub is_short : List ℕ → Bool
is_short t = eqb (at t 0) short_header_kind

-- reading a table of either form
unfoldable pub verdict_of : List ℕ → Outcome
verdict_of t = pick (is_short t) (short_read_outcome t) (read_outcome t)

-- a table of either form, in the long one
unfoldable pub in_long_form : List ℕ → List ℕ
in_long_form t = pick (is_short t) (to_long t) t

-- the index of the entry of a long table that has this reader number; the number of entries if none has it
unfoldable pub index_of : List ℕ → (reader : ℕ) → ℕ
index_of t reader = first_below (count_of t) (λ i. eqb (reader_of (entry_at t i)) reader)

-- an entry of the table has this reader number
unfoldable pub has_reader : List ℕ → (reader : ℕ) → Bool
has_reader t reader = ltb (index_of t reader) (count_of t)

-- that entry
abbrev pub entry_of : List ℕ → (reader : ℕ) → List ℕ
entry_of t reader = entry_at t (index_of t reader)

-- two texts are the same: as many points, and the same one at each index
unfoldable pub same_text : List ℕ → List ℕ → Bool
same_text xs ys = both (eqb (length xs) (length ys)) (every (length xs) (λ i. eqb (at xs i) (at ys i)))

-- two entries have the same scheme
unfoldable pub same_scheme : List ℕ → List ℕ → Bool
same_scheme e f = eqb (naming.number_of (scheme_in e)) (naming.number_of (scheme_in f))

-- what differs between an entry of the left table and one of the right that have the same reader number: the text, else the
-- scheme, else nothing
unfoldable pub compared : List ℕ → List ℕ → Difference
compared e f = pick (same_text (text_in e) (text_in f)) (pick (same_scheme e f) Same Respelled) OtherText

-- a reader number that a table has, and what differs there
pub data Row : Type 0 where
  row : (reader : ℕ) → Difference → Row

-- the row of a reader number of two long tables; none if neither has it
unfoldable pub row_at : (left right : List ℕ) (reader : ℕ) → List Row
row_at left right reader =
    pick (has_reader left reader)
    (row reader (pick (has_reader right reader) (compared (entry_of left reader) (entry_of right reader)) OnlyLeft) ∷ [])
    (pick (has_reader right reader) (row reader OnlyRight ∷ []) [])

-- the rows of the reader numbers below n, in their order
unfoldable pub rows_below : (left right : List ℕ) (n : ℕ) → List Row
rows_below left right zero = []
rows_below left right (suc n) = rows_below left right n ++ row_at left right n

-- how many reader numbers there are: they have two bytes
abbrev pub reader_numbers : ℕ
reader_numbers = 65536

-- the rows of all reader numbers
unfoldable pub rows_of : (left right : List ℕ) → List Row
rows_of left right = rows_below left right reader_numbers
