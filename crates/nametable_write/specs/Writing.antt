-- Writing a table: the entries that the caller's rows list, what writing them answers, in the order
-- of the refusals, and the bytes of their table.
use Rattle.std.specs.Prelude.{ℕ, suc, ◌+◌, ◌-◌, ◌/◌, ◌%◌, not, List, [], ◌∷◌, ◌++◌, eqb, ltb, length, take, drop}
use Rattle.basis.specs.Tests.{within}
use Rattle.basis.specs.Rows.{tabulate}
use Rattle.basis.specs.Outcome.{Outcome, done, refused_if, and_then}
use Rattle.scheme.specs.Naming.{own_number_names, is_known, scheme_named}
use Rattle.scheme.specs.Naming as naming
use Rattle.scheme.specs.Coding.{encode_outcome, label_of}
use Rattle.scheme.specs.declared.Scheme.{Scheme}
use Rattle.nametable_format.specs.Format.{header_kind, most_entries, label_capacity, table_length}

-- an entry to be written: its reader number, its scheme as a number, its text
pub data Entry : Type 0 where
  entry : (reader scheme : ℕ) (text : List ℕ) → Entry

-- the entries that the rows list, element by element; each text is the next so many points; where a
-- row ends, the list ends
unfoldable pub entries_of : (readers schemes lengths points : List ℕ) → List Entry
entries_of [] schemes lengths points = []
entries_of (reader ∷ readers) [] lengths points = []
entries_of (reader ∷ readers) (scheme ∷ schemes) [] points = []
entries_of (reader ∷ readers) (scheme ∷ schemes) (n ∷ lengths) points = entry reader scheme (take n points) ∷ entries_of readers schemes lengths (drop n points)

-- the sum of a row
unfoldable pub sum_of : List ℕ → ℕ
sum_of [] = 0
sum_of (n ∷ ns) = n + sum_of ns

-- the rows of a list: a number of readers that is not 1 to 500; another number of schemes; another
-- number of lengths; lengths whose sum is not the number of points (each 14); then what follows
unfoldable pub list_tests : (readers schemes lengths points : List ℕ) → Outcome → Outcome
list_tests readers schemes lengths points next =
    refused_if (not (within 1 most_entries (length readers))) 14 0
    (refused_if (not (eqb (length schemes) (length readers))) 14 0
    (refused_if (not (eqb (length lengths) (length readers))) 14 0
    (refused_if (not (eqb (sum_of lengths) (length points))) 14 0
    next)))

-- the scheme of a number; one that names none is always refused before
unfoldable pub scheme_of : ℕ → Scheme
scheme_of number = scheme_named (own_number_names number)

-- the verdict on one entry, whose reader number is to be at least the least: the reader number, the
-- scheme (each 14), then the label's own; else the length of the label
unfoldable pub entry_written : (least : ℕ) → Entry → Outcome
entry_written least (entry reader scheme text) =
    refused_if (ltb reader least) 14 0
    (refused_if (not (is_known (own_number_names scheme))) 14 0
    (encode_outcome (scheme_of scheme) label_capacity text))

-- the reader number of an entry
unfoldable pub reader_in : Entry → ℕ
reader_in (entry reader scheme text) = reader

-- the entries from an index on, each judged at its index; reader numbers rise strictly from the
-- least on
unfoldable pub entries_written : (index least : ℕ) → List Entry → (total : ℕ) → Outcome
entries_written index least [] total = done total
entries_written index least (e ∷ es) total = and_then (λ _. index) (entry_written least e) (entries_written (suc index) (suc (reader_in e)) es total)

-- writing a table: 1 for a capacity under that of a table of so many entries as there are readers;
-- the rows; then entry by entry; it answers the bytes of the table
unfoldable pub write_outcome : (capacity : ℕ) (readers schemes lengths points : List ℕ) → Outcome
write_outcome capacity readers schemes lengths points =
    refused_if (ltb capacity (table_length (length readers))) 1 0
    (list_tests readers schemes lengths points
    (entries_written 0 0 (entries_of readers schemes lengths points) (table_length (length readers))))

-- a number as two bytes, the high byte first
unfoldable pub number_bytes : ℕ → List ℕ
number_bytes n = n / 256 ∷ n % 256 ∷ []

-- so many zeros
unfoldable pub zeros : ℕ → List ℕ
zeros n = tabulate n (λ _. 0)

-- a label and its filling: as many bytes as an entry has room for
unfoldable pub filled : List ℕ → List ℕ
filled label = label ++ zeros (label_capacity - length label)

-- the bytes of an entry: the kind of its scheme, the reader number, the length of the label, the
-- label and its filling
unfoldable pub entry_bytes : Entry → List ℕ
entry_bytes (entry reader scheme text) =
    (naming.kind_of (scheme_of scheme) ∷ number_bytes reader)
    ++ (length (label_of (scheme_of scheme) text) ∷ filled (label_of (scheme_of scheme) text))

-- the bytes of the entries, one after the other
unfoldable pub entries_bytes : List Entry → List ℕ
entries_bytes [] = []
entries_bytes (e ∷ es) = entry_bytes e ++ entries_bytes es

-- the table of the entries: the header, then the entries
unfoldable pub table_of : List Entry → List ℕ
table_of es = (header_kind ∷ number_bytes (length es)) ++ entries_bytes es
