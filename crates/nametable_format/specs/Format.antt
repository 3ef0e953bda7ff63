-- The format of the name table (the paper's book of names): a header, then entries (the paper's
-- cards), all of fixed length. Numbers are big-endian.
use Rattle.std.specs.Prelude.{ℕ, suc, ◌+◌, ◌-◌, ◌*◌, Bool, List, eqb, take, drop}
use Rattle.basis.specs.Tests.{every}
use Rattle.basis.specs.Rows.{at}
use Rattle.scheme.specs.Naming.{kind_names, scheme_named}
use Rattle.scheme.specs.declared.Scheme.{Scheme}

-- the kind of the header, 48 hex
abbrev pub header_kind : ℕ
header_kind = 0x48

-- the bytes of the header: its kind, then the number of entries (2)
abbrev pub header_length : ℕ
header_length = 3

-- where in the header the number of entries begins
abbrev pub count_start : ℕ
count_start = 1

-- the most entries that a table may have
abbrev pub most_entries : ℕ
most_entries = 500

-- the bytes of an entry: its kind, the reader number (2), the label's length (1), the label (63)
abbrev pub entry_length : ℕ
entry_length = 67

-- where in an entry the reader number begins
abbrev pub reader_start : ℕ
reader_start = 1

-- where in an entry the label's length is
abbrev pub length_start : ℕ
length_start = 3

-- where in an entry the label begins
abbrev pub label_start : ℕ
label_start = 4

-- the room of an entry for its label, in bytes
abbrev pub label_capacity : ℕ
label_capacity = 63

-- the room that a caller must have for the text of an entry, in points
abbrev pub text_capacity : ℕ
text_capacity = 63

-- the number of two bytes at an index
unfoldable pub number_at : List ℕ → ℕ → ℕ
number_at bytes i = at bytes i * 256 + at bytes (suc i)

-- how many entries the header announces
unfoldable pub count_of : List ℕ → ℕ
count_of table = number_at table count_start

-- how many bytes a table of so many entries has
abbrev pub table_length : ℕ → ℕ
table_length count = header_length + entry_length * count

-- the entry at an index: it begins where a table of so many entries ends
unfoldable pub entry_at : List ℕ → ℕ → List ℕ
entry_at table index = take entry_length (drop (table_length index) table)

-- the kind of an entry
unfoldable pub kind_of : List ℕ → ℕ
kind_of entry = at entry 0

-- the reader number of an entry
unfoldable pub reader_of : List ℕ → ℕ
reader_of entry = number_at entry reader_start

-- the length that an entry gives for its label
unfoldable pub length_of : List ℕ → ℕ
length_of entry = at entry length_start

-- the label of an entry
unfoldable pub label_in : List ℕ → List ℕ
label_in entry = take (length_of entry) (drop label_start entry)

-- zeros fill the label's room after it
unfoldable pub is_filled : (room : ℕ) → List ℕ → Bool
is_filled room entry = every (room - length_of entry) (λ i. eqb (at entry (label_start + length_of entry + i)) 0)

-- the scheme that the kind names
unfoldable pub scheme_in : List ℕ → Scheme
scheme_in entry = scheme_named (kind_names (kind_of entry))
