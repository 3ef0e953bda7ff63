-- The causes of refusal of a table, of one entry of it, of an entry without its table, and of a list
-- to be written, each by itself, in order.
use Rattle.std.specs.Prelude.{ℕ, zero, suc, ◌+◌, ◌-◌, ◌≤◌, ◌<◌, ◌≡◌, ◌⊎◌, List, [], ◌∷◌, length, take, drop}
use Rattle.basis.specs.Rows.{at}
use Rattle.basis.specs.Causes.{Cause, whole, moved_all}
use Rattle.scheme.specs.Naming as naming
use Rattle.scheme.specs.Coding.{codec_of}
use Rattle.scheme.specs.declared.Scheme.{Scheme}
use Rattle.nametable_format.specs.Format.{header_kind, header_length, most_entries, entry_length, label_capacity, text_capacity, label_start, count_of, table_length, entry_at, kind_of, reader_of, length_of, label_in, scheme_in}
use Rattle.nametable_write.specs.Writing.{Entry, entry, entries_of, sum_of, scheme_of, reader_in}

-- the kind is no scheme's
abbrev pub UnknownKind : List ℕ → Type 0
UnknownKind e = (s : Scheme) → kind_of e ≡ naming.kind_of s → ⊥

-- the number is not one of low to high
abbrev pub Outside : (low high : ℕ) → ℕ → Type 0
Outside low high n = (n < low) ⊎ (high < n)

-- a byte of the label's room after it is not zero
abbrev pub NotFilled : (room : ℕ) → List ℕ → Type 0
NotFilled room e = (i : ℕ) × (i < room - length_of e) × (at e (label_start + length_of e + i) ≡ 0 → ⊥)

-- against one entry whose label is to have at least the fewest bytes and at most the room, and whose
-- reader number is to be at least the least: the kind, the reader number, the length, the filling,
-- then the label's own, at 0
abbrev pub entry_causes : (fewest room least : ℕ) → List ℕ → List Cause
entry_causes fewest room least e =
    whole 14 (UnknownKind e) ∷ whole 14 (reader_of e < least) ∷ whole 14 (Outside fewest room (length_of e)) ∷ whole 14 (NotFilled room e)
    ∷ moved_all (λ _. 0) ((codec_of (scheme_in e)).label_causes (label_in e)) []

-- against the entries from an index on, so many, each at its index; the next reader number is to be
-- one more at least
unfoldable pub entries_causes : (index least left : ℕ) → List ℕ → List Cause
entries_causes index least zero bytes = []
entries_causes index least (suc left) bytes =
    moved_all (λ _. index) (entry_causes 1 label_capacity least (take entry_length bytes)) (entries_causes (suc index) (suc (reader_of bytes)) left (drop entry_length bytes))

-- against a header of this kind: empty; another first byte; under 3 bytes; a count that is not 1 to
-- 500; then the later ones
abbrev pub header_causes : (kind : ℕ) → List ℕ → List Cause → List Cause
header_causes kind t later =
    whole 13 (length t ≡ 0) ∷ whole 14 (at t 0 ≡ kind → ⊥) ∷ whole 13 (length t < header_length) ∷ whole 14 (Outside 1 most_entries (count_of t)) ∷ later

-- against so many bytes where so many are needed: fewer; more; then the later ones
abbrev pub length_causes : (bytes needed : ℕ) → List Cause → List Cause
length_causes bytes needed later = whole 13 (bytes < needed) ∷ whole 14 (needed < bytes) ∷ later

-- against the header of a table of so many bytes, and the length that its count asks; then the later
-- ones
abbrev pub size_causes : (header : List ℕ) (bytes : ℕ) → List Cause → List Cause
size_causes header bytes later = header_causes header_kind header (length_causes bytes (table_length (count_of header)) later)

-- against reading a table: the header and the length, then entry by entry
abbrev pub table_causes : List ℕ → List Cause
table_causes t = size_causes t (length t) (entries_causes 0 0 (count_of t) (drop header_length t))

-- against one entry by index of a table of so many entries, against which these causes are: 1, the
-- table's own, then an index not below the number of entries
abbrev pub found_causes : (table : List Cause) (count index capacity : ℕ) → List Cause
found_causes table count index capacity = whole 1 (capacity < text_capacity) ∷ moved_all (λ p. p) table (whole 14 (count ≤ index) ∷ [])

-- against one entry by index
abbrev pub find_causes : List ℕ → (index capacity : ℕ) → List Cause
find_causes t index capacity = found_causes (table_causes t) (count_of t) index capacity

-- against an entry that comes without its table: 1, the length, then the entry's own, at the position
abbrev pub lone_entry_causes : (least position capacity : ℕ) → List ℕ → List Cause
lone_entry_causes least position capacity e =
    whole 1 (capacity < text_capacity) ∷ length_causes (length e) entry_length (moved_all (λ _. position) (entry_causes 1 label_capacity least e) [])

-- against one entry by index of a table that was judged: 1, no whole header, an index not below the
-- number of entries, an end before that of the entry, then the entry's own, at its index
abbrev pub judged_entry_causes : List ℕ → (index capacity : ℕ) → List Cause
judged_entry_causes t index capacity =
    whole 1 (capacity < text_capacity) ∷ whole 13 (length t < header_length) ∷ whole 14 (count_of t ≤ index) ∷ whole 13 (length t < table_length (suc index))
    ∷ moved_all (λ _. index) (entry_causes 1 label_capacity 0 (entry_at t index)) []

-- the number is no scheme's
abbrev pub UnknownScheme : ℕ → Type 0
UnknownScheme number = (s : Scheme) → number ≡ naming.number_of s → ⊥

-- against one entry to be written, whose reader number is to be at least the least: the reader
-- number, the scheme, then the text's own
abbrev pub entry_write_causes : (least : ℕ) → Entry → List Cause
entry_write_causes least (entry reader scheme text) = whole 14 (reader < least) ∷ whole 14 (UnknownScheme scheme) ∷ (codec_of (scheme_of scheme)).text_causes text

-- against the entries from an index on, each at its index; the next reader number is to be one more
-- at least
unfoldable pub entries_write_causes : (index least : ℕ) → List Entry → List Cause
entries_write_causes index least [] = []
entries_write_causes index least (e ∷ es) = moved_all (λ _. index) (entry_write_causes least e) (entries_write_causes (suc index) (suc (reader_in e)) es)

-- against the rows of a list: a number of readers that is not 1 to 500; another number of schemes,
-- or of lengths; lengths whose sum is not the number of points; then the later ones
abbrev pub list_causes : (readers schemes lengths points : List ℕ) → List Cause → List Cause
list_causes readers schemes lengths points later =
    whole 14 (Outside 1 most_entries (length readers)) ∷ whole 14 (length schemes ≡ length readers → ⊥) ∷ whole 14 (length lengths ≡ length readers → ⊥)
    ∷ whole 14 (sum_of lengths ≡ length points → ⊥) ∷ later

-- against writing a table: 1, the rows, then entry by entry
abbrev pub write_causes : (capacity : ℕ) (readers schemes lengths points : List ℕ) → List Cause
write_causes capacity readers schemes lengths points =
    whole 1 (capacity < table_length (length readers))
    ∷ list_causes readers schemes lengths points (entries_write_causes 0 0 (entries_of readers schemes lengths points))
