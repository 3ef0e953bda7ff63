-- What reading a table, one entry of it, a header and an entry by themselves answer, for every input,
-- in the order of the refusals.
use Rattle.std.specs.Prelude.{ℕ, zero, suc, not, List, eqb, ltb, leb, length, take, drop, Result, Ok, Err}
use Rattle.basis.specs.Tests.{within}
use Rattle.basis.specs.Rows.{at}
use Rattle.basis.specs.Outcome.{Outcome, done, refused, refused_if, and_then, number_of, outcome_by}
use Rattle.scheme.specs.Naming.{kind_names, is_known}
use Rattle.scheme.specs.Naming as naming
use Rattle.scheme.specs.Coding.{decode_outcome, text_of}
use Rattle.nametable_format.specs.Format.{header_kind, header_length, most_entries, entry_length, label_capacity, text_capacity, count_of, table_length, entry_at, kind_of, reader_of, length_of, label_in, is_filled, scheme_in}
use Rattle.basis.specs.declared.Refusal.{Refusal}
use Rattle.nametable.specs.declared.ReadEntry.{ReadEntry}

-- what an answer in entries says
abbrev pub table_outcome : Result ℕ Refusal → Outcome
table_outcome answer = outcome_by (λ count. count) answer

-- a header of this kind: empty 13; another first byte 14; under 3 bytes 13; a count that is not 1
-- to 500 14; then what follows
unfoldable pub header_tests : (kind : ℕ) → List ℕ → Outcome → Outcome
header_tests kind t next =
    refused_if (eqb (length t) 0) 13 0
    (refused_if (not (eqb (at t 0) kind)) 14 0
    (refused_if (ltb (length t) header_length) 13 0
    (refused_if (not (within 1 most_entries (count_of t))) 14 0
    next)))

-- so many bytes where so many are needed: fewer 13; more 14; then what follows
unfoldable pub length_tests : (bytes needed : ℕ) → Outcome → Outcome
length_tests bytes needed next = refused_if (ltb bytes needed) 13 0 (refused_if (ltb needed bytes) 14 0 next)

-- the header alone: its tests; else the number of entries that it announces
unfoldable pub header_outcome : (kind : ℕ) → List ℕ → Outcome
header_outcome kind t = header_tests kind t (done (count_of t))

-- the form of an entry whose label has at least the fewest bytes and at most the room, and whose
-- reader number is at least the least: the scheme, the reader number, the length, the filling of the
-- room (each 14); then what follows
unfoldable pub form_tests : (fewest room least : ℕ) → List ℕ → Outcome → Outcome
form_tests fewest room least e next =
    refused_if (not (is_known (kind_names (kind_of e)))) 14 0
    (refused_if (ltb (reader_of e) least) 14 0
    (refused_if (not (within fewest room (length_of e))) 14 0
    (refused_if (not (is_filled room e)) 14 0
    next)))

-- the verdict on one entry: its form's, then the label's own, at 0; else its reader number
unfoldable pub entry_judged : (fewest room least : ℕ) → List ℕ → Outcome
entry_judged fewest room least e = form_tests fewest room least e (and_then (λ _. 0) (decode_outcome (scheme_in e) text_capacity (label_in e)) (done (reader_of e)))

-- the entries from an index on, so many, each judged at its index; reader numbers rise strictly
-- from the least on
unfoldable pub entries_judged : (index least left : ℕ) → List ℕ → (total : ℕ) → Outcome
entries_judged index least zero bytes total = done total
entries_judged index least (suc left) bytes total =
    and_then (λ _. index) (entry_judged 1 label_capacity least (take entry_length bytes))
    (entries_judged (suc index) (suc (reader_of bytes)) left (drop entry_length bytes) total)

-- the header of a table of so many bytes, by those of its bytes that are there; the length that its
-- count asks; then what follows
abbrev pub size_tests : (header : List ℕ) (bytes : ℕ) → Outcome → Outcome
size_tests header bytes next = header_tests header_kind header (length_tests bytes (table_length (count_of header)) next)

-- reading a table: the header and the length, then entry by entry; it answers the number of entries
unfoldable pub read_outcome : List ℕ → Outcome
read_outcome t = size_tests t (length t) (entries_judged 0 0 (count_of t) (drop header_length t) (count_of t))

-- the text of an entry
unfoldable pub text_in : List ℕ → List ℕ
text_in e = text_of (scheme_in e) (label_in e)

-- the text of the entry at an index
abbrev pub entry_text : List ℕ → ℕ → List ℕ
entry_text t index = text_in (entry_at t index)

-- one entry by index of a table of so many entries, with this verdict: 1 for a capacity under 63;
-- the table's own refusal; 14 for an index not below the number of entries; else so many points
unfoldable pub found_outcome : (verdict : Outcome) (count index capacity points : ℕ) → Outcome
found_outcome verdict count index capacity points =
    refused_if (ltb capacity text_capacity) 1 0
    (and_then (λ p. p) verdict
    (refused_if (leb count index) 14 0
    (done points)))

-- one entry by index: it answers the count of points
unfoldable pub find_outcome : List ℕ → (index capacity : ℕ) → Outcome
find_outcome t index capacity = found_outcome (read_outcome t) (count_of t) index capacity (length (entry_text t index))

-- reading one entry by itself: the verdict on it, at the position; else the count of points
unfoldable pub entry_read : (least position : ℕ) → List ℕ → Outcome
entry_read least position e = and_then (λ _. position) (entry_judged 1 label_capacity least e) (done (length (text_in e)))

-- an entry that comes without its table: 1 for a capacity under 63; 13 for fewer bytes than an entry
-- has, 14 for more; then the entry by itself
unfoldable pub lone_entry_outcome : (least position capacity : ℕ) → List ℕ → Outcome
lone_entry_outcome least position capacity e =
    refused_if (ltb capacity text_capacity) 1 0
    (length_tests (length e) entry_length
    (entry_read least position e))

-- one entry by index of a table that was judged: 1 for a capacity under 63; 13 for a table with no
-- whole header; 14 for an index not below the number of entries that the header announces; 13 for a
-- table that ends before the entry does; then the entry by itself
unfoldable pub judged_entry_outcome : List ℕ → (index capacity : ℕ) → Outcome
judged_entry_outcome t index capacity =
    refused_if (ltb capacity text_capacity) 1 0
    (refused_if (ltb (length t) header_length) 13 0
    (refused_if (leb (count_of t) index) 14 0
    (refused_if (ltb (length t) (table_length (suc index))) 13 0
    (entry_read 0 index (entry_at t index)))))

-- what one entry answers: reader number, scheme number and count of points, or an error's number
-- and position
pub data EntryOutcome : Type 0 where
  found : ℕ → ℕ → ℕ → EntryOutcome
  not_found : ℕ → ℕ → EntryOutcome

-- the outcome of an answer
unfoldable pub entry_outcome : Result ReadEntry Refusal → EntryOutcome
entry_outcome (Ok entry) = found entry.reader (naming.number_of entry.scheme) entry.count.0
entry_outcome (Err refusal) = not_found (number_of refusal.code) refusal.position

-- the entry with this count of points, or the refusal
unfoldable pub entry_from : List ℕ → Outcome → EntryOutcome
entry_from e (done count) = found (reader_of e) (naming.number_of (scheme_in e)) count
entry_from e (refused number position) = not_found number position
