-- The short form of the name table: a header of its own kind, then entries (02's short cards), whose
-- kind says how much room there is for the label. The form of 01 is called the long one here.
use Rattle.std.specs.Prelude.{ℕ, zero, suc, ◌+◌, List, ◌∷◌, eqb, leb, length, take, drop, Option, Some, None}
use Rattle.basis.specs.Tests.{pick}
use Rattle.basis.specs.Rows.{at, tabulate}
use Rattle.scheme.specs.Naming.{own_number_names}
use Rattle.scheme.specs.Naming as naming
use Rattle.scheme.specs.declared.Scheme.{Scheme}
use Rattle.nametable_format.specs.Format.{header_length, label_capacity, label_start, kind_of, length_of, scheme_in}

-- the kind of the header, 49 hex
abbrev pub short_header_kind : ℕ
short_header_kind = 0x49

-- where in a short entry the number of its scheme is; its kind and reader number are where a long
-- entry has them
abbrev pub scheme_start : ℕ
scheme_start = 3

-- where in a short entry the label's length is
abbrev pub short_length_start : ℕ
short_length_start = 4

-- where in a short entry the label begins
abbrev pub short_label_start : ℕ
short_label_start = 5

-- the room of an entry of this kind for its label, in bytes: of 51 hex 16, of 52 hex 32, of 53 hex
-- 63; of any other kind, which no short entry has, 0
unfoldable pub room_of : (kind : ℕ) → ℕ
room_of kind = pick {A = ℕ} (eqb kind 0x51) 16 (pick {A = ℕ} (eqb kind 0x52) 32 (pick {A = ℕ} (eqb kind 0x53) 63 0))

-- the fewest bytes of label in an entry of this kind: one more than the next smaller kind has room
-- for (of a kind that no short entry has, more than its room)
unfoldable pub fewest_of : (kind : ℕ) → ℕ
fewest_of kind = pick {A = ℕ} (eqb kind 0x51) 1 (pick {A = ℕ} (eqb kind 0x52) 17 33)

-- the smallest kind that has room for so many bytes of label, 63 at most
unfoldable pub kind_for : (bytes : ℕ) → ℕ
kind_for bytes = pick {A = ℕ} (leb bytes 16) 0x51 (pick {A = ℕ} (leb bytes 32) 0x52 0x53)

-- the bytes of a short entry of this kind: its kind, the reader number (2), the number of the scheme
-- (1), the label's length (1), the room for the label
unfoldable pub short_length : (kind : ℕ) → ℕ
short_length kind = short_label_start + room_of kind

-- the entry that some bytes begin with, which is as long as its kind says, or as they are
unfoldable pub first_entry : List ℕ → List ℕ
first_entry bytes = take (short_length (kind_of bytes)) bytes

-- the bytes after it
unfoldable pub after_first : List ℕ → List ℕ
after_first bytes = drop (short_length (kind_of bytes)) bytes

-- the bytes from the entry at an index on
unfoldable pub from_entry : (index : ℕ) → List ℕ → List ℕ
from_entry zero bytes = bytes
from_entry (suc index) bytes = from_entry index (after_first bytes)

-- the entry at an index of a short table
unfoldable pub short_entry_at : List ℕ → ℕ → List ℕ
short_entry_at t index = first_entry (from_entry index (drop header_length t))

-- so many bytes: those of the row, and zeros past its end
unfoldable pub fitted : ℕ → List ℕ → List ℕ
fitted n bytes = tabulate n (at bytes)

-- the kind of a long entry of the scheme that is named; 0, which is no scheme's, where none is
unfoldable pub kind_named : Option Scheme → ℕ
kind_named (Some scheme) = naming.kind_of scheme
kind_named None = 0

-- the long entry that a short one stands for: the kind of its scheme, the reader number, the label's
-- length, and the room for the label, with zeros after it
unfoldable pub long_of : List ℕ → List ℕ
long_of e =
    kind_named (own_number_names (at e scheme_start)) ∷ at e 1 ∷ at e 2 ∷ at e short_length_start
    ∷ fitted label_capacity (drop short_label_start e)

-- the short entry that stands for a long one: the smallest kind that holds its label, the reader
-- number, the number of its scheme, the label's length, and as much of the room for the label
unfoldable pub short_of : List ℕ → List ℕ
short_of e =
    kind_for (length_of e) ∷ at e 1 ∷ at e 2 ∷ naming.number_of (scheme_in e) ∷ length_of e
    ∷ fitted (room_of (kind_for (length_of e))) (drop label_start e)

-- a buffer in which these bytes were to be stored: the bytes where it is as long as they are, else as
-- it was
unfoldable pub filled_by : (bytes buffer : List ℕ) → List ℕ
filled_by bytes buffer = pick (eqb (length buffer) (length bytes)) bytes buffer
