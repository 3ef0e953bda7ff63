-- The causes of refusal of a short table, of one entry of it, and of a move to the other form, each
-- by itself, in 02's order.
use Rattle.std.specs.Prelude.{ℕ, zero, suc, ◌+◌, ◌-◌, ◌≤◌, ◌<◌, ◌≡◌, List, [], ◌∷◌, length, take, drop}
use Rattle.basis.specs.Rows.{at}
use Rattle.basis.specs.Causes.{Cause, whole, placed, moved_all}
use Rattle.scheme.specs.Coding.{codec_of}
use Rattle.nametable_format.specs.Format.{header_length, count_of, kind_of, reader_of}
use Rattle.nametable_write.specs.Writing.{scheme_of}
use Rattle.nametable_facts.specs.Causes.{UnknownScheme, Outside, header_causes, table_causes, found_causes}
use Rattle.nametable_short_format.specs.Format.{short_header_kind, scheme_start, short_length_start, short_label_start, room_of, short_length, first_entry, after_first}
use Rattle.nametable_short.specs.Answer.{to_short, to_long}

-- the kind is none of a short entry
abbrev pub NoShortKind : List ℕ → Type 0
NoShortKind e = (kind_of e ≡ 0x51 → ⊥) × (kind_of e ≡ 0x52 → ⊥) × (kind_of e ≡ 0x53 → ⊥)

-- a kind with less room holds the label, too
abbrev pub KindTooLarge : List ℕ → Type 0
KindTooLarge e = (kind : ℕ) × (room_of kind < room_of (kind_of e)) × (at e short_length_start ≤ room_of kind)

-- a byte of the label's room after it is not zero
abbrev pub RoomNotFilled : List ℕ → Type 0
RoomNotFilled e =
    (i : ℕ) × (i < room_of (kind_of e) - at e short_length_start) × (at e (short_label_start + at e short_length_start + i) ≡ 0 → ⊥)

-- the label of a short entry
abbrev pub short_label_in : List ℕ → List ℕ
short_label_in e = take (at e short_length_start) (drop short_label_start e)

-- against one short entry, whose reader number is to be at least the least: the reader number, the
-- scheme, the length, a kind larger than needed, the filling, then the label's own, at 0
abbrev pub short_entry_causes : (least : ℕ) → List ℕ → List Cause
short_entry_causes least e =
    whole 14 (reader_of e < least) ∷ whole 14 (UnknownScheme (at e scheme_start)) ∷ whole 14 (Outside 1 (room_of (kind_of e)) (at e short_length_start))
    ∷ whole 14 (KindTooLarge e) ∷ whole 14 (RoomNotFilled e) ∷ moved_all (λ _. 0) ((codec_of (scheme_of (at e scheme_start))).label_causes (short_label_in e)) []

-- against the entries from an index on, so many: no byte left, an unknown kind at the index, an entry
-- that is not whole, then the entry's own, at its index; after the last one bytes that are left over
unfoldable pub short_entries_causes : (index least left : ℕ) → List ℕ → List Cause
short_entries_causes index least zero bytes = whole 14 (0 < length bytes) ∷ []
short_entries_causes index least (suc left) bytes =
    whole 13 (length bytes ≡ 0) ∷ placed 14 (λ position. (position ≡ index) × NoShortKind bytes) ∷ whole 13 (length bytes < short_length (kind_of bytes))
    ∷ moved_all (λ _. index) (short_entry_causes least (first_entry bytes)) (short_entries_causes (suc index) (suc (reader_of bytes)) left (after_first bytes))

-- against reading a short table: the header, then entry by entry
abbrev pub short_table_causes : List ℕ → List Cause
short_table_causes t = header_causes short_header_kind t (short_entries_causes 0 0 (count_of t) (drop header_length t))

-- against one entry by index
abbrev pub short_find_causes : List ℕ → (index capacity : ℕ) → List Cause
short_find_causes t index capacity = found_causes (short_table_causes t) (count_of t) index capacity

-- against moving a table, against which these causes are: the table's own, then 1
abbrev pub move_causes : (table : List Cause) (needed capacity : ℕ) → List Cause
move_causes table needed capacity = moved_all (λ p. p) table (whole 1 (capacity < needed) ∷ [])

-- against moving a long table to the short form
abbrev pub to_short_causes : List ℕ → (capacity : ℕ) → List Cause
to_short_causes t capacity = move_causes (table_causes t) (length (to_short t)) capacity

-- against moving a short table to the long form
abbrev pub to_long_causes : List ℕ → (capacity : ℕ) → List Cause
to_long_causes t capacity = move_causes (short_table_causes t) (length (to_long t)) capacity
