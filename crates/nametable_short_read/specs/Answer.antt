-- What reading a short table and one entry of it answer, for every input, in the order of the
-- refusals.
use Rattle.std.specs.Prelude.{ℕ, zero, suc, List, eqb, ltb, length, drop}
use Rattle.basis.specs.Outcome.{Outcome, done, refused_if, and_then}
use Rattle.nametable_format.specs.Format.{header_length, count_of, kind_of, reader_of}
use Rattle.nametable.specs.Answer.{header_tests, entry_judged, text_in, found_outcome}
use Rattle.nametable_short_format.specs.Format.{short_header_kind, room_of, fewest_of, short_length, first_entry, after_first, short_entry_at, long_of}

-- the first entry of some bytes is there and whole: no byte 13; an unknown kind 14, at the index;
-- fewer bytes than the kind asks 13; then what follows
unfoldable pub whole_tests : (index : ℕ) → List ℕ → Outcome → Outcome
whole_tests index bytes next =
    refused_if (eqb (length bytes) 0) 13 0
    (refused_if (eqb (room_of (kind_of bytes)) 0) 14 index
    (refused_if (ltb (length bytes) (short_length (kind_of bytes))) 13 0
    next))

-- the verdict on one short entry: that on the long entry that it stands for, with as many bytes of
-- label as the kind of the short one may have. It tests the scheme before the reader number, and the
-- length together with "the kind is no larger than needed"; all of these are 14 at one position
unfoldable pub short_entry_judged : (least : ℕ) → List ℕ → Outcome
short_entry_judged least e = entry_judged (fewest_of (kind_of e)) (room_of (kind_of e)) least (long_of e)

-- the entries from an index on, so many, each judged at its index once it is whole; reader numbers
-- rise strictly from the least on; bytes after the last entry 14
unfoldable pub short_entries_judged : (index least left : ℕ) → List ℕ → (total : ℕ) → Outcome
short_entries_judged index least zero bytes total = refused_if (ltb 0 (length bytes)) 14 0 (done total)
short_entries_judged index least (suc left) bytes total =
    whole_tests index bytes
    (and_then (λ _. index) (short_entry_judged least (first_entry bytes))
    (short_entries_judged (suc index) (suc (reader_of bytes)) left (after_first bytes) total))

-- reading a short table: the header, then entry by entry; it answers the number of entries
unfoldable pub short_read_outcome : List ℕ → Outcome
short_read_outcome t = header_tests short_header_kind t (short_entries_judged 0 0 (count_of t) (drop header_length t) (count_of t))

-- the text of the entry at an index
abbrev pub short_entry_text : List ℕ → ℕ → List ℕ
short_entry_text t index = text_in (long_of (short_entry_at t index))

-- one entry by index: it answers the count of points
unfoldable pub short_find_outcome : List ℕ → (index capacity : ℕ) → Outcome
short_find_outcome t index capacity = found_outcome (short_read_outcome t) (count_of t) index capacity (length (short_entry_text t index))
