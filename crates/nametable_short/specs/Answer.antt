-- What moving a table to the other form answers, for every input, in the order of the refusals, and
-- the bytes of the moved table; and what `nametable_short_read` answers.
use Rattle.std.specs.Prelude.{ℕ, zero, suc, List, [], ◌∷◌, ◌++◌, ltb, length, take, drop}
use Rattle.basis.specs.Rows.{at}
use Rattle.basis.specs.Outcome.{Outcome, done, refused_if, and_then}
use Rattle.nametable_format.specs.Format.{header_kind, header_length, entry_length, count_of}
use Rattle.nametable.specs.Answer.{read_outcome}
use Rattle.nametable_short_format.specs.Format.{short_header_kind, first_entry, after_first, long_of, short_of}
unfoldable pub use Rattle.nametable_short_read.specs.Answer.{whole_tests, short_entry_judged, short_entries_judged, short_read_outcome, short_find_outcome}
pub use Rattle.nametable_short_read.specs.Answer.{short_entry_text}

-- the header of a table, with another kind
unfoldable pub header_as : (kind : ℕ) → List ℕ → List ℕ
header_as kind t = kind ∷ at t 1 ∷ at t 2 ∷ []

-- the short entries for so many long ones
unfoldable pub short_entries : (left : ℕ) → List ℕ → List ℕ
short_entries zero bytes = []
short_entries (suc left) bytes = short_of (take entry_length bytes) ++ short_entries left (drop entry_length bytes)

-- the long entries for so many short ones
unfoldable pub long_entries : (left : ℕ) → List ℕ → List ℕ
long_entries zero bytes = []
long_entries (suc left) bytes = long_of (first_entry bytes) ++ long_entries left (after_first bytes)

-- the short form of a long table
unfoldable pub to_short : List ℕ → List ℕ
to_short t = header_as short_header_kind t ++ short_entries (count_of t) (drop header_length t)

-- the long form of a short table
unfoldable pub to_long : List ℕ → List ℕ
to_long t = header_as header_kind t ++ long_entries (count_of t) (drop header_length t)

-- moving a table with this verdict: its own refusal; 1 for a capacity under the bytes that are
-- needed; else that number
unfoldable pub move_outcome : (verdict : Outcome) (needed capacity : ℕ) → Outcome
move_outcome verdict needed capacity = and_then (λ p. p) verdict (refused_if (ltb capacity needed) 1 0 (done needed))

-- moving a long table to the short form
unfoldable pub to_short_outcome : List ℕ → (capacity : ℕ) → Outcome
to_short_outcome t capacity = move_outcome (read_outcome t) (length (to_short t)) capacity

-- moving a short table to the long form
unfoldable pub to_long_outcome : List ℕ → (capacity : ℕ) → Outcome
to_long_outcome t capacity = move_outcome (short_read_outcome t) (length (to_long t)) capacity
