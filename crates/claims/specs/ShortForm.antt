-- What the short form of the name table promises beyond its answers: a table moves to the other form and back, byte for byte, keeps its
-- entries, and is refused as cut wherever it is cut.
use Rattle.std.specs.Prelude.{ℕ, ◌+◌, ◌*◌, ◌≤◌, ◌<◌, ◌≡◌, ◌↔◌, List, length, take}
use Rattle.basis.specs.Rows.{at}
use Rattle.basis.specs.Outcome.{done, refused, buffer_after}
use Rattle.scheme.specs.Naming as naming
use Rattle.nametable_format.specs.Format.{entry_at, reader_of, label_in, scheme_in}
use Rattle.nametable.specs.Answer.{read_outcome, entry_text, find_outcome, entry_from}
use Rattle.nametable_short_format.specs.Format.{short_entry_at, long_of}
use Rattle.nametable_short.specs.Answer.{short_read_outcome, short_entry_text, short_find_outcome, to_short, to_long, to_short_outcome, to_long_outcome}
use Rattle.nametable_short_facts.specs.Causes.{short_label_in}

-- what moving a long table into the buffer leaves in so many bytes
abbrev pub moved_to_short : (table buffer : List ℕ) (bytes : ℕ) → List ℕ
moved_to_short table buffer bytes = take bytes (buffer_after (to_short_outcome table (length buffer)) (to_short table) buffer)

-- what moving a short table into the buffer leaves in so many bytes
abbrev pub moved_to_long : (table buffer : List ℕ) (bytes : ℕ) → List ℕ
moved_to_long table buffer bytes = take bytes (buffer_after (to_long_outcome table (length buffer)) (to_long table) buffer)

-- a short table and a long one with the same entries, so many
pub record SameEntries (short long : List ℕ) (count : ℕ) : Type 0 where
  -- each reads with so many
  pub short_reads : short_read_outcome short ≡ done count
  pub long_reads : read_outcome long ≡ done count
  -- at every index and capacity one entry of the one answers as of the other: done with as many points, or the same refusal
  pub answers : (index capacity : ℕ) → short_find_outcome short index capacity ≡ find_outcome long index capacity
  -- and with the same reader number and scheme, as both functions' contracts give them
  pub alike : (index capacity : ℕ)
      → entry_from (long_of (short_entry_at short index)) (short_find_outcome short index capacity) ≡ entry_from (entry_at long index) (find_outcome long index capacity)
  -- at each index the short entry stands for the long one
  pub entry : (index : ℕ) → index < count → long_of (short_entry_at short index) ≡ entry_at long index
  -- what it says by its own bytes is what the long one says: its reader number, its scheme, and its label byte for byte
  pub reader : (index : ℕ) → index < count → reader_of (short_entry_at short index) ≡ reader_of (entry_at long index)
  pub scheme : (index : ℕ) → index < count → at (short_entry_at short index) 3 ≡ naming.number_of (scheme_in (entry_at long index))
  pub label : (index : ℕ) → index < count → short_label_in (short_entry_at short index) ≡ label_in (entry_at long index)
  -- and its text is that of the long one
  pub text : (index : ℕ) → index < count → short_entry_text short index ≡ entry_text long index

pub record ShortForm : Type 0 where
  -- a long table that was moved moves back, given the room, and is then what it was
  pub moves_back : (table short long : List ℕ) (bytes : ℕ) → to_short_outcome table (length short) ≡ done bytes → length table ≤ length long
      → (to_long_outcome (moved_to_short table short bytes) (length long) ≡ done (length table))
      × (moved_to_long (moved_to_short table short bytes) long (length table) ≡ table)
  -- and so does a short one
  pub moves_forth : (table long short : List ℕ) (bytes : ℕ) → to_long_outcome table (length long) ≡ done bytes → length table ≤ length short
      → (to_short_outcome (moved_to_long table long bytes) (length short) ≡ done (length table))
      × (moved_to_short (moved_to_long table long bytes) short (length table) ≡ table)
  -- a long table that reads whole is moved exactly if there is room for its short form
  pub moves_to_short : (table : List ℕ) (count capacity : ℕ) → read_outcome table ≡ done count
      → (to_short_outcome table capacity ≡ done (length (to_short table))) ↔ (length (to_short table) ≤ capacity)
  -- a short table that reads whole is moved exactly if there is room for a long table of so many entries
  pub moves_to_long : (table : List ℕ) (count capacity : ℕ) → short_read_outcome table ≡ done count
      → (to_long_outcome table capacity ≡ done (3 + 67 * count)) ↔ (3 + 67 * count ≤ capacity)
  -- a moved table has the entries that it had
  pub short_keeps : (table short : List ℕ) (count bytes : ℕ) → read_outcome table ≡ done count → to_short_outcome table (length short) ≡ done bytes
      → SameEntries (moved_to_short table short bytes) table count
  pub long_keeps : (table long : List ℕ) (count bytes : ℕ) → short_read_outcome table ≡ done count → to_long_outcome table (length long) ≡ done bytes
      → SameEntries table (moved_to_long table long bytes) count
  -- a short table that reads whole and is cut at any byte before its end is 13, from reading, and from one entry at any index, given the room
  pub prefix_read : (table : List ℕ) (count k : ℕ) → short_read_outcome table ≡ done count → k < length table → short_read_outcome (take k table) ≡ refused 13 0
  pub prefix_entry : (table : List ℕ) (count k : ℕ) → short_read_outcome table ≡ done count → k < length table
      → (index capacity : ℕ) → 63 ≤ capacity → short_find_outcome (take k table) index capacity ≡ refused 13 0
  -- a short table that reads whole has at most 34,003 bytes
  pub longest : (table : List ℕ) (count : ℕ) → short_read_outcome table ≡ done count → length table ≤ 34003
