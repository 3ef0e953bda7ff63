-- What writing a name table promises beyond its answers: what is written reads back, and what was read is written again.
use Rattle.std.specs.Prelude.{ℕ, ◌≤◌, ◌<◌, ◌≡◌, ◌↔◌, List, length, take}
use Rattle.basis.specs.Rows.{AllBelow}
use Rattle.basis.specs.Outcome.{done, buffer_after}
use Rattle.scheme.specs.Coding.{label_of}
use Rattle.nametable_format.specs.Format.{entry_at, label_in, scheme_in}
use Rattle.nametable.specs.Answer.{read_outcome, find_outcome, entry_text}
use Rattle.nametable_write.specs.Writing.{Entry, entries_of, write_outcome, table_of}
use Rattle.nametable_facts.specs.Entries.{entries_in, readers_of, schemes_of, lengths_of, points_of, Holds}

-- the bytes that writing the list into the buffer leaves before this count
abbrev pub bytes_written : (readers schemes lengths points buffer : List ℕ) (count : ℕ) → List ℕ
bytes_written readers schemes lengths points buffer count =
    take count (buffer_after (write_outcome (length buffer) readers schemes lengths points) (table_of (entries_of readers schemes lengths points)) buffer)

pub record TableWritten : Type 0 where
  -- what is written reads as a table of so many entries as there are readers
  pub reads_back : (readers schemes lengths points buffer : List ℕ) (count : ℕ) → write_outcome (length buffer) readers schemes lengths points ≡ done count
      → read_outcome (bytes_written readers schemes lengths points buffer count) ≡ done (length readers)
  -- which are those of the list, in its order, each with its reader number, scheme and text, and no others
  pub holds : (readers schemes lengths points buffer : List ℕ) (count : ℕ) → write_outcome (length buffer) readers schemes lengths points ≡ done count
      → entries_in (bytes_written readers schemes lengths points buffer count) ≡ entries_of readers schemes lengths points
  -- and each is found at its index, which answers its reader number, its scheme and its text
  pub found : (readers schemes lengths points buffer : List ℕ) (count index capacity : ℕ) → write_outcome (length buffer) readers schemes lengths points ≡ done count
      → index < length readers → 63 ≤ capacity
      → (find_outcome (bytes_written readers schemes lengths points buffer count) index capacity ≡ done (length (entry_text (bytes_written readers schemes lengths points buffer count) index)))
      × Holds (entry_at (bytes_written readers schemes lengths points buffer count) index) readers schemes lengths points index
  -- any entries are those of the list that their rows make
  pub rows : (entries : List Entry) → entries_of (readers_of entries) (schemes_of entries) (lengths_of entries) (points_of entries) ≡ entries
  -- the entries of a table that reads whole are written, into as many bytes as it has
  pub writes_again : (table : List ℕ) (count capacity : ℕ) → read_outcome table ≡ done count → length table ≤ capacity
      → write_outcome capacity (readers_of (entries_in table)) (schemes_of (entries_in table)) (lengths_of (entries_in table)) (points_of (entries_in table)) ≡ done (length table)
  -- and leave the bytes of the table exactly if each label is the one that writing its text gives
  pub same_bytes : (table buffer : List ℕ) (count : ℕ) → AllBelow 256 table → read_outcome table ≡ done count → length table ≤ length buffer
      → (bytes_written (readers_of (entries_in table)) (schemes_of (entries_in table)) (lengths_of (entries_in table)) (points_of (entries_in table)) buffer (length table) ≡ table)
      ↔ ((index : ℕ) → index < count → label_in (entry_at table index) ≡ label_of (scheme_in (entry_at table index)) (entry_text table index))
