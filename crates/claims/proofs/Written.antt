-- What writing a name table promises holds.
use Prim.Native.Nat.{ℕ, ◌+◌, ◌≤◌, ◌<◌}
use mathlib.Core.Path.{◌≡◌, sym, ap, ◌∙◌}
use mathlib.Core.List.{List}
use lib.ListN.{length, drop}
use lib.Seq.{take_at}
use Rattle.basis.specs.Outcome.{done, buffer_after}
use native.Mathlib.Omega.{arith}
use Rattle.nametable_format.specs.Format.{entry_at}
use Rattle.nametable.specs.Answer.{read_outcome, find_outcome, entry_text}
use Rattle.nametable_write.specs.Writing.{entries_of, write_outcome, table_of}
use Rattle.nametable.proofs.TableLaws.{read_table}
use Rattle.nametable_facts.specs.Entries.{entries_from, entries_in, readers_of, schemes_of, lengths_of, points_of, Holds}
use Rattle.nametable_facts.proofs.Whole.{entry_found}
use Rattle.nametable_facts.proofs.Found.{holds_at}
use Rattle.nametable_facts.proofs.ReadBack.{written-counts, written-reads, written-holds}
use Rattle.nametable_facts.proofs.Rewritten.{rows-list, rewritten, same_bytes}
use Rattle.claims.specs.Written.{bytes_written, TableWritten}

-- what is before the count is the table
table_before : (readers schemes lengths points buffer : List ℕ) (count : ℕ) → write_outcome (length buffer) readers schemes lengths points ≡ done count
    → bytes_written readers schemes lengths points buffer count ≡ table_of (entries_of readers schemes lengths points)
unfolding buffer_after
table_before readers schemes lengths points buffer count e =
    let n = (written-counts (length buffer) readers schemes lengths points e).0 in
    rw e (take_at (table_of (entries_of readers schemes lengths points)) (drop count buffer) count (sym n))

-- each entry of what is written is found at its index
module _ (readers schemes lengths points buffer : List ℕ) (count index capacity : ℕ) (e : write_outcome (length buffer) readers schemes lengths points ≡ done count) (inside : index < length readers) where
  abbrev table : List ℕ
  table = bytes_written readers schemes lengths points buffer count

  reads : read_outcome table ≡ done (length readers)
  reads = ap read_outcome (table_before readers schemes lengths points buffer count e) ∙ written-reads (length buffer) readers schemes lengths points e

  held : entries_from table 0 (length readers) ≡ entries_of readers schemes lengths points
  unfolding entries_in
  held =
      rw (← (read_table table (length readers) reads).counted)
      at (ap entries_in (table_before readers schemes lengths points buffer count e) ∙ written-holds (length buffer) readers schemes lengths points e)

  at-index : Holds (entry_at table index) readers schemes lengths points index
  at-index = let i : 0 + index ≡ index = omega arith in rw i at (holds_at table 0 readers schemes lengths points held index inside)

  found_at : 63 ≤ capacity → (find_outcome table index capacity ≡ done (length (entry_text table index))) × Holds (entry_at table index) readers schemes lengths points index
  found_at room = (entry_found table (length readers) index reads inside capacity room, at-index)

-- what writing the entries of a whole table leaves is their table
again-before : (table buffer : List ℕ) (count : ℕ) → read_outcome table ≡ done count → length table ≤ length buffer
    → bytes_written (readers_of (entries_in table)) (schemes_of (entries_in table)) (lengths_of (entries_in table)) (points_of (entries_in table)) buffer (length table) ≡ table_of (entries_in table)
again-before table buffer count read room =
    let es = entries_in table in
    table_before (readers_of es) (schemes_of es) (lengths_of es) (points_of es) buffer (length table) (rewritten table count read (length buffer) room) ∙ ap table_of (rows-list es)

pub table-written : TableWritten
table-written = record {
  reads_back = λ readers schemes lengths points buffer count e.
      ap read_outcome (table_before readers schemes lengths points buffer count e) ∙ written-reads (length buffer) readers schemes lengths points e;
  holds = λ readers schemes lengths points buffer count e.
      ap entries_in (table_before readers schemes lengths points buffer count e) ∙ written-holds (length buffer) readers schemes lengths points e;
  found = λ readers schemes lengths points buffer count index capacity e inside room. found_at readers schemes lengths points buffer count index capacity e (omega (arith, inside)) (omega (arith, room));
  rows = rows-list;
  writes_again = λ table count capacity read. rewritten table count read capacity;
  same_bytes = λ table buffer count below read room.
      let again = again-before table buffer count read room in
      let same = same_bytes table count read below in
      (λ e. same.0 (sym again ∙ e), λ h. again ∙ same.1 h);
}
