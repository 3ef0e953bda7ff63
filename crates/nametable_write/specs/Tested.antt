-- What the tests on a list's rows answer, and the entries of a list; no public promise cites it.
use Rattle.std.specs.Prelude.{ℕ, ◌≡◌, List, Option, Some, None}
use Rattle.basis.specs.Outcome.{Outcome, refused}
use Rattle.nametable_write.specs.Writing.{Entry, entries_of, list_tests}
use Rattle.nametable_write.specs.declared.entry_list.EntryList.{EntryList}

-- the entries of a list
abbrev pub entries_in : EntryList → List Entry
entries_in list = entries_of list.readers.now list.schemes.now list.lengths.now list.points.now

-- rows as they were tested: their tests are passed, whatever follows, and the list has their readers
-- and their entries, or one refuses
abbrev pub Tested : (readers schemes lengths points : List ℕ) → Option EntryList → Type 0
Tested readers schemes lengths points (Some list) =
    ((next : Outcome) → list_tests readers schemes lengths points next ≡ next)
    × (list.readers.now ≡ readers) × (entries_in list ≡ entries_of readers schemes lengths points)
Tested readers schemes lengths points None = (next : Outcome) → list_tests readers schemes lengths points next ≡ refused 14 0
