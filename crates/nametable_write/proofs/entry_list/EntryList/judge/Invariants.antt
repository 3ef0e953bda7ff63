-- `EntryList::judge` meets its contract: what is left to judge answers as the whole does.
use Prim.Native.Nat.{◌+◌}
use mathlib.Core.Path.{◌≡◌}
use lib.ListN.{length, drop}
use Rattle.nametable_format.specs.Format.{table_length}
use Rattle.nametable_write.specs.Writing.{sum_of, entries_written}
use Rattle.nametable_write.specs.Tested.{entries_in}
use Rattle.nametable_write.proofs.ListLaws.{left}
use Rattle.nametable_write.proofs.entry_list.EntryList.judge.Given as goal

abbrev pub invariant-loop-i : goal.invariant-loop-i
invariant-loop-i l =
    (l.start + sum_of (drop l.i l.self.lengths.now) ≡ length l.self.points.now)
    × (entries_written l.i l.least (left l.self l.i l.start) (table_length (length l.self.readers.now))
    ≡ entries_written 0 0 (entries_in l.self) (table_length (length l.self.readers.now)))
