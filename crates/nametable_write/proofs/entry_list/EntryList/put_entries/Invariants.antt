-- `EntryList::put_entries` meets its contract: the entries from i on are left to store.
use Prim.Native.Nat.{◌+◌}
use mathlib.Core.Path.{◌≡◌}
use lib.ListN.{length, drop}
use Rattle.nametable_format.specs.Format.{table_length}
use Rattle.nametable_write.specs.Writing.{sum_of}
use Rattle.nametable_write.specs.Internal.{AllSpelled}
use Rattle.nametable_write.proofs.ListLaws.{left}
use Rattle.nametable_write.proofs.StoreLaws.{Putting}
use Rattle.nametable_write.proofs.entry_list.EntryList.put_entries.Given as goal

abbrev pub invariant-loop-i : goal.invariant-loop-i
invariant-loop-i l =
    (l.at ≡ table_length l.i) × (l.start + sum_of (drop l.i l.self.lengths.now) ≡ length l.self.points.now)
    × AllSpelled (left l.self l.i l.start) × Putting l.self l.initial.table l.table l.at l.i l.start
