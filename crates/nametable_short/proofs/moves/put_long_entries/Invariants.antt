-- `moves::put_long_entries` meets its contract: the long entries from i on are left to store.
use Prim.Native.Nat.{◌≤◌}
use mathlib.Core.Path.{◌≡◌}
use lib.ListN.{length, drop}
use Rattle.basis.specs.Internal.{StoringFrom}
use Rattle.nametable_format.specs.Format.{header_length, table_length}
use Rattle.nametable_short.specs.Answer.{long_entries}
use Rattle.nametable_short.proofs.MoveLaws.{long_left}
use Rattle.nametable_short.proofs.moves.put_long_entries.Given as goal

abbrev pub invariant-loop-i : goal.invariant-loop-i
invariant-loop-i l =
    (l.start ≤ length l.short) × (l.at ≡ table_length l._i)
    × StoringFrom header_length l.initial.table (long_entries l.count (drop header_length l.short)) l.table l.at (long_left l.short l.count l._i l.start)
