-- `moves::put_short_entries` meets its contract: the short entries from i on are left to store.
use Prim.Native.Nat.{◌+◌, ◌*◌, ◌≤◌}
use lib.ListN.{drop}
use Rattle.basis.specs.Internal.{StoringFrom}
use Rattle.nametable_format.specs.Format.{header_length}
use Rattle.nametable_short.specs.Answer.{short_entries}
use Rattle.nametable_short.proofs.MoveLaws.{short_left}
use Rattle.nametable_short.proofs.moves.put_short_entries.Given as goal

abbrev pub invariant-loop-i : goal.invariant-loop-i
invariant-loop-i l = (l.at ≤ 3 + 68 * l.i) × StoringFrom header_length l.initial.short (short_entries l.count (drop header_length l.table)) l.short l.at (short_left l.table l.count l.i)
