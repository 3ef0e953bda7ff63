-- `whole::put_rows` meets its contract: row by row, the lines of all rows and then the counts.
use Prim.Native.Nat.{◌+◌, ◌-◌}
use Rattle.nametable_differences.proofs.TurnLaws.{Turn}
use Rattle.nametable_differences.proofs.whole.put_rows.Given as goal

abbrev pub invariant-loop-i : goal.invariant-loop-i
invariant-loop-i l = Turn l.left.bytes.now l.right.bytes.now l.initial.out l.out l.counts l.at l.i l.j

abbrev pub decreases-loop-i : goal.decreases-loop-i
decreases-loop-i l = l.total - (l.i + l.j)
