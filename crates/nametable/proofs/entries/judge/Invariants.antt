-- `entries::judge` meets its contract: what is left to judge answers as the whole does.
use Prim.Native.Nat.{◌-◌, ◌≤◌}
use mathlib.Core.Path.{◌≡◌}
use lib.ListN.{drop}
use Rattle.nametable_format.specs.Format.{header_length, table_length}
use Rattle.nametable.specs.Answer.{entries_judged}
use Rattle.nametable.proofs.entries.judge.Given as goal

abbrev pub invariant-loop-i : goal.invariant-loop-i
invariant-loop-i l =
    (l.least ≤ 65536)
    × (entries_judged l.i l.least (l.count - l.i) (drop (table_length l.i) l.table) l.count ≡ entries_judged 0 0 l.count (drop header_length l.table) l.count)
