-- `entries::judge` meets its contract: what is left to judge answers as the whole does.
use Prim.Native.Nat.{◌-◌, ◌≤◌}
use mathlib.Core.Path.{◌≡◌}
use lib.ListN.{length, drop}
use Rattle.nametable_format.specs.Format.{header_length}
use Rattle.nametable_short_read.specs.Answer.{short_entries_judged}
use Rattle.nametable_short_read.proofs.entries.judge.Given as goal

abbrev pub invariant-loop-i : goal.invariant-loop-i
invariant-loop-i l =
    (l.least ≤ 65536) × (l.start ≤ length l.table)
    × (short_entries_judged l.i l.least (l.count - l.i) (drop l.start l.table) l.count ≡ short_entries_judged 0 0 l.count (drop header_length l.table) l.count)
