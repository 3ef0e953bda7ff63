-- `moves::short_bytes` meets its contract: the bytes counted and those of the entries left are all.
use Prim.Native.Nat.{◌+◌, ◌*◌, ◌≤◌}
use mathlib.Core.Path.{◌≡◌}
use lib.ListN.{length, drop}
use Rattle.nametable_format.specs.Format.{header_length}
use Rattle.nametable_short.specs.Answer.{short_entries}
use Rattle.nametable_short.proofs.MoveLaws.{short_left}
use Rattle.nametable_short.proofs.moves.short_bytes.Given as goal

abbrev pub invariant-loop-i : goal.invariant-loop-i
invariant-loop-i l = (l.bytes ≤ 3 + 68 * l.i) × (l.bytes + length (short_left l.table l.count l.i) ≡ header_length + length (short_entries l.count (drop header_length l.table)))
