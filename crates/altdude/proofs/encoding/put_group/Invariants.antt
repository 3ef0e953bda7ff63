-- `encoding::put_group` meets its contract: the digits of y are left to store, below index j.
use Prim.Native.Nat.{◌+◌, ◌≤◌}
use mathlib.Core.Path.{◌≡◌}
use mathlib.Core.List.{[], map}
use lib.ListN.{length}
use lib.Seq.{sets}
use Rattle.altdude.specs.Symbols.{byte_of}
use Rattle.altdude.specs.Encoding.{leading_digits}
use Rattle.altdude.proofs.encoding.put_group.Given as goal

abbrev pub invariant-loop-j : goal.invariant-loop-j
invariant-loop-j l =
    (sets l.label l.at (map byte_of (leading_digits l.y l.y [])) ≡ sets l.initial.label l.at (map byte_of (leading_digits l.initial.y l.initial.y [])))
    × (l.j ≡ l.at + length (leading_digits l.y l.y []))
    × (length l.label ≡ length l.initial.label)
    × (l.j ≤ length l.initial.label)
