-- `list::sum_is` meets its contract: the lengths passed and what is left make up the total.
use Prim.Native.Nat.{◌+◌}
use mathlib.Core.Path.{◌≡◌}
use lib.ListN.{drop}
use Rattle.nametable_write.specs.Writing.{sum_of}
use Rattle.nametable_write.proofs.list.sum_is.Given as goal

abbrev pub invariant-loop-length : goal.invariant-loop-length
invariant-loop-length l = sum_of (drop l.length-index l.lengths) + l.total ≡ sum_of l.lengths + l.left
