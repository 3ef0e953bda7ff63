-- `encoding::put_label` meets its contract: the symbols of the points from the loop's index on are left to store, from index `at` on.
use mathlib.Core.List.{map}
use lib.ListN.{drop}
use Rattle.basis.proofs.Stores.{Storing}
use Rattle.altdude.specs.Symbols.{byte_of}
use Rattle.altdude.specs.Encoding.{symbols_from, label_of}
use Rattle.altdude.proofs.encoding.put_label.Given as goal

abbrev pub invariant-loop-point : goal.invariant-loop-point
invariant-loop-point l = Storing l.initial.label (label_of l.text) l.label l.at (map byte_of (symbols_from l.remembered (drop l.point-index l.text)))
