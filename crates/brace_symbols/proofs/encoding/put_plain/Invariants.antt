-- `encoding::put_plain` meets its contract: i units are stored, the others are left.
use lib.ListN.{drop}
use Rattle.basis.proofs.Stores.{Storing}
use Rattle.brace_symbols.proofs.encoding.put_plain.Given as goal

abbrev pub invariant-loop-i : goal.invariant-loop-i
invariant-loop-i l = Storing l.initial.symbols l.units l.symbols l.i (drop l.i l.units)
