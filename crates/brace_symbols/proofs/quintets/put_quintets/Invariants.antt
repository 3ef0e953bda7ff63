-- `quintets::put_quintets` meets its contract: the last quintets are left to store.
use mathlib.Core.List.{[]}
use Rattle.basis.proofs.Stores.{StoringFrom}
use Rattle.copying.specs.Symbols.{quintets}
use Rattle.brace_symbols.proofs.quintets.put_quintets.Given as goal

abbrev pub invariant-loop-left : goal.invariant-loop-left
invariant-loop-left l = StoringFrom l.at l.initial.symbols (quintets l.n l.value []) l.symbols l.to (quintets l.left l.value [])
