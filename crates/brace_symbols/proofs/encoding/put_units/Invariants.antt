-- `encoding::put_units` meets its contract: the symbols of the units from i on are left.
use mathlib.Core.Bool.{false}
use Rattle.brace_format.specs.Style.{head_width}
use Rattle.brace_symbols.specs.Encoding.{symbols_from, spare_count}
use lib.ListN.{drop}
use Rattle.basis.proofs.Stores.{StoringFrom}
use Rattle.brace_symbols.proofs.encoding.put_units.Given as goal

abbrev pub invariant-loop-i : goal.invariant-loop-i
invariant-loop-i l = StoringFrom l.at l.initial.symbols (symbols_from l.fn.style false (spare_count 0 (head_width l.fn.style)) l.units) l.symbols l.to (symbols_from l.progress.style l.progress.copying l.progress.out (drop l.i l.units))
