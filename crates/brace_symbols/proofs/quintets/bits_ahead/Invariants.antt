-- `quintets::bits_ahead` meets its contract: the walk passes LDH, and the first code answers.
use Rattle.brace_symbols.proofs.Codes.{Walked}
use Rattle.brace_symbols.proofs.quintets.bits_ahead.Given as goal

abbrev pub invariant-loop-unit : goal.invariant-loop-unit
invariant-loop-unit l = Walked l.style l.k l.units l.unit-index
