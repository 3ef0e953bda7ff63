-- `put_codes` meets its contract: the codes of the units from the loop's index on are left.
use Rattle.brace_choice.proofs.Styles.{Gathering}
use Rattle.brace_choice.proofs.put_codes.Given as goal

abbrev pub invariant-loop-unit : goal.invariant-loop-unit
invariant-loop-unit l = Gathering l.units l.initial.codes l.codes l.at l.unit-index
