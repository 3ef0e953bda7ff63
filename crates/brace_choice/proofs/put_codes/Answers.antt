-- `put_codes` meets its contract: the codes of the units from the loop's index on are left.
use Rattle.brace_choice.proofs.Styles.{gathering-start, code_fits, gathering-turn, gathering-end}
use Rattle.basis.proofs.Clauses.{two_clauses}
use Rattle.brace_choice.proofs.put_codes.Goals as goal

pub loop-unit-init : goal.loop-unit-init
loop-unit-init c = gathering-start _ _

pub put_if_code-at-requires : goal.put_if_code-at-requires
put_if_code-at-requires c = code_fits c.loop-unit.invariant c.loop-unit-test.true c.requires

pub loop-unit-preserved : goal.loop-unit-preserved
loop-unit-preserved c =
    gathering-turn c.loop-unit.invariant c.loop-unit-test.true c.put_if_code-at.ensures

pub shape_of-codes : goal.shape_of-codes
shape_of-codes c = c.loop-unit.invariant.storing.long

pub returns : goal.returns
returns c =
    two_clauses (λ a b. record { value = a; codes_after = b }) (gathering-end c.loop-unit.invariant c.loop-unit-test.false c.requires)
