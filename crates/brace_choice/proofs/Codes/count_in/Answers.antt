-- `count_in` meets its contract: `n` codes of the half-row are counted, those from `i` on are left.
use native.Mathlib.Omega.{arith}
use Rattle.basis.proofs.Clauses.{two_clauses}
use Rattle.brace_choice.proofs.HalfRows.{counting-start, counting-turn, counting-end, one_code, one-most}
use Rattle.brace_choice.proofs.Codes.count_in.Goals as goal

pub loop-code-init : goal.loop-code-init
loop-code-init c = counting-start _ _

pub overflow_add-n : goal.overflow_add-n
overflow_add-n c = record { fits = omega (arith, c.loop-code.invariant.most, one-most _ _ _ c.from-n.ensures) }

pub loop-code-preserved : goal.loop-code-preserved
loop-code-preserved c =
    counting-turn c.loop-code.invariant c.loop-code-test.true _ (one_code _ _ _ c.from-n.ensures) (one-most _ _ _ c.from-n.ensures)

pub returns : goal.returns
returns c =
    two_clauses (λ a b. record { value = a; upper_bound = b }) (counting-end c.loop-code.invariant c.loop-code-test.false)
