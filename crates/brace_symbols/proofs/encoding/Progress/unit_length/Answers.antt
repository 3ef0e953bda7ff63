-- `encoding::Progress::unit_length` meets its contract: a hyphen, a letter that is copied, or a code.
use native.Mathlib.Omega.{arith}
use Rattle.brace_symbols.proofs.Codes.{width-over, width-top}
use Rattle.brace_symbols.proofs.Units.{length-hyphen, length-letter, length-coded}
use Rattle.basis.proofs.Clauses.{two_clauses}
use Rattle.brace_symbols.proofs.encoding.Progress.unit_length.Goals as goal

pub returns-then-unit-eq45 : goal.returns-then-unit-eq45
returns-then-unit-eq45 c =
    two_clauses (λ a b. record { value = a; upper_bound = b }) (length-hyphen _ _ _ _ c.if-unit-eq45.true)

pub returns-then-is_ldh : goal.returns-then-is_ldh
returns-then-is_ldh c =
    two_clauses (λ a b. record { value = a; upper_bound = b }) (length-letter _ _ _ _ c.if-unit-eq45.false _ c.is_ldh.ensures c.if-is_ldh.true _ c.switch_length.ensures.value c.switch_length.ensures.upper_bound)

pub quintet_count-count-requires : goal.quintet_count-count-requires
quintet_count-count-requires c = (width-over _ _ _ _ c.width.ensures c.args.self.few, width-top _ _ _ c.width.ensures)

pub overflow_cast-result : goal.overflow_cast-result
overflow_cast-result c = omega (arith, c.switch_length-2.ensures.upper_bound)

pub returns : goal.returns
returns c =
    two_clauses (λ a b. record { value = a; upper_bound = b }) (length-coded _ _ _ _ c.if-unit-eq45.false _ c.is_ldh.ensures c.if-is_ldh.false c.args.self.few _ _ _ c.switch_length-2.ensures.value c.switch_length-2.ensures.upper_bound c.width.ensures c.quintet_count-count.ensures.value)
