-- `mixed_cost` meets its contract: the bits saved are no more than all bits.
use native.Mathlib.Omega.{arith}
use Rattle.brace_choice.proofs.HalfRows.{cost-over, cost-is}
use Rattle.brace_choice.proofs.Codes.mixed_cost.Goals as goal

pub overflow_sub-result-2 : goal.overflow_sub-result-2
overflow_sub-result-2 c =
    omega (arith, cost-over _ _ _ _ _ c.count_in-in_half.ensures.value c.other_half.ensures c.count_in-in_other.ensures.value)

pub returns : goal.returns
returns c =
    cost-is _ _ _ _ _ c.count_in-in_half.ensures.value c.other_half.ensures c.count_in-in_other.ensures.value
