-- `encoding::signed_length` meets its contract: n symbols are counted, those of the units from i on are left.
use native.Mathlib.Omega.{arith}
use Rattle.brace_symbols.proofs.Units.{tallying-start, tallying-over, tallying-turn, tallying-end}
use Rattle.brace_symbols.proofs.encoding.signed_length.Goals as goal

pub loop-unit-init : goal.loop-unit-init
loop-unit-init c =
    tallying-start _ _ _ _ _ _ _ c.head_width.ensures.value c.quintet_count.ensures.value c.after_head-progress.ensures.styled c.after_head-progress.ensures.not_copying c.after_head-progress.ensures.spare

pub overflow_add-n-in-loop-unit : goal.overflow_add-n-in-loop-unit
overflow_add-n-in-loop-unit c = omega (arith, c.unit_length-n.ensures.upper_bound, c.loop-unit.invariant.most)

pub returns-then-n-gt63 : goal.returns-then-n-gt63
returns-then-n-gt63 c =
    tallying-over c.loop-unit.invariant c.loop-unit-test.true _ c.unit_length-n.ensures.value c.if-n-gt63.true

pub loop-unit-preserved : goal.loop-unit-preserved
loop-unit-preserved c =
    tallying-turn c.loop-unit.invariant c.loop-unit-test.true _ c.unit_length-n.ensures.value c.if-n-gt63.false _ _ _ c.after-progress.ensures.styled c.after-progress.ensures.copies c.after-progress.ensures.spare

pub returns : goal.returns
returns c = tallying-end c.loop-unit.invariant c.loop-unit-test.false
