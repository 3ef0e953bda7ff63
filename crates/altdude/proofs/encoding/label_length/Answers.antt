-- `encoding::label_length` meets its contract: n symbols are counted, those of the points from i on are left.
use native.Mathlib.Omega.{arith}
use Rattle.altdude.proofs.EncodeLaws.{item-within, count-start, count_turn, count-end}
use Rattle.altdude.proofs.encoding.label_length.Goals as goal

pub loop-point-init : goal.loop-point-init
loop-point-init c = (count-start _, omega arith)

pub returns-then-n-gt63 : goal.returns-then-n-gt63
returns-then-n-gt63 c = omega (arith, item-within _ _ _ c.loop-point-test.true _ _ c.loop-point.invariant.0)

pub loop-point-preserved : goal.loop-point-preserved
loop-point-preserved c = (
  count_turn _ _ _ _ c.loop-point-test.true c.remembered_after-remembered.ensures _ _ _ c.loop-point.invariant.0 (rw c.item_length-n.ensures.value),
  omega arith,
)

pub returns : goal.returns
returns c = omega (arith, count-end _ _ _ c.loop-point-test.false _ _ c.loop-point.invariant.0)
