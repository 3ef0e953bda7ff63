-- `digits::digit_count` meets its contract: n digits are counted, those of what is left are not.
use native.Mathlib.Omega.{arith}
use Rattle.report.proofs.DigitLaws.{count_none, count-step, falls}
use Rattle.report.proofs.digits.digit_count.Goals as goal

pub loop-left-init : goal.loop-left-init
loop-left-init c = (omega arith, omega arith)

pub loop-left-smaller : goal.loop-left-smaller
loop-left-smaller c = falls c.args.base c.requires _ c.loop-left-test.true

pub loop-left-preserved : goal.loop-left-preserved
loop-left-preserved c =
    let n = c.loop-left.left in
    let h = c.loop-left-test.true in
    (omega (arith, count-step c.args.base c.requires n h), omega (arith, falls c.args.base c.requires n h))

pub returns : goal.returns
returns c = omega (arith, count_none c.args.base c.loop-left.left (omega arith))
