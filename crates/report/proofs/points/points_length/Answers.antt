-- `points::points_length` meets its contract: n bytes are counted, those of the other points from the index on are not.
use Prim.Native.Nat.{◌-◌}
use mathlib.Core.Path.{ap}
use native.Mathlib.Omega.{arith}
use lib.ListN.{length, take, drop}
use Rattle.report.proofs.PointLaws.{points_none, first-length, spaced-length, spaced-end}
use Rattle.report.proofs.points.points_length.Goals as goal

pub returns-in_default : goal.returns-in_default
returns-in_default c =
    let t = c.args.points.now in
    omega (arith, ap length (points_none t c.in_default.len_below))

pub loop-point-init : goal.loop-point-init
loop-point-init c = (omega (arith, first-length c.args.points.now c.in-len1-up.len_at_least), omega arith)

pub returns-then-limit-n : goal.returns-then-limit-n
returns-then-limit-n c = omega arith

pub loop-point-preserved : goal.loop-point-preserved
loop-point-preserved c =
    let others = take (length c.args.points.now - 1) (drop 1 c.args.points.now) in
    (omega (arith, spaced-length others c.loop-point.point-index c.loop-point-test.true), omega arith)

pub returns : goal.returns
returns c =
    let others = take (length c.args.points.now - 1) (drop 1 c.args.points.now) in
    omega (arith, ap length (spaced-end others c.loop-point.point-index c.loop-point-test.false))
