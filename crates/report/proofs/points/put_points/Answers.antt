-- `points::put_points` meets its contract: the other points from the index on are left to store, each after a space.
use native.Mathlib.Omega.{arith}
use lib.ListN.{length-set}
use Rattle.basis.proofs.Stores.{storing-all}
use Rattle.report.proofs.PointLaws.{stored-no-points, first-length, spaced-length, point-turn, points-end}
use Rattle.report.proofs.points.put_points.Goals as goal

pub returns-in_default : goal.returns-in_default
returns-in_default c = stored-no-points _ c.in_default.len_below _ _

pub put_point-next-requires : goal.put_point-next-requires
put_point-next-requires c = omega (arith, first-length c.args.points.now c.in-len1-up.len_at_least)

pub loop-point-init : goal.loop-point-init
loop-point-init c =
    let e = c.put_point-next.ensures in (
      storing-all _ _,
      omega (arith, first-length c.args.points.now c.in-len1-up.len_at_least, e.count, e.long),
    )

pub bounds-out-next : goal.bounds-out-next
bounds-out-next c = omega (arith, spaced-length _ c.loop-point.point-index c.loop-point-test.true)

pub overflow_add-next : goal.overflow_add-next
overflow_add-next c = omega (arith, spaced-length _ c.loop-point.point-index c.loop-point-test.true)

pub put_point-next-requires-in-loop-point : goal.put_point-next-requires-in-loop-point
put_point-next-requires-in-loop-point c =
    rw length-set
    (omega (arith, spaced-length _ c.loop-point.point-index c.loop-point-test.true))

pub loop-point-preserved : goal.loop-point-preserved
loop-point-preserved c =
    let l = c.loop-point in
    let h = c.loop-point-test.true in
    let e = c.put_point-next-in-loop-point.ensures in (
      point-turn _ l.point-index h l.invariant.0 e,
      omega (arith, spaced-length _ l.point-index h, e.count),
    )

pub returns : goal.returns
returns c =
    points-end _ _ c.in-len1-up.len_at_least c.loop-point-test.false c.put_point-next.ensures c.loop-point.invariant.0
