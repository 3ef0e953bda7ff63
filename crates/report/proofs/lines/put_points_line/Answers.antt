-- `lines::put_points_line` meets its contract.
use native.Mathlib.Omega.{arith}
use Rattle.report.specs.Lines.{points_line}
use Rattle.basis.proofs.Stores.{stored-append, stored_one}
use Rattle.report.proofs.LineLaws.{points-line-length}
use Rattle.report.proofs.lines.put_points_line.Goals as goal

pub put_points-after_points-requires : goal.put_points-after_points-requires
put_points-after_points-requires c = omega (arith, points-line-length c.args.points.now)

pub bounds-out-after_points : goal.bounds-out-after_points
bounds-out-after_points c =
    let e = c.put_points-after_points.ensures in
    omega (arith, points-line-length c.args.points.now, e.count, e.long)

pub overflow_add-result : goal.overflow_add-result
overflow_add-result c =
    let e = c.put_points-after_points.ensures in
    omega (arith, points-line-length c.args.points.now, e.count, e.long)

pub returns : goal.returns
unfolding points_line
returns c = stored-append c.put_points-after_points.ensures (stored_one _ _ 10)
