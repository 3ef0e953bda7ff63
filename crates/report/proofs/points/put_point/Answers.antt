-- `points::put_point` meets its contract.
use native.Mathlib.Omega.{arith}
use Rattle.report.specs.Lines.{point_mark, point_bytes}
use Rattle.basis.proofs.Stores.{stored-append}
use Rattle.report.proofs.PointLaws.{point-length}
use Rattle.report.proofs.points.put_point.Goals as goal

pub put_bytes-next-requires : goal.put_bytes-next-requires
put_bytes-next-requires c = omega (arith, point-length c.args.point)

pub put_digits-requires-clause-number_in_bounds : goal.put_digits-requires-clause-number_in_bounds
put_digits-requires-clause-number_in_bounds c =
    let e = c.put_bytes-next.ensures in
    omega (arith, point-length c.args.point, e.count, e.long)

pub returns : goal.returns
unfolding point_bytes point_mark
returns c = stored-append c.put_bytes-next.ensures c.put_digits.ensures
