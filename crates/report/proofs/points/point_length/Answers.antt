-- `points::point_length` meets its contract.
use native.Mathlib.Omega.{arith}
use Rattle.report.proofs.PointLaws.{point-length}
use Rattle.report.proofs.points.point_length.Goals as goal

pub returns : goal.returns
returns c =
    record {
      value = omega (arith, point-length c.args.point);
      upper_bound = omega arith;
    }
