-- `points_line` meets its contract: the line is measured before the first store.
use native.Mathlib.Omega.{arith}
use Rattle.basis.specs.Outcome.{outcome_by}
use Rattle.basis.proofs.Outcome.{refusal_is}
use Rattle.report.specs.Lines.{points_line}
use Rattle.report.proofs.LineLaws.{points-line-length, line_refused, line-done}
use Rattle.report.proofs.points_line.Goals as goal

pub returns-then-out-points_length : goal.returns-then-out-points_length
unfolding outcome_by
returns-then-out-points_length c =
    let a = c.args in
    let both =
    line_refused (points_line a.points.now) a.out.now (omega (arith, points-line-length a.points.now)) _
    (refusal_is c.at.ensures) in
    record { result_value = both.0; out_after = both.1 }

pub put_points_line-requires : goal.put_points_line-requires
put_points_line-requires c = omega (arith, points-line-length c.args.points.now)

pub returns : goal.returns
unfolding outcome_by
returns c =
    let a = c.args in
    let both =
    line-done (points_line a.points.now) a.out.now (omega (arith, points-line-length a.points.now)) _ _
    c.put_points_line.ensures in
    record { result_value = both.0; out_after = both.1 }
