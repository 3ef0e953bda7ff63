-- `side_refused_line` meets its contract: the line is measured before the first store.
use native.Mathlib.Omega.{arith}
use Rattle.basis.specs.Outcome.{outcome_by}
use Rattle.basis.proofs.Outcome.{refusal_is}
use Rattle.report.specs.Lines.{side_refused_line}
use Rattle.report.proofs.LineLaws.{side-refused-length, line_refused, line-done}
use Rattle.report.proofs.side_refused_line.Goals as goal

pub returns-then-out-side : goal.returns-then-out-side
unfolding outcome_by
returns-then-out-side c =
    let a = c.args in
    let both =
    line_refused (side_refused_line a.side.now a.code a.position) a.out.now (omega (arith, side-refused-length a.side.now a.code a.position)) _
    (refusal_is c.at.ensures) in
    record { result_value = both.0; out_after = both.1 }

pub put_side_refused_line-requires : goal.put_side_refused_line-requires
put_side_refused_line-requires c = let a = c.args in omega (arith, side-refused-length a.side.now a.code a.position)

pub returns : goal.returns
unfolding outcome_by
returns c =
    let a = c.args in
    let both =
    line-done (side_refused_line a.side.now a.code a.position) a.out.now (omega (arith, side-refused-length a.side.now a.code a.position)) _ _
    c.put_side_refused_line.ensures in
    record { result_value = both.0; out_after = both.1 }
