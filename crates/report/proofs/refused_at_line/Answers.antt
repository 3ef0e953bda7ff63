-- `refused_at_line` meets its contract: the line is measured before the first store.
use native.Mathlib.Omega.{arith}
use Rattle.basis.specs.Outcome.{outcome_by}
use Rattle.basis.proofs.Outcome.{refusal_is}
use Rattle.report.specs.Lines.{refused_at_line}
use Rattle.report.proofs.LineLaws.{line_refused, line-done}
use Rattle.report.proofs.refused_at_line.Goals as goal

pub returns-then-out-refused_at_length : goal.returns-then-out-refused_at_length
unfolding outcome_by
returns-then-out-refused_at_length c =
    let a = c.args in
    let both =
    line_refused (refused_at_line a.code a.position) a.out.now (omega arith) _
    (refusal_is c.at.ensures) in
    record { result_value = both.0; out_after = both.1 }

pub put_refused_at_line-requires : goal.put_refused_at_line-requires
put_refused_at_line-requires c = omega arith

pub returns : goal.returns
unfolding outcome_by
returns c =
    let a = c.args in
    let both =
    line-done (refused_at_line a.code a.position) a.out.now (omega arith) _ _
    c.put_refused_at_line.ensures in
    record { result_value = both.0; out_after = both.1 }
