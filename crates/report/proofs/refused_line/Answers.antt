-- `refused_line` meets its contract: the line is measured before the first store.
use native.Mathlib.Omega.{arith}
use Rattle.basis.specs.Outcome.{outcome_by}
use Rattle.basis.proofs.Outcome.{refusal_is}
use Rattle.report.specs.Lines.{refused_line}
use Rattle.report.proofs.LineLaws.{number-length, refused-length, line_refused, line-done}
use Rattle.report.proofs.refused_line.Goals as goal

pub returns-then-out-digits_length : goal.returns-then-out-digits_length
unfolding outcome_by
returns-then-out-digits_length c =
    let a = c.args in
    let both =
    line_refused (refused_line a.code) a.out.now (omega (arith, refused-length a.code, number-length a.code)) _
    (refusal_is c.at.ensures) in
    record { result_value = both.0; out_after = both.1 }

pub put_refused_line-requires : goal.put_refused_line-requires
put_refused_line-requires c =
    let a = c.args in
    omega (arith, refused-length a.code, number-length a.code)

pub returns : goal.returns
unfolding outcome_by
returns c =
    let a = c.args in
    let both =
    line-done (refused_line a.code) a.out.now (omega (arith, refused-length a.code, number-length a.code)) _ _
    c.put_refused_line.ensures in
    record { result_value = both.0; out_after = both.1 }
