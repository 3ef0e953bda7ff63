-- `counts_line` meets its contract: the line is measured before the first store.
use native.Mathlib.Omega.{arith}
use Rattle.basis.specs.Outcome.{outcome_by}
use Rattle.basis.proofs.Outcome.{refusal_is}
use Rattle.report.specs.Lines.{counts_line}
use Rattle.report.proofs.LineLaws.{line_refused, line-done}
use Rattle.report.proofs.counts_line.Goals as goal

pub returns-then-out-counts_length : goal.returns-then-out-counts_length
unfolding outcome_by
returns-then-out-counts_length c =
    let a = c.args in
    let both =
    line_refused (counts_line a.counts.same a.counts.other a.counts.respelled a.counts.left a.counts.right) a.out.now (omega arith) _
    (refusal_is c.at.ensures) in
    record { result_value = both.0; out_after = both.1 }

pub put_counts_line-requires : goal.put_counts_line-requires
put_counts_line-requires c = omega arith

pub returns : goal.returns
unfolding outcome_by
returns c =
    let a = c.args in
    let both =
    line-done (counts_line a.counts.same a.counts.other a.counts.respelled a.counts.left a.counts.right) a.out.now (omega arith) _ _
    c.put_counts_line.ensures in
    record { result_value = both.0; out_after = both.1 }
