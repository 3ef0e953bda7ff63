-- `difference_line` meets its contract: the line is measured before the first store.
use native.Mathlib.Omega.{arith}
use Rattle.basis.specs.Outcome.{outcome_by}
use Rattle.basis.proofs.Outcome.{refusal_is}
use Rattle.report.specs.Lines.{difference_line}
use Rattle.report.proofs.LineLaws.{difference-length, line_refused, line-done}
use Rattle.report.proofs.difference_line.Goals as goal

pub returns-then-out-words : goal.returns-then-out-words
unfolding outcome_by
returns-then-out-words c =
    let a = c.args in
    let both =
    line_refused (difference_line a.reader a.words.now) a.out.now (omega (arith, difference-length a.reader a.words.now)) _
    (refusal_is c.at.ensures) in
    record { result_value = both.0; out_after = both.1 }

pub put_difference_line-requires : goal.put_difference_line-requires
put_difference_line-requires c = let a = c.args in omega (arith, difference-length a.reader a.words.now)

pub returns : goal.returns
unfolding outcome_by
returns c =
    let a = c.args in
    let both =
    line-done (difference_line a.reader a.words.now) a.out.now (omega (arith, difference-length a.reader a.words.now)) _ _
    c.put_difference_line.ensures in
    record { result_value = both.0; out_after = both.1 }
