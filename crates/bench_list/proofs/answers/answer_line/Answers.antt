-- `answers::answer_line` meets its contract: an answer below 1000 is of a text, any other a refusal.
use mathlib.Core.Path.{◌≡◌}
use native.Mathlib.Omega.{arith}
use Rattle.firmware.specs.Answer.{answer_of, read_outcome}
use Rattle.report.proofs.LineLaws.{line-written}
use Rattle.bench_list.specs.Listing.{bench_line}
use Rattle.bench_list.proofs.Widths.{line-fits}
use Rattle.bench_list.proofs.Reading.{read_below, refused-from}
use Rattle.basis.proofs.Clauses.{two_clauses}
use Rattle.bench_list.proofs.answers.answer_line.Goals as goal

pub slice_bounds-text-end : goal.slice_bounds-text-end
slice_bounds-text-end c =
    let d = c.distelhut_read-answer in
    let l = c.args.label.now in
    let answer : d.result ≡ answer_of (read_outcome 2 252 l) = d.ensures.value in
    (read_below _ _ _ _ answer d.ensures.text_after c.if-answer-lt-REFUSED.true).inside

pub slice_bounds-text_line-end : goal.slice_bounds-text_line-end
slice_bounds-text_line-end c =
    let d = c.distelhut_read-answer in
    (read_below _ _ _ _ d.ensures.value d.ensures.text_after c.if-answer-lt-REFUSED.true).long

pub text_line-requires : goal.text_line-requires
text_line-requires c =
    let d = c.distelhut_read-answer in
    (read_below _ _ _ _ d.ensures.value d.ensures.text_after c.if-answer-lt-REFUSED.true).converted

pub returns-then-answer-lt-REFUSED : goal.returns-then-answer-lt-REFUSED
returns-then-answer-lt-REFUSED c =
    let d = c.distelhut_read-answer in
    let a = c.args in
    two_clauses (λ a b. record { value = a; out_after = b }) (line-written _ a.out.now (bench_line a.label.now) (read_below _ _ _ _ d.ensures.value d.ensures.text_after c.if-answer-lt-REFUSED.true).line (omega (arith, line-fits a.label.now)) _ _ (c.text_line.ensures.result_value, c.text_line.ensures.out_after) _
    c.bytes_written.ensures)

pub returns : goal.returns
returns c =
    let d = c.distelhut_read-answer in
    let a = c.args in
    two_clauses (λ a b. record { value = a; out_after = b }) (line-written _ a.out.now (bench_line a.label.now) (refused-from _ _ _ _ d.ensures.value d.ensures.text_after c.if-answer-lt-REFUSED.false) (omega (arith, line-fits a.label.now)) _ _ (c.refused_line.ensures.result_value, c.refused_line.ensures.out_after) _
    c.bytes_written-2.ensures)
