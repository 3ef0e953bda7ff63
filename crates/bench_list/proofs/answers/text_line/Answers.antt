-- `answers::text_line` meets its contract: the bytes become points, and their line is written.
use mathlib.Core.Path.{sym, ap, ◌∙◌}
use Rattle.basis.specs.Outcome.{outcome_by}
use Rattle.basis.proofs.Outcome.{done-not-refused}
use Rattle.utf16.specs.Answer.{points_outcome}
use Rattle.utf16.proofs.Refusals.{points-fit, points-long, points-are}
use Rattle.bench_list.proofs.answers.text_line.Goals as goal

pub slice_bounds-points-end : goal.slice_bounds-points-end
unfolding outcome_by
slice_bounds-points-end c =
    points-fit _ _ _ (sym c.bytes_to_points.ensures.result_value ∙ ap points_outcome c.in_ok-count.was) _ _ c.bytes_to_points.ensures.points_after

pub slice_bounds-points_line-end : goal.slice_bounds-points_line-end
unfolding outcome_by
slice_bounds-points_line-end c =
    points-long _ _ _ (sym c.bytes_to_points.ensures.result_value ∙ ap points_outcome c.in_ok-count.was) _ _ c.bytes_to_points.ensures.points_after

pub returns-in_err-count : goal.returns-in_err-count
unfolding outcome_by
returns-in_err-count c =
    absurd (done-not-refused c.requires (sym c.bytes_to_points.ensures.result_value ∙ ap points_outcome c.in_err-count.was))

pub returns : goal.returns
unfolding outcome_by
returns c =
    let text = points-are _ _ _ (sym c.bytes_to_points.ensures.result_value ∙ ap points_outcome c.in_ok-count.was) _ _ c.bytes_to_points.ensures.points_after in
    record { result_value = rw text at c.points_line.ensures.result_value; out_after = rw text at c.points_line.ensures.out_after }
