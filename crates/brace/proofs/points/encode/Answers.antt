-- `encode` meets its contract: what passes the tests of a text is handed on as units. The converter is done with a text of at most 63 points.
use mathlib.Core.Path.{ap, sym, ◌∙◌}
use native.Mathlib.Omega.{arith}
use Rattle.basis.specs.Outcome.{bytes_outcome, outcome_by}
use Rattle.basis.proofs.Outcome.{refusal-leaves, refusal_is, handed_on, handed-leaves}
use Rattle.utf16.specs.Answer.{units_outcome}
use Rattle.utf16.proofs.Converted.{converts, not-refused, units-fit, units-long, units-are}
use Rattle.labels.proofs.FirstTests.{check-stops, check-passes, text-checked}
use Rattle.brace.specs.Answer as answer
use Rattle.brace_symbols.specs.Encoding as encoding
use Rattle.brace.specs.Points.{encode_outcome, label_of}
use Rattle.brace.proofs.PointsLaws.{points-long}
use Rattle.basis.proofs.Clauses.{two_clauses}
use Rattle.brace.proofs.points.encode.Goals as goal

pub returns-in_err-check_text : goal.returns-in_err-check_text
unfolding outcome_by encode_outcome
returns-in_err-check_text c =
    two_clauses (λ a b. record { result_value = a; label_after = b }) (refusal-leaves (encode_outcome _ _) _ _ _ _ _ (ap bytes_outcome (handed_on c.from_residual.ensures)) (check-stops _ _ c.check_text.ensures _ c.in_err-check_text.was))

pub returns-then-text-gt-TEXT_POINTS : goal.returns-then-text-gt-TEXT_POINTS
unfolding outcome_by encode_outcome
returns-then-text-gt-TEXT_POINTS c =
    let checked = text-checked _ c.in_ok-check_text.was _ _ c.check_text.ensures in
    two_clauses (λ a b. record { result_value = a; label_after = b }) (refusal-leaves (encode_outcome _ _) _ _ _ 3 0 (refusal_is c.at.ensures)
    (check-passes _ _ c.check_text.ensures _ c.in_ok-check_text.was ∙ points-long _ _ checked (omega arith)))

pub slice_bounds-units-end : goal.slice_bounds-units-end
unfolding outcome_by
slice_bounds-units-end c = units-fit (converts _ (text-checked _ c.in_ok-check_text.was _ _ c.check_text.ensures).points _ _ c.to_units.ensures.result_value (omega arith) _ _ c.to_units.ensures.units_after) (ap units_outcome c.in_ok-count.was)

pub slice_bounds-encode-end : goal.slice_bounds-encode-end
unfolding outcome_by
slice_bounds-encode-end c = units-long (converts _ (text-checked _ c.in_ok-check_text.was _ _ c.check_text.ensures).points _ _ c.to_units.ensures.result_value (omega arith) _ _ c.to_units.ensures.units_after) (ap units_outcome c.in_ok-count.was)

pub returns-in_err-count : goal.returns-in_err-count
unfolding outcome_by
returns-in_err-count c =
    absurd (not-refused (converts _ (text-checked _ c.in_ok-check_text.was _ _ c.check_text.ensures).points _ _ c.to_units.ensures.result_value (omega arith) _ _ c.to_units.ensures.units_after) (ap units_outcome c.in_err-count.was))

pub returns : goal.returns
unfolding outcome_by encode_outcome label_of
returns c =
    let us = units-are (converts _ (text-checked _ c.in_ok-check_text.was _ _ c.check_text.ensures).points _ _ c.to_units.ensures.result_value (omega arith) _ _ c.to_units.ensures.units_after) (ap units_outcome c.in_ok-count.was) in
    two_clauses (λ a b. record { result_value = a; label_after = b }) (handed-leaves (encode_outcome _ _) _ _ _ _ _ _
    (check-passes _ _ c.check_text.ensures _ c.in_ok-check_text.was ∙ ap (answer.encode_outcome _) (sym us))
    (ap encoding.label_of (sym us)) (c.encode.ensures.result_value, c.encode.ensures.label_after))
