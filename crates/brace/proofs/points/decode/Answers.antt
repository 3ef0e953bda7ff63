-- `decode` meets its contract: what is decoded to units becomes points.
use mathlib.Core.Path.{ap, sym, ◌∙◌}
use native.Mathlib.Omega.{arith}
use Rattle.basis.specs.Outcome.{outcome_by}
use Rattle.basis.proofs.Outcome.{refusal_is, handed_on}
use Rattle.utf16.specs.Answer.{units_outcome, points_outcome}
use Rattle.brace.proofs.PointsLaws.{points-leave, refusal-leave, room-leaves}
use Rattle.basis.proofs.Clauses.{two_clauses}
use Rattle.brace.proofs.points.decode.Goals as goal

pub returns-then-text-lt-TEXT_UNITS : goal.returns-then-text-lt-TEXT_UNITS
unfolding outcome_by
returns-then-text-lt-TEXT_UNITS c =
    two_clauses (λ a b. record { result_value = a; text_after = b }) (room-leaves _ _ c.if-text-lt-TEXT_UNITS.true _ _ (refusal_is c.at.ensures))

pub returns-in_err-count : goal.returns-in_err-count
unfolding outcome_by
returns-in_err-count c =
    two_clauses (λ a b. record { result_value = a; text_after = b }) (refusal-leave _ _ _ _ (omega arith) (sym c.decode.ensures.result_value ∙ ap units_outcome c.in_err-count.was) _ _ (ap points_outcome (handed_on c.from_residual.ensures)))

pub returns : goal.returns
unfolding outcome_by
returns c =
    two_clauses (λ a b. record { result_value = a; text_after = b }) (points-leave _ _ _ _ _ (omega arith) (sym c.decode.ensures.result_value ∙ ap units_outcome c.in_ok-count.was) c.decode.ensures.units_after _ _ _ (c.to_points.ensures.result_value, c.to_points.ensures.points_after))
