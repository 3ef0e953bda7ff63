-- `encode` meets its contract: what the first tests refuse is refused, and what passes them is written.
use mathlib.Core.Path.{refl}
use native.Mathlib.Omega.{arith}
use Rattle.basis.specs.Outcome.{outcome_by}
use Rattle.basis.proofs.Outcome.{handed_on, refused-leaves, handed-leaves}
use Rattle.ascii.specs.Ldh.{is_host_label}
use Rattle.labels.proofs.FirstTests.{check-stops, check-passes, text-checked}
use Rattle.lace_encoding.specs.Answer.{label_outcome, encode_outcome}
use Rattle.basis.proofs.Clauses.{two_clauses}
use Rattle.lace_encoding.proofs.encode.Goals as goal

pub returns-in_err-check_text : goal.returns-in_err-check_text
unfolding outcome_by encode_outcome
returns-in_err-check_text c =
    rw (handed_on c.from_residual.ensures) (two_clauses (λ a b. record { result_value = a; label_after = b }) (refused-leaves (encode_outcome is_host_label _ _) _ _ _ _ (check-stops _ _ c.check_text.ensures _ c.in_err-check_text.was)))

pub encode_checked-requires : goal.encode_checked-requires
encode_checked-requires c =
    let checked = text-checked _ c.in_ok-check_text.was _ _ c.check_text.ensures in
    (checked.points, omega (arith, checked.some), checked.room)

pub returns : goal.returns
unfolding encode_outcome
returns c =
    two_clauses (λ a b. record { result_value = a; label_after = b }) (handed-leaves (encode_outcome is_host_label _ _) (label_outcome is_host_label _) _ _ _ _ _ (check-passes _ _ c.check_text.ensures _ c.in_ok-check_text.was) refl (c.encode_checked.ensures.result_value, c.encode_checked.ensures.label_after))
