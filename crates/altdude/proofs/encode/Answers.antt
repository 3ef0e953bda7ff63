-- `encode` meets its contract: what the first tests refuse is refused, and what passes them is written with no marks.
use mathlib.Core.Path.{refl, sym, ap}
use mathlib.Core.List.{[]}
use Rattle.basis.specs.Outcome.{outcome_by, bytes_outcome}
use Rattle.basis.proofs.Outcome.{handed_on, refusal-leaves, handed-leaves}
use Rattle.labels.proofs.FirstTests.{check-stops, check-passes, text-checked}
use Rattle.altdude.specs.Answer.{label_outcome, encode_outcome}
use Rattle.altdude.proofs.MarkLaws.{marked-zeros}
use Rattle.basis.proofs.Clauses.{two_clauses}
use Rattle.altdude.proofs.encode.Goals as goal

pub returns-in_err-check_text : goal.returns-in_err-check_text
unfolding outcome_by encode_outcome
returns-in_err-check_text c =
    two_clauses (λ a b. record { result_value = a; label_after = b }) (refusal-leaves (encode_outcome _ _) _ _ _ _ _ (ap bytes_outcome (handed_on c.from_residual.ensures)) (check-stops _ _ c.check_text.ensures _ c.in_err-check_text.was))

pub encode_checked-requires : goal.encode_checked-requires
encode_checked-requires c = (text-checked _ c.in_ok-check_text.was _ _ c.check_text.ensures).room

pub returns : goal.returns
unfolding encode_outcome
returns c =
    two_clauses (λ a b. record { result_value = a; label_after = b }) (handed-leaves (encode_outcome _ _) (label_outcome _) _ _ _ _ _ (check-passes _ _ c.check_text.ensures _ c.in_ok-check_text.was) (sym (marked-zeros [] _ (λ i. refl))) (c.encode_checked.ensures.result_value, c.encode_checked.ensures.label_after))
