-- `read::read` meets its contract: an unknown number is refused, a known scheme reads.
use mathlib.Core.Path.{◌≡◌, refl, ap, ◌∙◌}
use Rattle.std.proofs.Common.{Some, None}
use Rattle.std.specs.Result.{result_ok}
use Rattle.basis.specs.Outcome.{outcome_by, bytes_outcome}
use Rattle.basis.proofs.Outcome.{refusal_is, handed_on, refusal-leaves, handed-leaves}
use Rattle.firmware.specs.Answer.{read_outcome, read_text}
use Rattle.firmware.proofs.Naming.{stop-unknown, given-unknown, pass-known, known_is}
use Rattle.basis.proofs.Clauses.{two_clauses}
use Rattle.firmware.proofs.read.read.Goals as goal

pub returns-in_err-scheme : goal.returns-in_err-scheme
unfolding outcome_by read_outcome
returns-in_err-scheme c =
    let none : c.of_number.result ≡ None = c.ok_or.ensures.ok_part ∙ ap result_ok c.in_err-scheme.was in
    let refusal = given-unknown _ _ c.of_number.ensures none c.ok_or.ensures.value c.in_err-scheme.was ∙ c.at.ensures in
    two_clauses (λ a b. record { result_value = a; text_after = b }) (refusal-leaves _ _ _ _ 11 0 (ap bytes_outcome (handed_on c.from_residual.ensures) ∙ refusal_is refusal) (stop-unknown _ _ c.of_number.ensures _ none))

pub returns : goal.returns
unfolding read_outcome read_text
returns c =
    let n = c.of_number.ensures in
    let some : c.of_number.result ≡ Some c.in_ok-scheme.scheme = c.ok_or.ensures.ok_part ∙ ap result_ok c.in_ok-scheme.was in
    two_clauses (λ a b. record { result_value = a; text_after = b }) (handed-leaves _ _ _ _ _ _ _ (pass-known _ _ n _ _ some) refl (rw (known_is _ _ n _ some) at c.read_by.ensures.result_value, rw (known_is _ _ n _ some) at c.read_by.ensures.text_after))
