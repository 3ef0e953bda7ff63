-- `read::read_by` meets its contract: room, then the scheme's own refusal, else the text's bytes.
use mathlib.Core.Path.{refl, sym, ap, ◌∙◌}
use lib.ListN.{length}
use native.Mathlib.Omega.{arith}
use Rattle.basis.specs.Outcome.{bytes_outcome, outcome_by}
use Rattle.basis.proofs.Outcome.{stop-below, pass_below, refusal_is, handed_on, refusal-leaves, handed-leaves, and_then-refused-leaves, and_then-done-leaves, values-fit, values-are}
use Rattle.utf16.specs.Answer.{points_outcome}
use Rattle.utf16.proofs.Refusals.{text-leaves}
use Rattle.scheme.proofs.Coding.{decoded-count, decoded-text, decoded-short}
use Rattle.firmware.specs.Answer.{read_by}
use Rattle.basis.proofs.Clauses.{two_clauses}
use Rattle.firmware.proofs.read.read_by.Goals as goal

pub returns-then-text-lt-TEXT_BYTES : goal.returns-then-text-lt-TEXT_BYTES
unfolding outcome_by read_by
returns-then-text-lt-TEXT_BYTES c =
    let a = c.args in
    two_clauses (λ a b. record { result_value = a; text_after = b }) (refusal-leaves _ _ _ _ 1 0 (refusal_is c.at.ensures) (stop-below 1 0 _ (length a.text.now) 252 (omega arith)))

pub returns-in_err-count : goal.returns-in_err-count
unfolding outcome_by read_by
returns-in_err-count c =
    let room = length c.args.text.now in
    two_clauses (λ a b. record { result_value = a; text_after = b }) (handed-leaves _ _ _ _ _ _ _ (pass_below 1 0 _ room 252 (omega arith)) refl
    (and_then-refused-leaves _ _ _ _ _ _ _ (sym c.decode.ensures.result_value ∙ ap points_outcome c.in_err-count.was) (ap bytes_outcome (handed_on c.from_residual.ensures))))

pub returns : goal.returns
unfolding outcome_by read_by
returns c =
    let a = c.args in
    let is = sym c.decode.ensures.result_value ∙ ap points_outcome c.in_ok-count.was in
    let count = decoded-count a.scheme _ _ _ is in
    two_clauses (λ a b. record { result_value = a; text_after = b }) (handed-leaves _ _ _ _ _ _ _ (pass_below 1 0 _ (length a.text.now) 252 (omega arith)) refl
    (and_then-done-leaves _ _ _ _ _ _ _ is
    (text-leaves _ _ (length a.text.now) _ _ _ _ (values-fit _ _ _ _ _ is count c.decode.ensures.text_after) (omega (arith, count, decoded-short a.scheme _ _ _ is))
    (values-are _ _ _ _ _ is count c.decode.ensures.text_after) (decoded-text a.scheme _ _ _ is) (c.points_to_bytes.ensures.result_value, c.points_to_bytes.ensures.bytes_after))))
