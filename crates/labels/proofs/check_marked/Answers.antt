-- `check_marked` meets its contract: each test answers in its turn, and what passes them all goes on.
use mathlib.Core.Path.{sym, ap, ◌∙◌}
use mathlib.Core.Bool.{not}
use borrow.Author.Tests.{eq-eqb, ne_eqb}
use Rattle.basis.specs.Outcome.{and_then, outcome_by}
use Rattle.basis.proofs.Outcome.{handed_on, stop-if, pass-if, stop-found, pass-found}
use Rattle.labels.specs.Marks.{marks_tests}
use Rattle.labels.proofs.FirstTests.{check-stops, check-passes}
use Rattle.labels.proofs.check_marked.Goals as goal

pub returns-in_err-check_text : goal.returns-in_err-check_text
unfolding and_then outcome_by
returns-in_err-check_text c = rw (handed_on c.from_residual.ensures) (λ next. sym (check-stops _ _ c.check_text.ensures _ c.in_err-check_text.was))

pub returns-then-marks-text : goal.returns-then-marks-text
unfolding and_then outcome_by marks_tests
returns-then-marks-text c =
    rw c.at.ensures (λ next. sym (check-passes _ _ c.check_text.ensures _ c.in_ok-check_text.was ∙ stop-if 15 0 _ _ (ap not (ne_eqb _ _ c.if-marks-text.true))))

pub returns-then-wrong-text : goal.returns-then-wrong-text
unfolding and_then outcome_by marks_tests
returns-then-wrong-text c =
    rw c.at-then-wrong-text.ensures (λ next. sym (check-passes _ _ c.check_text.ensures _ c.in_ok-check_text.was ∙ pass-if 15 0 _ _ (ap not (eq-eqb _ _ c.if-marks-text.false))
    ∙ stop-found 15 _ _ _ _ c.first_bad_mark-wrong.ensures c.if-wrong-text.true))

pub returns : goal.returns
unfolding and_then outcome_by marks_tests
returns c =
    λ next. sym (check-passes _ _ c.check_text.ensures _ c.in_ok-check_text.was ∙ pass-if 15 0 _ _ (ap not (eq-eqb _ _ c.if-marks-text.false))
    ∙ pass-found 15 _ _ _ _ c.first_bad_mark-wrong.ensures c.if-wrong-text.false)
