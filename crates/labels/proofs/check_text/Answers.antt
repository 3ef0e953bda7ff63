-- `check_text` meets its contract: each test answers in its turn, and what passes them all goes on.
use mathlib.Core.Path.{sym, ◌∙◌}
use Rattle.basis.specs.Outcome.{and_then, outcome_by}
use Rattle.basis.proofs.Outcome.{handed_on, stop-found, pass-found}
use Rattle.labels.specs.Tests.{text_tests}
use Rattle.labels.proofs.FirstTests.{check-stops, check-passes}
use Rattle.labels.proofs.check_text.Goals as goal

pub returns-in_err-check_sizes : goal.returns-in_err-check_sizes
unfolding and_then outcome_by text_tests
returns-in_err-check_sizes c = rw (handed_on c.from_residual.ensures) (λ next. sym (check-stops _ _ c.check_sizes.ensures _ c.in_err-check_sizes.was))

pub returns-then-bad-text : goal.returns-then-bad-text
unfolding and_then outcome_by text_tests
returns-then-bad-text c =
    rw c.at.ensures (λ next. sym (check-passes _ _ c.check_sizes.ensures _ c.in_ok-check_sizes.was ∙ stop-found 4 _ _ _ _ c.first_not_point-bad.ensures c.if-bad-text.true))

pub returns : goal.returns
unfolding and_then outcome_by text_tests
returns c =
    λ next. sym (check-passes _ _ c.check_sizes.ensures _ c.in_ok-check_sizes.was ∙ pass-found 4 _ _ _ _ c.first_not_point-bad.ensures c.if-bad-text.false)
