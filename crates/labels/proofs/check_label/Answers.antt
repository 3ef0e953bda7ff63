-- `check_label` meets its contract: each test answers in its turn, and what passes them all goes on.
use mathlib.Core.Path.{sym}
use Rattle.basis.specs.Outcome.{and_then, outcome_by}
use Rattle.labels.specs.Tests.{label_tests}
use Rattle.basis.proofs.Outcome.{handed_on}
use Rattle.labels.proofs.FirstTests.{check-stops}
use Rattle.labels.proofs.check_label.Goals as goal

pub returns-in_err-check_sizes : goal.returns-in_err-check_sizes
unfolding and_then outcome_by label_tests
returns-in_err-check_sizes c = rw (handed_on c.from_residual.ensures) (λ next. sym (check-stops _ _ c.check_sizes.ensures _ c.in_err-check_sizes.was))
