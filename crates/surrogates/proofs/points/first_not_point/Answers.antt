-- `points::first_not_point` meets its contract: the position of the first number of which the test holds.
use Rattle.std.proofs.Common.{rules}
use borrow.Author.Tests.{tests}
use mathlib.Core.Path.{◌∙◌}
use mathlib.Core.Bool.{not}
use Rattle.std.proofs.lemmas.Iterator.{YieldsList-from_slice}
use Rattle.basis.proofs.Chains.{first_from_position}
use Rattle.surrogates.specs.Points.{is_point, first_not_point}
use Rattle.surrogates.proofs.points.first_not_point.Goals as goal

pub returns : goal.returns
unfolding first_not_point
returns c =
    c.unwrap_or.ensures
    ∙ first_from_position (λ p. not (is_point p)) _ _ _ c.position.ensures.ran (YieldsList-from_slice _ c.iter.ensures.rest)
    (λ x q k. search (rules, tests)) (λ x q k. search (rules, tests))
