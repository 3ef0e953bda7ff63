-- `of_number` meets its contract: 0 is the default, any other number its own.
use borrow.Author.Tests.{ne_eqb}
use mathlib.Core.Path.{◌≡◌, ◌∙◌}
use Rattle.scheme.specs.Naming.{number_names, own_number_names, default_number}
use Rattle.scheme.proofs.of_number.Goals as goal

pub returns-then-number-eq0 : goal.returns-then-number-eq0
unfolding number_names default_number
returns-then-number-eq0 c =
    let default : c.of_own_number.result ≡ own_number_names 1 = c.of_own_number.ensures in
    default ∙ rw c.if-number-eq0.true

pub returns : goal.returns
unfolding number_names
returns c = c.of_own_number-2.ensures ∙ rw (ne_eqb _ _ c.if-number-eq0.false)
