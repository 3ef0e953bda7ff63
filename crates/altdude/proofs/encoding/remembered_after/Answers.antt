-- `encoding::remembered_after` meets its contract.
use borrow.Author.Tests.{eq-eqb, ne_eqb}
use Rattle.altdude.specs.Encoding.{remembered_after}
use Rattle.altdude.proofs.encoding.remembered_after.Goals as goal

pub returns-then-point-eq45 : goal.returns-then-point-eq45
unfolding remembered_after
returns-then-point-eq45 c = rw (eq-eqb _ 45 c.if-point-eq45.true)

pub returns-else-point-eq45 : goal.returns-else-point-eq45
unfolding remembered_after
returns-else-point-eq45 c = rw (ne_eqb _ 45 c.if-point-eq45.false)
