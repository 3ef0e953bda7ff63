-- `entries::is_zero` meets its contract: `all` asks each byte whether it is zero.
use lib.Dec.{eqb}
use Rattle.std.proofs.Common.{rules}
use Rattle.std.proofs.lemmas.Iterator.{YieldsList-from_slice}
use borrow.Author.Tests.{tests}
use Rattle.basis.proofs.Chains.{every_from_all}
use Rattle.nametable.proofs.entries.is_zero.Goals as goal

pub returns : goal.returns
returns c = every_from_all (λ b. eqb b 0) _ _ _ c.all.ensures.ran (YieldsList-from_slice _ c.iter.ensures.rest) (λ x q k. search (rules, tests)) (λ x q k. search (rules, tests))
