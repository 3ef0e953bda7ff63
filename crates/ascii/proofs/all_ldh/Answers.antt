-- `all_ldh` meets its contract: what the chain tests is the numbers of the elements.
use Rattle.std.proofs.Common.{rules, refl}
use borrow.Author.Tests.{tests}
use Rattle.std.proofs.lemmas.Iterator.{YieldsList-from_slice, YieldsList-from_map}
use Rattle.basis.proofs.Chains.{every_from_all}
use Rattle.ascii.specs.Ldh.{is_ldh, is_all_ldh}
use Rattle.ascii.proofs.all_ldh.Goals as goal

pub returns : goal.returns
unfolding is_all_ldh
returns g c =
    every_from_all is_ldh _ _ _ c.all.ensures.ran
    (YieldsList-from_map {s = c.map.result} _ g.T.Element.number {f = c.map.result.f} (YieldsList-from_slice c.args.row.now (search rules)) refl (λ x r q k. search rules))
    (λ x q k. search (rules, tests)) (λ x q k. search (rules, tests))
