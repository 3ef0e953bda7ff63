-- `are_all_in` meets its contract: what the chain tests is the part of each code.
use Prim.Native.Nat.{◌/◌}
use lib.Dec.{eqb}
use Rattle.std.proofs.Common.{rules}
use borrow.Author.Tests.{tests}
use Rattle.std.proofs.lemmas.Iterator.{YieldsList-from_slice}
use Rattle.basis.proofs.Chains.{every_from_all}
use Rattle.brace_choice.proofs.Codes.are_all_in.Goals as goal

pub returns : goal.returns
returns c =
    every_from_all (λ x. eqb (x / c.args.size) c.args.part) _ _ _ c.all.ensures.ran (YieldsList-from_slice _ c.iter.ensures.rest)
    (λ x q k. search (rules, tests)) (λ x q k. search (rules, tests))
