-- The first byte that is not LDH, or none.
use mathlib.Core.Path.{◌∙◌}
use mathlib.Core.Bool.{not}
use borrow.Author.Tests.{tests}
use Rattle.std.proofs.Common.{rules}
use Rattle.std.proofs.lemmas.Iterator.{YieldsList-from_slice}
use Rattle.basis.proofs.Chains.{first_from_position}
use Rattle.ascii.specs.Ldh.{is_ldh}
use Rattle.brace_decoding.specs.Answer.{first_not_ldh}
use Rattle.brace_decoding.proofs.decoding.first_not_ldh.Goals as goal

pub returns : goal.returns
unfolding first_not_ldh
returns c =
    c.unwrap_or.ensures ∙ first_from_position (λ b. not (is_ldh b)) _ _ _ c.position.ensures.ran (YieldsList-from_slice _ c.iter.ensures.rest) (λ x q k. search (rules, tests)) (λ x q k. search (rules, tests))
