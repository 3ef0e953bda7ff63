-- `outside::first_outside_lace` meets its contract.
use mathlib.Core.Path.{◌∙◌}
use mathlib.Core.Bool.{not}
use borrow.Author.Tests.{tests}
use Rattle.std.proofs.Common.{rules}
use Rattle.std.proofs.lemmas.Iterator.{YieldsList-from_slice}
use Rattle.basis.proofs.Chains.{first_from_position}
use Rattle.alphabet.specs.Alphabet.{lace, is_character}
use Rattle.base32.specs.Answer.{first_outside}
use Rattle.base32.proofs.outside.first_outside_lace.Goals as goal

pub returns : goal.returns
unfolding first_outside
returns c =
    c.unwrap_or.ensures
    ∙ first_from_position (λ b. not (is_character lace b)) _ _ _ c.position.ensures.ran (YieldsList-from_slice _ c.iter.ensures.rest) (λ x q k. search (rules, tests)) (λ x q k. search (rules, tests))
