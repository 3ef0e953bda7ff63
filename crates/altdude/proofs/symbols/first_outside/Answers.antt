-- `symbols::first_outside` meets its contract.
use mathlib.Core.Path.{◌∙◌}
use mathlib.Core.Bool.{not}
use borrow.Author.Tests.{tests}
use Rattle.std.proofs.Common.{rules}
use Rattle.std.proofs.lemmas.Iterator.{YieldsList-from_slice}
use Rattle.basis.proofs.Chains.{first_from_position}
use Rattle.altdude.specs.Symbols.{is_character, first_outside}
use Rattle.altdude.proofs.symbols.first_outside.Goals as goal

pub returns : goal.returns
unfolding first_outside
returns c =
    c.unwrap_or.ensures
    ∙ first_from_position (λ b. not (is_character b)) _ _ _ c.position.ensures.ran (YieldsList-from_slice _ c.iter.ensures.rest) (λ x q k. search (rules, tests)) (λ x q k. search (rules, tests))
