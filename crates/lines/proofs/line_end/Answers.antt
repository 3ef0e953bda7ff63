-- `line_end` meets its contract: the first byte that is a line feed, or the length.
use mathlib.Core.Path.{◌∙◌}
use borrow.Author.Tests.{tests}
use Rattle.std.proofs.Common.{rules}
use Rattle.std.proofs.lemmas.Iterator.{YieldsList-from_slice}
use Rattle.basis.proofs.Chains.{first_from_position}
use Rattle.lines.specs.Lines.{is_line_feed}
use Rattle.lines.specs.Step.{line_end}
use Rattle.lines.proofs.line_end.Goals as goal

pub returns : goal.returns
unfolding line_end is_line_feed
returns c =
    c.unwrap_or.ensures
    ∙ first_from_position is_line_feed _ _ _ c.position.ensures.ran (YieldsList-from_slice _ c.iter.ensures.rest) (λ x q k. search (rules, tests)) (λ x q k. search (rules, tests))
