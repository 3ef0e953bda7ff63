-- `style` meets its contract: one half-row, one row, or the shorter of the other two.
use mathlib.Core.Path.{◌∙◌}
use Rattle.brace_choice.proofs.Styles.{style-empty, style-half, style-row, style-other}
use Rattle.brace_choice.proofs.Codes.style.Goals as goal

pub returns-then-self-eq0 : goal.returns-then-self-eq0
returns-then-self-eq0 c = style-empty _ c.if-self-eq0.true

pub returns-then-are_all_in : goal.returns-then-are_all_in
returns-then-are_all_in c = style-half _ c.if-self-eq0.false _ c.are_all_in.ensures c.if-are_all_in.true

pub returns-then-are_all_in-2 : goal.returns-then-are_all_in-2
returns-then-are_all_in-2 c =
    style-row _ c.if-self-eq0.false _ c.are_all_in.ensures c.if-are_all_in.false _ c.are_all_in-2.ensures c.if-are_all_in-2.true

pub returns : goal.returns
returns c =
    c.mixed_or_no_row.ensures
    ∙ style-other _ c.if-self-eq0.false _ c.are_all_in.ensures c.if-are_all_in.false _ c.are_all_in-2.ensures c.if-are_all_in-2.false _ c.best_of.ensures
