-- `list::judge_listed` meets its contract: the reader number, the scheme, then the label.
use mathlib.Core.Path.{sym, ◌∙◌}
use Rattle.basis.specs.Outcome.{outcome_by}
use Rattle.basis.proofs.Outcome.{refusal_is}
use Rattle.nametable_write.proofs.ListLaws.{reader-below, unknown-scheme, by-label}
use Rattle.nametable_write.proofs.list.judge_listed.Goals as goal

pub returns-then-reader-least : goal.returns-then-reader-least
unfolding outcome_by
returns-then-reader-least c =
    rw (reader-below _ _ _ _ c.if-reader-least.true) (refusal_is c.at.ensures)

pub returns-in_default : goal.returns-in_default
unfolding outcome_by
returns-in_default c =
    rw (unknown-scheme _ _ _ _ c.if-reader-least.false c.of_own_number.ensures c.in_default.is) (refusal_is c.at-in_default.ensures)

pub returns : goal.returns
returns c =
    c.judge_label.ensures ∙ sym (by-label _ _ _ _ c.if-reader-least.false c.of_own_number.ensures c.in-Some.is)
