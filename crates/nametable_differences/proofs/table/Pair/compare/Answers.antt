-- `Pair::compare` meets its contract: the texts are in front of both arrays.
use mathlib.Core.Path.{sym, ◌∙◌}
use borrow.Author.Tests.{not-true, not-false}
use Rattle.basis.proofs.Parts.{front-is, front_fits, front_long}
use Rattle.nametable.specs.Answer.{entry_text}
use Rattle.nametable_differences.proofs.EntryLaws.{compared-other, compared_same, compared-respelled}
use Rattle.nametable_differences.proofs.table.Pair.compare.Goals as goal

pub slice_bounds-left_text-end : goal.slice_bounds-left_text-end
slice_bounds-left_text-end c =
    front_fits _ (entry_text _ _) _ _ c.read_entry-left_entry.ensures.count_value c.read_entry-left_entry.ensures.text_after

pub slice_bounds-same_text-end : goal.slice_bounds-same_text-end
slice_bounds-same_text-end c =
    front_long _ (entry_text _ _) _ _ c.read_entry-left_entry.ensures.count_value c.read_entry-left_entry.ensures.text_after

pub slice_bounds-right_text-end : goal.slice_bounds-right_text-end
slice_bounds-right_text-end c =
    front_fits _ (entry_text _ _) _ _ c.read_entry-right_entry.ensures.count_value c.read_entry-right_entry.ensures.text_after

pub slice_bounds-same_text-end-2 : goal.slice_bounds-same_text-end-2
slice_bounds-same_text-end-2 c =
    front_long _ (entry_text _ _) _ _ c.read_entry-right_entry.ensures.count_value c.read_entry-right_entry.ensures.text_after

pub returns-then-not-same_text : goal.returns-then-not-same_text
returns-then-not-same_text c =
    compared-other _ _ _ _ (front-is _ _ _ _ c.read_entry-left_entry.ensures.count_value c.read_entry-left_entry.ensures.text_after) (front-is _ _ _ _ c.read_entry-right_entry.ensures.count_value c.read_entry-right_entry.ensures.text_after)
    (sym c.same_text.ensures ∙ not-true _ c.if-not-same_text.true-raw)

pub returns-then-number : goal.returns-then-number
returns-then-number c =
    compared_same _ _ _ _ (front-is _ _ _ _ c.read_entry-left_entry.ensures.count_value c.read_entry-left_entry.ensures.text_after) (front-is _ _ _ _ c.read_entry-right_entry.ensures.count_value c.read_entry-right_entry.ensures.text_after)
    (sym c.same_text.ensures ∙ not-false _ c.if-not-same_text.false-raw) (sym c.read_entry-left_entry.ensures.scheme_value ∙ sym c.number.ensures ∙ c.if-number.true ∙ c.number-2.ensures ∙ c.read_entry-right_entry.ensures.scheme_value)

pub returns : goal.returns
returns c =
    compared-respelled _ _ _ _ (front-is _ _ _ _ c.read_entry-left_entry.ensures.count_value c.read_entry-left_entry.ensures.text_after) (front-is _ _ _ _ c.read_entry-right_entry.ensures.count_value c.read_entry-right_entry.ensures.text_after)
    (sym c.same_text.ensures ∙ not-false _ c.if-not-same_text.false-raw) (λ e. c.if-number.false (c.number.ensures ∙ c.read_entry-left_entry.ensures.scheme_value ∙ e ∙ sym c.read_entry-right_entry.ensures.scheme_value ∙ sym c.number-2.ensures))
