-- `EntryList::of` meets its contract: each test answers in its turn, the sum last.
use mathlib.Core.Path.{refl, sym, ◌∙◌}
use borrow.Author.Tests.{eqb-true}
use native.Mathlib.Omega.{arith}
use Rattle.nametable_write.proofs.ListLaws.{no-readers, many-readers, other-schemes, other-lengths, other_sum, tests-passed}
use Rattle.nametable_write.proofs.entry_list.EntryList.of.Goals as goal

pub returns-then-count-lt1 : goal.returns-then-count-lt1
returns-then-count-lt1 c = no-readers _ _ _ _ c.if-count-lt1.true

pub returns-then-count-gt-MOST_ENTRIES : goal.returns-then-count-gt-MOST_ENTRIES
returns-then-count-gt-MOST_ENTRIES c = many-readers _ _ _ _ c.if-count-gt-MOST_ENTRIES.true

pub returns-then-schemes-count : goal.returns-then-schemes-count
returns-then-schemes-count c = other-schemes _ _ _ _ c.if-count-lt1.false c.if-count-gt-MOST_ENTRIES.false c.if-schemes-count.true

pub returns-then-lengths-count : goal.returns-then-lengths-count
returns-then-lengths-count c =
    other-lengths _ _ _ _ c.if-count-lt1.false c.if-count-gt-MOST_ENTRIES.false c.if-schemes-count.false c.if-lengths-count.true

pub returns-then-not-sum_is : goal.returns-then-not-sum_is
returns-then-not-sum_is c =
    other_sum _ _ _ _ c.if-count-lt1.false c.if-count-gt-MOST_ENTRIES.false c.if-schemes-count.false c.if-lengths-count.false (sym c.if-not-sum_is.true ∙ c.sum_is.ensures)

pub invariant_of-result : goal.invariant_of-result
invariant_of-result c =
    record { rows = record { few = omega arith; schemed = c.if-schemes-count.false; measured = c.if-lengths-count.false; summed = eqb-true _ _ (sym c.sum_is.ensures ∙ c.if-not-sum_is.false) } }

pub returns : goal.returns
returns c =
    (tests-passed _ _ _ _ c.if-count-lt1.false c.if-count-gt-MOST_ENTRIES.false c.if-schemes-count.false c.if-lengths-count.false (sym c.if-not-sum_is.false ∙ c.sum_is.ensures), refl, refl)
