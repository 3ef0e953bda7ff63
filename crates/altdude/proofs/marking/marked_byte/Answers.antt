-- `marking::marked_byte` meets its contract: a byte that ends an item with the mark 1 becomes a capital.
use mathlib.Core.Path.{sym, ◌∙◌}
use native.Mathlib.Omega.{arith}
use Rattle.altdude.proofs.MarkLaws.{byte_inside, byte-raised, byte-unmarked}
use Rattle.altdude.proofs.marking.marked_byte.Goals as goal

pub returns-then-not-ends_item : goal.returns-then-not-ends_item
returns-then-not-ends_item c = byte_inside _ _ (sym c.ends_item.ensures ∙ c.if-not-ends_item.true)

pub returns-then-mark-eq1 : goal.returns-then-mark-eq1
returns-then-mark-eq1 c =
    c.capital_form.ensures ∙ byte-raised _ _ (sym c.ends_item.ensures ∙ c.if-not-ends_item.false) c.if-mark-eq1.true

pub returns : goal.returns
returns c = byte-unmarked _ _ (sym c.ends_item.ensures ∙ c.if-not-ends_item.false) (λ e. omega arith)
