-- `marking::put_mark` meets its contract: one store for a byte that ends an item, none for another.
use mathlib.Core.Path.{sym, ◌∙◌}
use Rattle.altdude.proofs.MarkLaws.{shows-none, shows-one}
use Rattle.altdude.proofs.marking.put_mark.Goals as goal

pub returns-then-not-ends_item : goal.returns-then-not-ends_item
returns-then-not-ends_item c = shows-none _ _ _ (sym c.ends_item.ensures ∙ c.if-not-ends_item.true)

pub returns : goal.returns
returns c = shows-one _ _ _ (sym c.ends_item.ensures ∙ c.if-not-ends_item.false) c.altdude_look_up.ensures _ c.from.ensures
