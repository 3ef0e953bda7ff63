-- `marking::ends_item` meets its contract: a hyphen does, and another byte by its value.
use Rattle.altdude.proofs.MarkLaws.{ends-hyphen, ends-found}
use Rattle.altdude.proofs.marking.ends_item.Goals as goal

pub returns-then-byte-eq45 : goal.returns-then-byte-eq45
returns-then-byte-eq45 c = ends-hyphen _ c.if-byte-eq45.true

pub returns-else-byte-eq45 : goal.returns-else-byte-eq45
returns-else-byte-eq45 c = ends-found _ c.if-byte-eq45.false c.altdude_look_up.ensures
