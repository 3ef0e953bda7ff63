-- `symbols::byte_of` meets its contract.
use borrow.Author.Tests.{eq-eqb, ne_eqb}
use Rattle.altdude.specs.Symbols.{byte_of}
use Rattle.altdude.proofs.symbols.byte_of.Goals as goal

pub returns-then-symbol-eq45 : goal.returns-then-symbol-eq45
unfolding byte_of
returns-then-symbol-eq45 c = rw (eq-eqb _ 45 c.if-symbol-eq45.true)

pub returns : goal.returns
unfolding byte_of
returns c = rw (ne_eqb _ 45 c.if-symbol-eq45.false) c.altdude_character.ensures
