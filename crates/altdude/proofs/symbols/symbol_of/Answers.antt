-- `symbols::symbol_of` meets its contract: a hyphen is 45, any other byte its value.
use Rattle.alphabet.specs.Alphabet.{altdude}
use Rattle.alphabet.proofs.LookUp.{value_found}
use Rattle.altdude.proofs.DecodeLaws.{symbol-hyphen, symbol-value}
use Rattle.altdude.proofs.symbols.symbol_of.Goals as goal

pub returns-then-byte-eq45 : goal.returns-then-byte-eq45
returns-then-byte-eq45 c = symbol-hyphen _ c.if-byte-eq45.true

pub returns : goal.returns
returns c = symbol-value _ _ c.if-byte-eq45.false (value_found altdude _ c.altdude_look_up.ensures)
