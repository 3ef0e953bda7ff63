-- `decoding::put_symbol` meets its contract: one store for the last symbol of a group or a hyphen, none for another.
use Rattle.basis.proofs.Stores.{stored-none, stored_one}
use Rattle.altdude.proofs.DecodeLaws.{adds-last, adds-hyphen, adds-nothing}
use Rattle.altdude.proofs.decoding.put_symbol.Goals as goal

pub returns-then-symbol-lt16 : goal.returns-then-symbol-lt16
returns-then-symbol-lt16 c =
    rw (adds-last _ _ c.if-symbol-lt16.true) (stored_one _ _ _)

pub returns-then-symbol-eq45 : goal.returns-then-symbol-eq45
returns-then-symbol-eq45 c =
    rw (adds-hyphen _ _ c.if-symbol-lt16.false c.if-symbol-eq45.true) (stored_one _ _ _)

pub returns : goal.returns
returns c =
    rw (adds-nothing _ _ c.if-symbol-lt16.false c.if-symbol-eq45.false) (stored-none _ _)
