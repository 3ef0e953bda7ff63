-- `decoding::advance` meets its contract, by the kind of the symbol: the last of a group, a hyphen, a foreign one, a leading one.
use native.Mathlib.Omega.{arith}
use Rattle.altdude.proofs.DecodeLaws.{stop-open, goes-hyphen, stop-foreign, stop-zero, stop-large, goes-leading}
use Rattle.altdude.proofs.decoding.State.advance.Goals as goal

pub returns-then-self-eq0 : goal.returns-then-self-eq0
returns-then-self-eq0 c = goes-hyphen _ _ c.if-symbol-eq45.true c.requires.0 c.if-self-eq0.true

pub returns-then-symbol-eq45 : goal.returns-then-symbol-eq45
returns-then-symbol-eq45 c = stop-open _ _ c.if-symbol-eq45.true c.if-self-eq0.false

pub returns-then-symbol-gt31 : goal.returns-then-symbol-gt31
returns-then-symbol-gt31 c = stop-foreign _ _ c.if-symbol-lt16.false c.if-symbol-eq45.false c.if-symbol-gt31.true

pub returns-then-value-eq0 : goal.returns-then-value-eq0
returns-then-value-eq0 c = stop-zero _ _ c.if-symbol-lt16.false c.if-symbol-eq45.false c.if-value-eq0.true

pub returns-then-value-gt2097151 : goal.returns-then-value-gt2097151
returns-then-value-gt2097151 c =
    stop-large _ _ c.if-symbol-lt16.false c.if-symbol-eq45.false c.requires.0 (omega (arith, c.if-value-gt2097151.true))

pub returns : goal.returns
returns c =
    goes-leading _ _ c.if-symbol-lt16.false c.if-symbol-eq45.false c.requires.0 c.if-symbol-gt31.false c.if-value-eq0.false (omega arith)
