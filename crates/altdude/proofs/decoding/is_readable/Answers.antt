-- `decoding::is_readable` meets its contract. What is left of the label can be read from the state exactly when the label can.
use mathlib.Core.Path.{refl}
use native.Mathlib.Omega.{arith}
use Rattle.altdude.proofs.DecodeLaws.{symbol-small, reading-start, reading-end, reading-stop, reading-turn}
use Rattle.altdude.proofs.decoding.is_readable.Goals as goal

pub loop-byte-init : goal.loop-byte-init
loop-byte-init c = reading-start _ _ refl

pub advance-requires : goal.advance-requires
advance-requires c = omega (arith, symbol-small _ _ c.symbol_of-symbol.ensures)

pub returns-in_default : goal.returns-in_default
returns-in_default c =
    reading-stop _ _ _ _ c.loop-byte.invariant c.loop-byte-test.true _ c.symbol_of-symbol.ensures _ c.advance.ensures
    c.in_default.is

pub loop-byte-preserved : goal.loop-byte-preserved
loop-byte-preserved c =
    reading-turn _ _ _ _ c.loop-byte.invariant c.loop-byte-test.true _ c.symbol_of-symbol.ensures _ c.advance.ensures _
    c.in-Some.is

pub returns : goal.returns
returns c = reading-end _ _ _ _ c.loop-byte.invariant c.loop-byte-test.false
