-- `decoding::put_text` meets its contract. What is left of the label can be read, and what is left of the text is still to be stored.
use mathlib.Core.Path.{refl, sym}
use native.Mathlib.Omega.{arith}
use Rattle.basis.proofs.Tests.{true-not-false}
use Rattle.altdude.proofs.DecodeLaws.{symbol-small, reading-start, reading-stop, putting-start, putting-turn, putting-end}
use Rattle.basis.proofs.Clauses.{two_clauses}
use Rattle.altdude.proofs.decoding.put_text.Goals as goal

pub loop-byte-init : goal.loop-byte-init
loop-byte-init c = (reading-start _ _ (sym c.requires.label_value), putting-start _ _)

pub advance-requires : goal.advance-requires
advance-requires c = omega (arith, symbol-small _ _ c.symbol_of-symbol.ensures)

pub shape_of-text-in_default : goal.shape_of-text-in_default
shape_of-text-in_default c = c.loop-byte.invariant.1.storing.long

pub returns-in_default : goal.returns-in_default
returns-in_default c =
    let stop = reading-stop _ _ _ _ c.loop-byte.invariant.0 c.loop-byte-test.true _ c.symbol_of-symbol.ensures _ c.advance.ensures
    c.in_default.is in
    two_clauses (λ a b. record { value = a; text_after = b }) (absurd (true-not-false refl (sym stop)))

pub put_symbol-at-requires : goal.put_symbol-at-requires
put_symbol-at-requires c =
    let l = c.loop-byte in
    omega (arith, l.invariant.1.behind, l.invariant.1.storing.long)

pub loop-byte-preserved : goal.loop-byte-preserved
loop-byte-preserved c =
    let l = c.loop-byte in
    putting-turn _ _ _ _ l.invariant.0 c.loop-byte-test.true _ c.symbol_of-symbol.ensures _ c.advance.ensures _
    c.in-Some.is _ _ _ l.invariant.1 c.put_symbol-at.ensures

pub shape_of-text : goal.shape_of-text
shape_of-text c = c.loop-byte.invariant.1.storing.long

pub returns : goal.returns
returns c =
    two_clauses (λ a b. record { value = a; text_after = b }) (putting-end _ _ _ _ _ _ c.loop-byte.invariant.1 c.loop-byte-test.false c.requires.label_in_bounds)
