-- `encoding::put_plain` meets its contract: i units are stored, the others are left.
use mathlib.Core.Path.{refl}
use native.Mathlib.Omega.{arith}
use Rattle.basis.proofs.Stores.{storing-all}
use Rattle.basis.proofs.Copying.{row-turn, row-filled}
use Rattle.brace_symbols.proofs.Labels.{all-ldh-byte}
use Rattle.brace_symbols.proofs.encoding.put_plain.Goals as goal

pub loop-i-init : goal.loop-i-init
loop-i-init c = storing-all _ _

pub overflow_cast-symbols : goal.overflow_cast-symbols
overflow_cast-symbols c = omega (arith, all-ldh-byte c.args.units.now _ c.requires.units_value c.loop-i-test.true)

pub bounds-symbols-i : goal.bounds-symbols-i
bounds-symbols-i c = omega (arith, c.loop-i.invariant.long)

pub loop-i-preserved : goal.loop-i-preserved
loop-i-preserved c = row-turn _ _ _ _ c.loop-i.invariant c.loop-i-test.true

pub shape_of-symbols : goal.shape_of-symbols
shape_of-symbols c = c.loop-i.invariant.long

pub returns : goal.returns
returns c =
    record { value = refl; symbols_after = row-filled c.args.units.now _ _ _ c.loop-i.invariant c.loop-i-test.false c.requires.units_in_bounds }
