-- `encoding::put_units` meets its contract: the symbols of the units from i on are left.
use Rattle.std.proofs.lemmas.List.{take_rest}
use Rattle.basis.proofs.Stores.{storing-all}
use Rattle.brace_symbols.proofs.Units.{unit-fits, unit-stored, units-stored}
use Rattle.brace_symbols.proofs.encoding.put_units.Goals as goal

pub loop-i-init : goal.loop-i-init
loop-i-init c = let p = c.after_head-progress.ensures in rw (p.styled, p.not_copying, p.spare) (storing-all _ _)

pub put_unit-to-requires : goal.put_unit-to-requires
put_unit-to-requires c = rw take_rest (unit-fits _ _ _ c.args.units.now c.loop-i.i c.loop-i.invariant c.loop-i-test.true c.requires)

pub loop-i-preserved : goal.loop-i-preserved
loop-i-preserved c =
    let p = c.after-progress.ensures in unit-stored _ _ _ c.args.units.now c.loop-i.i c.loop-i.invariant c.loop-i-test.true (rw take_rest at c.put_unit-to.ensures) p.styled p.copies p.spare

pub shape_of-symbols : goal.shape_of-symbols
shape_of-symbols c = c.loop-i.invariant.long

pub returns : goal.returns
returns c = units-stored _ _ _ c.args.units.now c.loop-i.i c.loop-i.invariant c.loop-i-test.false
