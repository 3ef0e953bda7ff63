-- What is left are the bytes from `i` on.
use native.Mathlib.Omega.{arith}
use Rattle.basis.proofs.Stores.{storing-all}
use Rattle.basis.proofs.Copying.{row-turn, row-filled}
use Rattle.brace_decoding.proofs.decoding.copy_bytes.Goals as goal

pub loop-i-init : goal.loop-i-init
loop-i-init c = storing-all _ _

pub bounds-units-i : goal.bounds-units-i
bounds-units-i c = omega (arith, c.loop-i.invariant.long)

pub loop-i-preserved : goal.loop-i-preserved
loop-i-preserved c = row-turn _ _ _ _ c.loop-i.invariant c.loop-i-test.true

pub shape_of-units : goal.shape_of-units
shape_of-units c = c.loop-i.invariant.long

pub returns : goal.returns
returns c = row-filled c.args.label.now _ _ _ c.loop-i.invariant c.loop-i-test.false c.requires
