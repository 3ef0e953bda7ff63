-- `quintets::put_quintets` meets its contract: the last quintets are left to store.
use mathlib.Core.Path.{refl}
use native.Mathlib.Omega.{arith}
use Rattle.basis.proofs.Stores.{storing-all, storing-piece, storing-end, stored_one}
use Rattle.brace_symbols.proofs.Codes.{next-quintet, no-quintets}
use Rattle.brace_symbols.proofs.Units.{length-quintets}
use Rattle.brace_symbols.proofs.quintets.put_quintets.Goals as goal

pub loop-left-init : goal.loop-left-init
loop-left-init c = storing-all _ _

pub bounds-symbols-to : goal.bounds-symbols-to
bounds-symbols-to c = let l = c.loop-left in omega (arith, l.invariant.count, l.invariant.long, length-quintets l.left c.args.value, length-quintets c.args.n c.args.value)

pub overflow_add-to : goal.overflow_add-to
overflow_add-to c = let l = c.loop-left in omega (arith, l.invariant.count, l.invariant.long, length-quintets l.left c.args.value, length-quintets c.args.n c.args.value)

pub loop-left-preserved : goal.loop-left-preserved
loop-left-preserved c = storing-piece c.loop-left.invariant (next-quintet _ _ _ c.loop-left-test.true refl) (stored_one _ _ _)

pub shape_of-symbols : goal.shape_of-symbols
shape_of-symbols c = c.loop-left.invariant.long

pub returns : goal.returns
returns c = storing-end c.loop-left.invariant (no-quintets _ _ c.loop-left-test.false)
