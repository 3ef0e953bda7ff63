-- `bytes::put_units` meets its contract: what is left are the units from `i` on.
use mathlib.Core.Path.{sym}
use native.Mathlib.Omega.{arith}
use Rattle.basis.proofs.Stores.{stored_one}
use Rattle.utf16.proofs.BytePairs.{length-units_of_bytes}
use Rattle.utf16.proofs.Pieces.{putting-none, putting-more, putting-all}
use Rattle.utf16.proofs.Stores.{row-pieces}
use Rattle.utf16.proofs.bytes.put_units.Goals as goal

pub loop-i-init : goal.loop-i-init
loop-i-init c = putting-none (row-pieces _) _

pub loop-i-preserved : goal.loop-i-preserved
loop-i-preserved c =
    let e = c.unit_at.ensures in
    putting-more (row-pieces _) c.loop-i.invariant (omega (arith, length-units_of_bytes c.args.bytes.now)) (rw e (stored_one _ _ _))

pub shape_of-units : goal.shape_of-units
shape_of-units c = c.loop-i.invariant.left.long

pub returns : goal.returns
returns c =
    let long = length-units_of_bytes c.args.bytes.now in
    let stored = putting-all (row-pieces _) c.loop-i.invariant (omega (arith, long)) (omega (arith, long)) in
    record { value = sym long; units_after = stored.1 }
