-- `put_fitted` meets its contract: the room before i is filled.
use native.Mathlib.Omega.{arith}
use Rattle.nametable_short_format.proofs.EntryLaws.{fitted_none, fitted-more, fitted-all}
use Rattle.nametable_short_format.proofs.put_fitted.Goals as goal

pub loop-i-init : goal.loop-i-init
loop-i-init c = let a = c.args in fitted_none a.bytes.now a.start a.room.now

pub loop-i-preserved : goal.loop-i-preserved
loop-i-preserved c =
    let l = c.loop-i in let a = c.args in fitted-more a.bytes.now a.start l.room a.room.now l.i (omega arith) c.byte_at.ensures l.invariant

pub returns : goal.returns
returns c =
    let l = c.loop-i in let a = c.args in fitted-all a.bytes.now a.start l.room a.room.now l.i (omega arith) (omega arith) l.invariant
