-- `list::sum_is` meets its contract: the lengths passed and what is left make up the total.
use mathlib.Core.Path.{refl}
use native.Mathlib.Omega.{arith}
use Rattle.nametable_write.proofs.ListLaws.{sum_over, sum-turn, sum-all}
use Rattle.nametable_write.proofs.list.sum_is.Goals as goal

pub loop-length-init : goal.loop-length-init
loop-length-init c = refl

pub returns-then-left-length : goal.returns-then-left-length
returns-then-left-length c =
    let l = c.loop-length in sum_over _ l.length-index _ _ (omega arith) l.invariant c.if-left-length.true

pub loop-length-preserved : goal.loop-length-preserved
loop-length-preserved c =
    let l = c.loop-length in sum-turn _ l.length-index _ _ (omega arith) l.invariant c.if-left-length.false

pub returns : goal.returns
returns c = let l = c.loop-length in sum-all _ l.length-index _ _ (omega arith) l.invariant
