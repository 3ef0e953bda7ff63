-- `encoding::put_label` meets its contract: the symbols of the points from the loop's index on are left to store, from index `at` on.
use native.Mathlib.Omega.{arith}
use Rattle.altdude.proofs.EncodeLaws.{item-fits, store-start, store-turn, store-end}
use Rattle.basis.proofs.Clauses.{two_clauses}
use Rattle.altdude.proofs.encoding.put_label.Goals as goal

pub loop-point-init : goal.loop-point-init
loop-point-init c = store-start _ _

pub put_item-at-requires : goal.put_item-at-requires
put_item-at-requires c =
    let t = c.args.text.now in
    omega (arith, item-fits t _ c.loop-point.point-index (omega arith) _ _ _ c.loop-point.invariant, c.loop-point.invariant.long)

pub loop-point-preserved : goal.loop-point-preserved
loop-point-preserved c =
    let l = c.loop-point in
    let text = c.args.text.now in
    store-turn text _ _ l.point-index (omega arith) c.remembered_after-remembered.ensures _ _ _ l.invariant c.put_item-at.ensures

pub shape_of-label : goal.shape_of-label
shape_of-label c = c.loop-point.invariant.long

pub returns : goal.returns
returns c =
    two_clauses (λ a b. record { value = a; label_after = b }) (store-end c.args.text.now _ c.loop-point.point-index (omega arith) _ _ _ c.loop-point.invariant c.requires)
