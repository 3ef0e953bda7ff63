-- `encoding::put_item` meets its contract.
use native.Mathlib.Omega.{arith}
use Rattle.altdude.proofs.EncodeLaws.{item-group, hyphen-length, put-hyphen}
use Rattle.altdude.proofs.encoding.put_item.Goals as goal

pub bounds-label-at : goal.bounds-label-at
bounds-label-at c = omega (arith, hyphen-length c.args.remembered c.args.point c.if-point-eq45.true)

pub returns-then-point-eq45 : goal.returns-then-point-eq45
returns-then-point-eq45 c =
    put-hyphen _ _ c.if-point-eq45.true _ _

pub put_group-requires : goal.put_group-requires
put_group-requires c = rw (item-group _ _ c.if-point-eq45.false) at c.requires

pub returns : goal.returns
returns c =
    rw (item-group c.args.remembered c.args.point c.if-point-eq45.false) c.put_group.ensures
