-- `encoding::group_length` meets its contract: n symbols are counted, those of y are left.
use mathlib.Core.Path.{ap}
use mathlib.Core.List.{[]}
use native.Mathlib.Omega.{arith}
use lib.ListN.{length}
use Rattle.altdude.proofs.Digits.{digits-none}
use Rattle.altdude.proofs.EncodeLaws.{group-length, digits-length}
use Rattle.altdude.proofs.encoding.group_length.Goals as goal

pub loop-y-init : goal.loop-y-init
loop-y-init c = (omega (arith, group-length c.args.x), omega arith)

pub loop-y-preserved : goal.loop-y-preserved
loop-y-preserved c = (omega (arith, digits-length c.loop-y.y c.loop-y-test.true), omega arith)

pub returns : goal.returns
returns c = omega (arith, ap length (digits-none c.loop-y.y [] (omega arith)))
