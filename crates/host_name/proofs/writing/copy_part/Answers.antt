-- `writing::copy_part` meets its contract: what is left are the points from the index on, each of which is a byte.
use native.Mathlib.Omega.{arith}
use Rattle.basis.proofs.Copying.{row-filled}
use Rattle.host_name.proofs.PartLaws.{host-label-bytes}
use Rattle.host_name.proofs.writing.copy_part.Goals as goal

pub overflow_cast-label : goal.overflow_cast-label
overflow_cast-label c = omega (arith, host-label-bytes c.args.part.now c.requires.part_value c.loop-i.i c.loop-i-test.true)

pub returns : goal.returns
returns c = row-filled c.args.part.now _ _ _ c.loop-i.invariant c.loop-i-test.false c.requires.part_in_bounds
