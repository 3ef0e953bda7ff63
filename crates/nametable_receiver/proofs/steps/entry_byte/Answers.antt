-- `steps::entry_byte` meets its contract.
use native.Mathlib.Numerals.{add-one}
use Rattle.nametable_receiver.specs.Receiving.{stored}
use Rattle.nametable_receiver.proofs.steps.entry_byte.Goals as goal

pub returns : goal.returns
unfolding stored
returns c = let s = c.args.state in rw (add-one s.filled, add-one s.total)
