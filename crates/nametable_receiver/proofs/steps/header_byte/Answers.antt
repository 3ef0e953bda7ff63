-- `steps::header_byte` meets its contract.
use native.Mathlib.Numerals.{add-one}
use Rattle.nametable_receiver.specs.Receiving.{headed}
use Rattle.nametable_receiver.proofs.steps.header_byte.Goals as goal

pub returns : goal.returns
unfolding headed
returns c = rw (add-one c.args.state.total)
