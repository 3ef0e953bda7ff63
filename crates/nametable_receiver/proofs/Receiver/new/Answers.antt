-- `Receiver::new` meets its contract.
use mathlib.Core.Path.{refl}
use Rattle.basis.specs.Rows.{tabulate}
use Rattle.basis.specs.Outcome.{outcome_by}
use Rattle.nametable_receiver.specs.Receiving.{fresh}
use Rattle.nametable_receiver.proofs.Receiver.new.Goals as goal

pub returns : goal.returns
unfolding fresh tabulate outcome_by
returns c = refl
