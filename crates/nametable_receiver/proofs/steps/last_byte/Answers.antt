-- `steps::last_byte` meets its contract: the entry is judged, and the next reader number is one more
-- at least.
use native.Mathlib.Omega.{arith}
use Rattle.nametable_format.specs.Format.{reader_of}
use Rattle.nametable_receiver.specs.Receiving.{state_of, ended}
use Rattle.nametable_receiver.proofs.StepLaws.{with-entry-is}
use Rattle.nametable_receiver.proofs.steps.last_byte.Goals as goal

pub returns : goal.returns
unfolding ended reader_of
returns c =
    let s = c.args.state in
    with-entry-is (state_of s) _ _ _ _ (omega arith) (omega (arith, c.number_at-least.ensures.0)) c.judged_with-judged.ensures
