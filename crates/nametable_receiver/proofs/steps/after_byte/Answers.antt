-- `steps::after_byte` meets its contract: past the most bytes, a byte of the header, one of an entry,
-- or its last.
use mathlib.Core.Path.{sym, ◌∙◌}
use native.Mathlib.Omega.{arith}
use Rattle.nametable_receiver.proofs.StepLaws.{stepped-stored, stepped-ended}
use Rattle.nametable_receiver.proofs.steps.after_byte.Goals as goal

pub returns-then-state : goal.returns-then-state
returns-then-state c = c.entry_byte.ensures ∙ sym (stepped-stored _ _ (omega arith) (omega arith) (omega arith))

pub returns : goal.returns
returns c = c.last_byte.ensures ∙ sym (stepped-ended _ _ (omega arith) (omega arith) (omega arith))
