-- Nothing is stored for a code that is not whole, one unit for a whole one.
use Rattle.brace_text.proofs.Reading.{taken_none, taken-some}
use Rattle.basis.proofs.Stores.{stored-none, stored_one}
use Rattle.brace_text.proofs.Queue.put_taken.Goals as goal

pub returns-then-self-width : goal.returns-then-self-width
returns-then-self-width c =
    rw (taken_none _ _ _ _ c.due_width-width.ensures c.if-self-width.true) (stored-none _ _)

pub returns : goal.returns
returns c =
    rw (taken-some _ _ _ _ c.due_width-width.ensures c.if-self-width.false _ c.unit_of.ensures) (stored_one _ _ _)
