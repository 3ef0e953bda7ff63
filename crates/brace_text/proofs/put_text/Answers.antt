-- What is left is the text of the bytes from `i` on, from the mode and the queue on.
use Rattle.brace_text.proofs.Reading.{getting-start, getting-turn, getting-end}
use Rattle.basis.proofs.Clauses.{two_clauses}
use Rattle.brace_text.proofs.put_text.Goals as goal

pub loop-byte-init : goal.loop-byte-init
loop-byte-init c = getting-start _ _ _ _ _ _

pub loop-byte-preserved : goal.loop-byte-preserved
loop-byte-preserved c =
    getting-turn c.loop-byte.invariant c.loop-byte-test.true _ _ _ _ _ _ c.put_byte-at.ensures c.after-progress.ensures.styled c.after-progress.ensures.mode c.after-progress.ensures.queue

pub returns : goal.returns
returns c =
    two_clauses (λ a b. record { value = a; units_after = b }) (getting-end c.loop-byte.invariant c.loop-byte-test.false c.requires)
