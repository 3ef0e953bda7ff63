-- A hyphen and a copied byte leave the queue; a coded one goes into it.
use Rattle.brace_text.proofs.Reading.{next-hyphen, next-copied, next-quintet}
use Rattle.brace_text.proofs.Progress.next_queue.Goals as goal

pub returns-then-byte-eq45 : goal.returns-then-byte-eq45
returns-then-byte-eq45 c = next-hyphen _ _ _ _ _ c.if-byte-eq45.true

pub returns-then-is_copied : goal.returns-then-is_copied
returns-then-is_copied c = next-copied _ _ _ _ _ c.if-byte-eq45.false _ c.is_copied.ensures c.if-is_copied.true

pub returns : goal.returns
returns c =
    next-quintet _ _ _ _ _ c.if-byte-eq45.false _ c.is_copied.ensures c.if-is_copied.false _ c.quintet_of.ensures.value _ _ (rw (c.with-longer.ensures.0, c.with-longer.ensures.1) at c.without_code.ensures)
