-- `capped_count` meets its contract, by the order of the count and 253.
use borrow.Author.Tests.{lt-ltb, le-ltb}
use Rattle.host_name.specs.Internal.{capped}
use Rattle.host_name.proofs.writing.capped_count.Goals as goal

pub returns-then-count-gt253 : goal.returns-then-count-gt253
unfolding capped
returns-then-count-gt253 c = rw (lt-ltb 253 _ c.if-count-gt253.true)

pub returns-else-count-gt253 : goal.returns-else-count-gt253
unfolding capped
returns-else-count-gt253 c = rw (le-ltb 253 _ c.if-count-gt253.false)
