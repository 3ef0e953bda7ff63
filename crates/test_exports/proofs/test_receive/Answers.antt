-- `test_receive` meets its contract: the chunks are received, and the answer is stored.
use Rattle.test_exports.proofs.test_receive.Goals as goal

pub returns : goal.returns
returns c = rw (← c.in_chunks.ensures) c.store_count.ensures
