-- `test_table_read` meets its contract: the function does, and its answer is stored.
use Rattle.test_exports.proofs.test_table_read.Goals as goal

pub returns : goal.returns
returns c = rw (← c.read.ensures) c.store_count.ensures
