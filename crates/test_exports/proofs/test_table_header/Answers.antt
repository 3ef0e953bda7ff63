-- `test_table_header` meets its contract: the function does, and its answer is stored.
use Rattle.test_exports.proofs.test_table_header.Goals as goal

pub returns : goal.returns
returns c = rw (← c.header.ensures) c.store_count.ensures
