-- `test_to_long` meets its contract: the function does, and its answer is stored.
use Rattle.test_exports.proofs.test_to_long.Goals as goal

pub returns : goal.returns
returns c =
    record {
      table_after = c.to_long.ensures.table_after;
      answer_after = rw (← c.to_long.ensures.result_value) c.store_count.ensures;
    }
