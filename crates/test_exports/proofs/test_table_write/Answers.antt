-- `test_table_write` meets its contract: the function does, and its answer is stored.
use Rattle.test_exports.proofs.test_table_write.Goals as goal

pub returns : goal.returns
returns c =
    record {
      table_after = c.write.ensures.table_after;
      answer_after = rw (← c.write.ensures.result_value) c.store_count.ensures;
    }
