-- `test_table_entry` meets its contract: the function does, and its answer is stored.
use Rattle.test_exports.proofs.test_table_entry.Goals as goal

pub returns : goal.returns
returns c =
    record {
      text_after = c.entry.ensures.text_after;
      answer_after = rw (← c.entry.ensures.result_value) c.store_entry.ensures;
    }
