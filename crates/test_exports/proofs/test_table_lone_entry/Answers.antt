-- `test_table_lone_entry` meets its contract: the function does, and its answer is stored.
use Rattle.test_exports.proofs.test_table_lone_entry.Goals as goal

pub returns : goal.returns
returns c =
    record {
      text_after = c.lone_entry.ensures.text_after;
      answer_after = rw (← c.lone_entry.ensures.result_value) c.store_entry.ensures;
    }
