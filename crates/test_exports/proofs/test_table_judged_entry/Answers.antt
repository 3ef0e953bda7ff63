-- `test_table_judged_entry` meets its contract: the function does, and its answer is stored.
use Rattle.test_exports.proofs.test_table_judged_entry.Goals as goal

pub returns : goal.returns
returns c =
    record {
      text_after = c.judged_entry.ensures.text_after;
      answer_after = rw (← c.judged_entry.ensures.result_value) c.store_entry.ensures;
    }
