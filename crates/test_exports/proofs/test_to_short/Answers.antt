-- `test_to_short` meets its contract: the function does, and its answer is stored.
use Rattle.test_exports.proofs.test_to_short.Goals as goal

pub returns : goal.returns
returns c =
    record {
      short_after = c.to_short.ensures.short_after;
      answer_after = rw (← c.to_short.ensures.result_value) c.store_count.ensures;
    }
