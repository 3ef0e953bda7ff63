-- `test_name_encode` meets its contract: the function does, and its answer is stored.
use Rattle.test_exports.proofs.test_name_encode.Goals as goal

pub returns : goal.returns
returns c =
    record {
      name_after = c.encode.ensures.name_after;
      answer_after = rw (← c.encode.ensures.result_value) c.store_count.ensures;
    }
