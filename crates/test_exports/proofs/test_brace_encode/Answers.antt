-- `test_brace_encode` meets its contract: the function does, and its answer is stored.
use Rattle.test_exports.proofs.test_brace_encode.Goals as goal

pub returns : goal.returns
returns c =
    record {
      label_after = c.encode.ensures.label_after;
      answer_after = rw (← c.encode.ensures.result_value) c.store_count.ensures;
    }
