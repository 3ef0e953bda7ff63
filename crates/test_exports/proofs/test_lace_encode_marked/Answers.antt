-- `test_lace_encode_marked` meets its contract: the function does, and its answer is stored.
use Rattle.test_exports.proofs.test_lace_encode_marked.Goals as goal

pub returns : goal.returns
returns c =
    record {
      label_after = c.encode_marked.ensures.label_after;
      answer_after = rw (← c.encode_marked.ensures.result_value) c.store_count.ensures;
    }
