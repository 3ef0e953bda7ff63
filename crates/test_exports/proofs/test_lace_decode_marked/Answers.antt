-- `test_lace_decode_marked` meets its contract: the function does, and its answer is stored.
use Rattle.test_exports.proofs.test_lace_decode_marked.Goals as goal

pub returns : goal.returns
returns c =
    record {
      text_after = c.decode_marked.ensures.text_after;
      marks_after = c.decode_marked.ensures.marks_after;
      answer_after = rw (← c.decode_marked.ensures.result_value) c.store_count.ensures;
    }
