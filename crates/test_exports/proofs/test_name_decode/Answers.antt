-- `test_name_decode` meets its contract: the function does, and its answer is stored.
use Rattle.test_exports.proofs.test_name_decode.Goals as goal

pub returns : goal.returns
returns c =
    record {
      text_after = c.decode.ensures.text_after;
      answer_after = rw (← c.decode.ensures.result_value) c.store_count.ensures;
    }
