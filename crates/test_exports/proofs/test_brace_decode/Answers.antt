-- `test_brace_decode` meets its contract: the function does, and its answer is stored.
use Rattle.test_exports.proofs.test_brace_decode.Goals as goal

pub returns : goal.returns
returns c =
    record {
      units_after = c.decode.ensures.units_after;
      answer_after = rw (← c.decode.ensures.result_value) c.store_count.ensures;
    }
