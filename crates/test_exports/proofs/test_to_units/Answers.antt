-- `test_to_units` meets its contract: the function does, and its answer is stored.
use Rattle.test_exports.proofs.test_to_units.Goals as goal

pub returns : goal.returns
returns c =
    record {
      units_after = c.to_units.ensures.units_after;
      answer_after = rw (← c.to_units.ensures.result_value) c.store_count.ensures;
    }
