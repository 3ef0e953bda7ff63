-- `test_to_points` meets its contract: the function does, and its answer is stored.
use Rattle.test_exports.proofs.test_to_points.Goals as goal

pub returns : goal.returns
returns c =
    record {
      points_after = c.to_points.ensures.points_after;
      answer_after = rw (← c.to_points.ensures.result_value) c.store_count.ensures;
    }
