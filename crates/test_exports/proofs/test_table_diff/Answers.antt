-- `test_table_diff` meets its contract: the function does, and its answer is stored.
use Rattle.test_exports.proofs.test_table_diff.Goals as goal

pub returns : goal.returns
returns c =
    record {
      sheet_after = c.write_report.ensures.report_after;
      answer_after = rw (← c.write_report.ensures.result_value) c.store_count.ensures;
    }
