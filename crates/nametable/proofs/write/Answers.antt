-- `write` meets its contract: that of `nametable_write`'s.
use Rattle.nametable.proofs.write.Goals as goal

pub returns : goal.returns
returns c =
    record {
      result_value = c.write.ensures.result_value;
      table_after = c.write.ensures.table_after;
    }
