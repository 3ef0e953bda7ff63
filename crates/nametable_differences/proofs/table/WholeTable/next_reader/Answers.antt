-- `WholeTable::next_reader` meets its contract: the entry is inside the table if its index is below the count.
use mathlib.Core.Path.{sym, ◌∙◌}
use native.Mathlib.Omega.{arith}
use Rattle.nametable.proofs.TableLaws.{read_table}
use Rattle.nametable_differences.proofs.ReaderLaws.{next_past, next-read}
use Rattle.nametable_differences.proofs.table.WholeTable.next_reader.Goals as goal

pub returns-then-entry_count-index : goal.returns-then-entry_count-index
returns-then-entry_count-index c =
    let e = c.entry_count.ensures in
    record {
      value = (sym (next_past _ _ (omega (arith, e))), omega arith);
      upper_bound = λ h. absurd (omega (arith, e));
    }

-- an index below the count is small
pub overflow_mul-index : goal.overflow_mul-index
overflow_mul-index c =
    let w = read_table _ _ c.args.self.now.whole in
    omega (arith, w.few, c.entry_count.ensures)

pub overflow_add-index : goal.overflow_add-index
overflow_add-index c = let w = read_table _ _ c.args.self.now.whole in omega (arith, w.few, c.entry_count.ensures)

pub overflow_add-index-2 : goal.overflow_add-index-2
overflow_add-index-2 c = let w = read_table _ _ c.args.self.now.whole in omega (arith, w.few, c.entry_count.ensures)

pub number_at-requires : goal.number_at-requires
number_at-requires c =
    let w = read_table _ _ c.args.self.now.whole in
    omega (arith, w.long, c.entry_count.ensures)

pub returns : goal.returns
returns c =
    let n = c.number_at.ensures in
    record {
      value = (n.0 ∙ next-read _ _ (omega (arith, c.entry_count.ensures)), omega (arith, n.1));
      upper_bound = λ h. n.1;
    }
