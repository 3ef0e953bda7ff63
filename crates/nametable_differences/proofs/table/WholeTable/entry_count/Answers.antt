-- `WholeTable::entry_count` meets its contract: a whole table has as many bytes as its count asks.
use native.Mathlib.Omega.{arith}
use Rattle.nametable.proofs.TableLaws.{read_table}
use Rattle.nametable_differences.proofs.table.WholeTable.entry_count.Goals as goal

pub overflow_sub-result : goal.overflow_sub-result
overflow_sub-result c = omega (arith, (read_table _ _ c.args.self.now.whole).long)

pub returns : goal.returns
returns c = omega (arith, (read_table _ _ c.args.self.now.whole).long)
