-- `answers::store` meets its contract: a row that is too short, or five stores.
use native.Mathlib.Omega.{arith}
use lib.ListN.{length-set}
use Rattle.test_exports.proofs.Row.{row-left, row-stored}
use Rattle.test_exports.proofs.answers.store.Goals as goal

pub returns-then-row-lt5 : goal.returns-then-row-lt5
returns-then-row-lt5 c = row-left _ _ (omega arith)

pub bounds-row-1 : goal.bounds-row-1
bounds-row-1 c = simp length-set (omega arith)

pub bounds-row-2 : goal.bounds-row-2
bounds-row-2 c = simp length-set (omega arith)

pub bounds-row-3 : goal.bounds-row-3
bounds-row-3 c = simp length-set (omega arith)

pub returns : goal.returns
returns c = row-stored _ _ _ _ _ c.args.row.now (omega arith)
