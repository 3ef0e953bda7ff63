-- `end_of` meets its contract: past the table, with the table, or as its kind says.
use native.Mathlib.Omega.{arith}
use Rattle.nametable_short_format.proofs.EntryLaws.{end-with-table, end-by-kind, end-past}
use Rattle.nametable_short_format.proofs.end_of.Goals as goal

pub returns-then-table-start : goal.returns-then-table-start
returns-then-table-start c = end-past c.args.table.now c.args.start c.if-table-start.true

pub returns-then-table-start-2 : goal.returns-then-table-start-2
returns-then-table-start-2 c =
    end-with-table c.args.table.now c.args.start c.byte_at.ensures c.room_of-length.ensures.0 c.if-table-start.false (omega arith)

pub returns : goal.returns
returns c =
    end-by-kind c.args.table.now c.args.start c.byte_at.ensures c.room_of-length.ensures.0 c.if-table-start.false (omega arith)
