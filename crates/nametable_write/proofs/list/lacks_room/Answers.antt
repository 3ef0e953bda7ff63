-- `list::lacks_room` meets its contract: so many entries fit exactly if the quotient holds them.
use mathlib.Core.Path.{sym}
use native.Mathlib.Omega.{arith}
use borrow.Author.Tests.{lt-ltb}
use Rattle.nametable_format.specs.Format.{table_length}
use Rattle.nametable_write.proofs.ListLaws.{room-by-quotient}
use Rattle.nametable_write.proofs.list.lacks_room.Goals as goal

pub returns-then-bytes-lt-HEADER_LENGTH : goal.returns-then-bytes-lt-HEADER_LENGTH
returns-then-bytes-lt-HEADER_LENGTH c = sym (lt-ltb _ (table_length c.args.count) (omega arith))

pub returns : goal.returns
returns c = room-by-quotient c.args.bytes c.args.count c.if-bytes-lt-HEADER_LENGTH.false
