-- `listing::put_entries` meets its contract: the lines of the first `i` entries are at the front of
-- the output.
use Rattle.nametable_list.proofs.AllLines.{Listed}
use Rattle.nametable_list.proofs.listing.put_entries.Given as goal

abbrev pub invariant-loop-i : goal.invariant-loop-i
invariant-loop-i l = Listed l.table l.total l.initial.out l.out l.at l.i
