-- `entries::start_of` meets its contract: the entry at index i begins at start.
use Rattle.nametable_short_read.specs.Internal.{BeginsAt}
use Rattle.nametable_short_read.proofs.entries.start_of.Given as goal

abbrev pub invariant-loop-i : goal.invariant-loop-i
invariant-loop-i l = BeginsAt l.table l._i l.start
