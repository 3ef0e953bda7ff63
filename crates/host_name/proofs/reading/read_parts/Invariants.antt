-- `reading::read_parts` meets its contract: label by label.
use Rattle.host_name.proofs.Turns.{Reading}
use Rattle.host_name.proofs.reading.read_parts.Given as goal

abbrev pub invariant-loop-index : goal.invariant-loop-index
invariant-loop-index l = Reading goal.iterator-loop-index.next_gives l.name l.initial.made l.made l.at l.index-iterator
