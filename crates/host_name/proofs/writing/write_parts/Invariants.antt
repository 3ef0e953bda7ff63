-- `writing::write_parts` meets its contract: part by part.
use Rattle.host_name.proofs.Turns.{Writing}
use Rattle.host_name.proofs.writing.write_parts.Given as goal

abbrev pub invariant-loop-index : goal.invariant-loop-index
invariant-loop-index l = Writing goal.iterator-loop-index.next_gives l.text l.initial.made l.made l.at l.index-iterator
