-- `marking::raise_marked` meets its contract. What is left of the label with marks is still to be stored.
use Rattle.altdude.proofs.MarkLaws.{Raising}
use Rattle.altdude.proofs.marking.raise_marked.Given as goal

abbrev pub invariant-loop-byte : goal.invariant-loop-byte
invariant-loop-byte l = Raising l.marks l.initial.label l.label l.next l.byte-index
