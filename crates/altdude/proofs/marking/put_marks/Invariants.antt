-- `marking::put_marks` meets its contract. What is left of the marks is still to be stored.
use Rattle.altdude.proofs.MarkLaws.{Showing}
use Rattle.altdude.proofs.marking.put_marks.Given as goal

abbrev pub invariant-loop-byte : goal.invariant-loop-byte
invariant-loop-byte l = Showing l.label l.initial.marks l.marks l.at l.byte-index
