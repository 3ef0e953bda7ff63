-- The quintets before `i` are in the number, and a body that is shorter has no more.
use Rattle.brace_text.proofs.Head.{Counted}
use Rattle.brace_text.proofs.head_number.Given as goal

abbrev pub invariant-loop-byte : goal.invariant-loop-byte
invariant-loop-byte l = Counted l.head l.number l.byte-index
