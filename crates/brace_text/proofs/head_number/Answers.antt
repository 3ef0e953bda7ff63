-- The quintets before `i` are in the number, and a body that is shorter has no more.
use Rattle.brace_text.proofs.Head.{counted_start, counted-turn, counted-all}
use Rattle.brace_text.proofs.head_number.Goals as goal

pub loop-byte-init : goal.loop-byte-init
loop-byte-init c = counted_start _

pub loop-byte-preserved : goal.loop-byte-preserved
loop-byte-preserved c =
    counted-turn c.loop-byte.invariant c.loop-byte-test.true _ c.quintet_of.ensures.value c.quintet_of.ensures.upper_bound

pub returns : goal.returns
returns c = counted-all c.loop-byte.invariant c.loop-byte-test.false
