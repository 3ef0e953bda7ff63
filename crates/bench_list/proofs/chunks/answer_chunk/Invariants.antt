-- `chunks::answer_chunk` meets its contract: the lines before `from` are answered, the run over what is left is to come.
use Prim.Native.Nat.{◌-◌}
use lib.ListN.{length, take}
use Rattle.bench_list.proofs.Answering.{Answering}
use Rattle.bench_list.proofs.chunks.answer_chunk.Given as goal

abbrev pub invariant-loop-from : goal.invariant-loop-from
invariant-loop-from l = Answering (length l.initial.line) (take l.held l.initial.line) l.chunk l.initial.out l.out l.at l.line l.kept l.from

abbrev pub decreases-loop-from : goal.decreases-loop-from
decreases-loop-from l = length l.chunk - l.from
