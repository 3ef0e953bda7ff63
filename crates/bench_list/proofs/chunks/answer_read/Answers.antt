-- `chunks::answer_read` meets its contract: the bytes that were got are answered, or reading is over as the answer says.
use mathlib.Core.Path.{refl}
use native.Mathlib.Omega.{arith}
use Rattle.streams.proofs.Counting.{counts, got-some}
use Rattle.bench_list.proofs.Answering.{answer-is}
use Rattle.bench_list.specs.Turns.{TurnLeaves, over}
use Rattle.bench_list.proofs.chunks.answer_read.Goals as goal

pub slice_bounds-answer_chunk-end : goal.slice_bounds-answer_chunk-end
slice_bounds-answer_chunk-end c = (counts _ c.args.chunk.now (got-some _ _ _ c.requires.read_fits (answer-is c.in-Ok-Some.is (rw c.in-Ok-Some.is at c.in-Ok-Some.field-0-is))).1).1

pub answer_chunk-requires : goal.answer_chunk-requires
answer_chunk-requires c =
    let few = (got-some _ _ _ c.requires.read_fits (answer-is c.in-Ok-Some.is (rw c.in-Ok-Some.is at c.in-Ok-Some.field-0-is))).1 in
    record {
      held_in_bounds = c.requires.held_in_bounds;
      chunk_in_bounds = omega (arith, c.requires.chunk_in_bounds, few, ((counts _ c.args.chunk.now (got-some _ _ _ c.requires.read_fits (answer-is c.in-Ok-Some.is (rw c.in-Ok-Some.is at c.in-Ok-Some.field-0-is))).1).1));
    }

pub returns-in-Err : goal.returns-in-Err
unfolding TurnLeaves over
returns-in-Err c = (c.in-Err.is, (refl, refl))

pub returns-in-Ok-None : goal.returns-in-Ok-None
unfolding TurnLeaves over
returns-in-Ok-None c = (answer-is c.in-Ok-None.is (rw c.in-Ok-None.is at c.in-Ok-None.field-0-is), (refl, refl))

pub returns-in-Ok-Some : goal.returns-in-Ok-Some
unfolding TurnLeaves
returns-in-Ok-Some c = (c.in-Ok-Some.n, answer-is c.in-Ok-Some.is (rw c.in-Ok-Some.is at c.in-Ok-Some.field-0-is), c.answer_chunk.ensures)
