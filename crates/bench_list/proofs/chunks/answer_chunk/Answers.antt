-- `chunks::answer_chunk` meets its contract: the lines before `from` are answered, the run over what is left is to come.
use native.Mathlib.Omega.{arith}
use Rattle.lines.proofs.Taken.{later, line-fits, line-long}
use Rattle.report.proofs.Filling.{at-fits, room-left}
use Rattle.bench_list.proofs.Answering.{answering-start, answering-end, answering-rest, answering-more}
use Rattle.bench_list.proofs.chunks.answer_chunk.Goals as goal

pub loop-from-init : goal.loop-from-init
loop-from-init c = answering-start _ _ _ _ c.requires.held_in_bounds

pub returns-in_default : goal.returns-in_default
returns-in_default c =
    answering-rest c.loop-from.invariant _ c.next_line-step.ensures.line_after _ c.next_line-step.ensures.value c.in_default.is

pub slice_bounds-answer_line-end : goal.slice_bounds-answer_line-end
slice_bounds-answer_line-end c =
    let l = c.loop-from in
    line-fits _ l.line l.kept _ _ c.next_line-step.ensures.line_after _ c.next_line-step.ensures.value

pub slice_bounds-answer_line-end-in-loop-from : goal.slice_bounds-answer_line-end-in-loop-from
slice_bounds-answer_line-end-in-loop-from c =
    let l = c.loop-from in
    line-long _ l.line l.kept _ _ c.next_line-step.ensures.line_after _ c.next_line-step.ensures.value

pub slice_bounds-answer_line-count : goal.slice_bounds-answer_line-count
slice_bounds-answer_line-count c = at-fits c.loop-from.invariant.filling c.requires.chunk_in_bounds

pub slice_bounds-answer_line-start : goal.slice_bounds-answer_line-start
slice_bounds-answer_line-start c = at-fits c.loop-from.invariant.filling c.requires.chunk_in_bounds

pub answer_line-at-requires : goal.answer_line-at-requires
answer_line-at-requires c = room-left c.loop-from.invariant.filling c.requires.chunk_in_bounds c.loop-from-test.true

pub overflow_add-at : goal.overflow_add-at
overflow_add-at c =
    let a = answering-more c.loop-from.invariant _ c.next_line-step.ensures.line_after _ c.next_line-step.ensures.value _ c.in-Some.is _ c.answer_line-at.ensures.out_after _ c.answer_line-at.ensures.value in
    record { fits = omega (arith, a.filling.room, a.filling.within, c.requires.chunk_in_bounds) }

pub loop-from-smaller : goal.loop-from-smaller
loop-from-smaller c =
    let l = c.loop-from in
    let n = later _ l.line l.kept _ _ c.next_line-step.ensures.line_after _ c.next_line-step.ensures.value _ c.in-Some.is in
    omega arith

pub loop-from-preserved : goal.loop-from-preserved
loop-from-preserved c =
    answering-more c.loop-from.invariant _ c.next_line-step.ensures.line_after _ c.next_line-step.ensures.value _ c.in-Some.is _ c.answer_line-at.ensures.out_after _ c.answer_line-at.ensures.value

pub returns : goal.returns
returns c = answering-end c.loop-from.invariant c.loop-from-test.false
