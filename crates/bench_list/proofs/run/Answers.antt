-- `run` meets its contract: what is held lies within the line, and what is printed is in front of the output.
use mathlib.Core.Path.{sym}
use native.Mathlib.Omega.{arith}
use lib.Seq.{length-take-le}
use borrow.Author.Rules.{rules}
use Rattle.bench_list.proofs.Answering.{turn-answered, written-fits, written-long, held_fits}
use Rattle.bench_list.proofs.run.Goals as goal

pub answer_read-requires : goal.answer_read-requires
answer_read-requires g c =
    record {
      read_fits = rw (sym c.read-answer.auto.buffer) at c.read-answer.ensures.fits;
      held_in_bounds = c.loop.invariant.0;
      chunk_in_bounds = search rules;
    }

pub slice_bounds-print_last-end-in-Break : goal.slice_bounds-print_last-end-in-Break
slice_bounds-print_last-end-in-Break g c = sym (length-take-le _ _ (omega arith))

pub slice_bounds-print-end : goal.slice_bounds-print-end
slice_bounds-print-end g c = written-fits ((turn-answered _ _ _ _ _ _ _ _ _ c.answer_read.ensures c.in-Continue.is).1)

pub slice_bounds-print-end-in-Continue : goal.slice_bounds-print-end-in-Continue
slice_bounds-print-end-in-Continue g c = written-long ((turn-answered _ _ _ _ _ _ _ _ _ c.answer_read.ensures c.in-Continue.is).1)

pub loop-preserved : goal.loop-preserved
loop-preserved g c =
    let fits = held_fits ((turn-answered _ _ _ _ _ _ _ _ _ c.answer_read.ensures c.in-Continue.is).1) in
    (fits, search rules, search rules, search rules)
