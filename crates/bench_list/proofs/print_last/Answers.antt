-- `print_last` meets its contract: what is printed is in front of the output.
use Rattle.basis.proofs.Parts.{front_fits, front_long}
use Rattle.bench_list.specs.Listing.{bench_lines}
use Rattle.bench_list.proofs.print_last.Goals as goal

pub slice_bounds-print-end : goal.slice_bounds-print-end
slice_bounds-print-end g c = front_fits _ (bench_lines _) _ _ c.answer_last-n.ensures.value c.answer_last-n.ensures.out_after

pub slice_bounds-print-end-2 : goal.slice_bounds-print-end-2
slice_bounds-print-end-2 g c = front_long _ (bench_lines _) _ _ c.answer_last-n.ensures.value c.answer_last-n.ensures.out_after
