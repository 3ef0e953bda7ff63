-- `next_line` meets its contract: the part before the line feed is kept.
use Rattle.std.proofs.Common.{rules}
use Rattle.basis.proofs.Clauses.{two_clauses}
use Rattle.lines.proofs.Stepping.{part-long, end-inside, takes}
use Rattle.lines.proofs.next_line.Goals as goal

pub slice_bounds-keep-end : goal.slice_bounds-keep-end
slice_bounds-keep-end c = part-long _ _ c.line_end-end.ensures

pub overflow_add-start : goal.overflow_add-start
overflow_add-start c =
    let inside = end-inside c.args.chunk.now _ c.min-start.result c.args.line.now _ _ c.min-start.ensures c.min.ensures _ c.line_end-end.ensures in
    search rules

pub overflow_add-start-2 : goal.overflow_add-start-2
overflow_add-start-2 c =
    let inside = end-inside c.args.chunk.now _ c.min-start.result c.args.line.now _ _ c.min-start.ensures c.min.ensures _ c.line_end-end.ensures in
    search rules

pub returns : goal.returns
returns c =
    let a = c.args in
    let kept = c.keep-kept.ensures in
    two_clauses (λ value after. record { value = value; line_after = after })
    (takes a.chunk.now a.from c.min-start.result a.line.now a.held _ c.min-start.ensures c.min.ensures _ c.line_end-end.ensures _ _ (kept.value, kept.line_after) _ c.then_some.ensures)
