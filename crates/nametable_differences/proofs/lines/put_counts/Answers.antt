-- `lines::put_counts` meets its contract: the line has room, so it is written whole.
use Prim.Native.Nat.{◌-◌}
use mathlib.Core.Path.{refl}
use lib.ListN.{length, take, drop}
use native.Mathlib.Omega.{arith}
use Rattle.report.specs.Lines.{counts_line}
use Rattle.report.proofs.LineLaws.{line-written}
use Rattle.nametable_differences.proofs.LineLaws.{stored-behind, behind-fits}
use Rattle.nametable_differences.proofs.lines.put_counts.Goals as goal

pub overflow_add-result : goal.overflow_add-result
overflow_add-result c =
    omega (arith, (let a = c.args in let n = a.counts in let line = counts_line n.same n.other n.respelled n.left n.right in let old = take (length a.out.now - a.at) (drop a.at a.out.now) in stored-behind a.out.now line _ a.at _ c.requires (line-written line old line refl (behind-fits a.out.now line a.at c.requires) _ _ (c.counts_line.ensures.result_value, c.counts_line.ensures.out_after) _ c.bytes_written.ensures)).count, c.requires)

pub returns : goal.returns
returns c =
    let a = c.args in
    let n = a.counts in
    let line = counts_line n.same n.other n.respelled n.left n.right in
    let old = take (length a.out.now - a.at) (drop a.at a.out.now) in
    stored-behind a.out.now line _ a.at _ c.requires
    (line-written line old line refl (behind-fits a.out.now line a.at c.requires) _ _ (c.counts_line.ensures.result_value, c.counts_line.ensures.out_after) _ c.bytes_written.ensures)
