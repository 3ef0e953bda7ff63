-- `lines::counts_length` meets its contract.
use native.Mathlib.Omega.{arith}
use Rattle.report.proofs.LineLaws.{counts-length}
use Rattle.report.proofs.lines.counts_length.Goals as goal

pub returns : goal.returns
returns c =
    let a = c.args in
    omega (arith, counts-length a.counts.same a.counts.other a.counts.respelled a.counts.left a.counts.right)
