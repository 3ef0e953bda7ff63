-- `lines::put_side_refused_line` meets its contract.
use mathlib.Core.Path.{refl}
use native.Mathlib.Omega.{arith}
use lib.ListN.{length-set}
use Rattle.report.specs.Lines.{side_refused_line}
use Rattle.report.proofs.LineLaws.{side-refused-length, stored-spaced}
use Rattle.report.proofs.lines.put_side_refused_line.Goals as goal

pub put_bytes-after_side-requires : goal.put_bytes-after_side-requires
put_bytes-after_side-requires c =
    let a = c.args in
    omega (arith, side-refused-length a.side.now a.code a.position)

pub bounds-out-after_side : goal.bounds-out-after_side
bounds-out-after_side c =
    let e = c.put_bytes-after_side.ensures in
    let a = c.args in
    omega (arith, side-refused-length a.side.now a.code a.position, e.count, e.long)

pub put_refused_at_line-requires : goal.put_refused_at_line-requires
put_refused_at_line-requires c =
    let e = c.put_bytes-after_side.ensures in
    let a = c.args in
    rw length-set (omega (arith, side-refused-length a.side.now a.code a.position, e.count, e.long))

pub returns : goal.returns
unfolding side_refused_line
returns c = stored-spaced _ c.put_bytes-after_side.ensures c.put_refused_at_line.ensures refl refl
