-- `lines::put_list_line` meets its contract.
use native.Mathlib.Omega.{arith}
use Rattle.report.specs.Lines.{list_line}
use Rattle.basis.proofs.Stores.{stored-append}
use Rattle.report.proofs.DigitLaws.{fixed-length}
use Rattle.report.proofs.LineLaws.{list-line-length}
use Rattle.report.proofs.lines.put_list_line.Goals as goal

pub put_fixed_digits-after_reader-requires : goal.put_fixed_digits-after_reader-requires
put_fixed_digits-after_reader-requires c =
    let a = c.args in
    record {
      le_base = omega arith;
      base_bound = omega arith;
      count_in_bounds = omega (arith, list-line-length a.reader a.letter a.points.now);
    }

pub put_bytes-after_letter-requires : goal.put_bytes-after_letter-requires
put_bytes-after_letter-requires c =
    let a = c.args in
    let e = c.put_fixed_digits-after_reader.ensures in
    omega (arith, list-line-length a.reader a.letter a.points.now, fixed-length 10 5 a.reader, e.count, e.long)

pub put_points_line-requires : goal.put_points_line-requires
put_points_line-requires c =
    let a = c.args in
    let e = c.put_fixed_digits-after_reader.ensures in
    let f = c.put_bytes-after_letter.ensures in
    omega (arith, list-line-length a.reader a.letter a.points.now, fixed-length 10 5 a.reader, e.count, e.long, f.count, f.long)

pub returns : goal.returns
unfolding list_line
returns c =
    stored-append c.put_fixed_digits-after_reader.ensures (stored-append c.put_bytes-after_letter.ensures c.put_points_line.ensures)
