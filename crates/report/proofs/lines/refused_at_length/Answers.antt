-- `lines::refused_at_length` meets its contract.
use native.Mathlib.Omega.{arith}
use Rattle.report.proofs.LineLaws.{number-length, refused-at-length}
use Rattle.report.proofs.lines.refused_at_length.Goals as goal

pub returns : goal.returns
returns c =
    let a = c.args in
    record {
      value = omega (arith, refused-at-length a.code a.position, number-length a.code);
      upper_bound = omega arith;
    }
