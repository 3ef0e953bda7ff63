-- `digits::digits_length` meets its contract.
use native.Mathlib.Omega.{arith}
use Rattle.report.proofs.DigitLaws.{digits-length, count-few}
use Rattle.report.proofs.digits.digits_length.Goals as goal

pub returns : goal.returns
returns c =
    let a = c.args in
    record {
      value = omega (arith, digits-length a.base a.least a.number);
      upper_bound = omega (arith, count-few a.base c.requires.le_base 64 a.number (omega arith));
    }
