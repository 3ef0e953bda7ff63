-- `digits::put_digits` meets its contract.
use Rattle.report.proofs.DigitLaws.{stored-digits}
use Rattle.report.proofs.digits.put_digits.Goals as goal

pub returns : goal.returns
returns c = stored-digits _ _ _ _ c.digits_length-count.ensures.value c.put_fixed_digits.ensures
