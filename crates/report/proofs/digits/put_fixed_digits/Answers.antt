-- `digits::put_fixed_digits` meets its contract: the digits of what is left are still to be stored, below index j.
use mathlib.Core.Path.{◌∙◌}
use native.Mathlib.Omega.{arith}
use native.Mathlib.Nat.{mod-lt}
use Rattle.report.proofs.DigitLaws.{put_all, put_last, put-end}
use Rattle.report.proofs.digits.put_fixed_digits.Goals as goal

pub loop-j-init : goal.loop-j-init
loop-j-init c = put_all _ _ _ _ _

pub digit_character-requires : goal.digit_character-requires
digit_character-requires c = omega (arith, mod-lt c.loop-j.left {m = c.args.base} (omega arith))

pub loop-j-preserved : goal.loop-j-preserved
loop-j-preserved c = put_last _ _ _ _ _ _ c.loop-j-test.true c.digit_character.ensures ∙ c.loop-j.invariant

pub returns : goal.returns
returns c = put-end _ _ _ _ _ _ _ _ c.loop-j-test.false c.loop-j.invariant
