-- `rows::counted` meets its contract, difference by difference.
use native.Mathlib.Omega.{arith}
use Rattle.nametable_differences.specs.Report.{rank_of, same_difference, one_if}
use Rattle.nametable_differences.proofs.rows.counted.Goals as goal

pub returns-in-Same : goal.returns-in-Same
unfolding rank_of same_difference one_if
returns-in-Same c =
    rw c.in-Same.is (record { same = omega arith; other = omega arith; respelled = omega arith; left = omega arith; right = omega arith })

pub returns-in-OtherText : goal.returns-in-OtherText
unfolding rank_of same_difference one_if
returns-in-OtherText c =
    rw c.in-OtherText.is (record { same = omega arith; other = omega arith; respelled = omega arith; left = omega arith; right = omega arith })

pub returns-in-Respelled : goal.returns-in-Respelled
unfolding rank_of same_difference one_if
returns-in-Respelled c =
    rw c.in-Respelled.is (record { same = omega arith; other = omega arith; respelled = omega arith; left = omega arith; right = omega arith })

pub returns-in-OnlyLeft : goal.returns-in-OnlyLeft
unfolding rank_of same_difference one_if
returns-in-OnlyLeft c =
    rw c.in-OnlyLeft.is (record { same = omega arith; other = omega arith; respelled = omega arith; left = omega arith; right = omega arith })

pub returns-in-OnlyRight : goal.returns-in-OnlyRight
unfolding rank_of same_difference one_if
returns-in-OnlyRight c =
    rw c.in-OnlyRight.is (record { same = omega arith; other = omega arith; respelled = omega arith; left = omega arith; right = omega arith })
