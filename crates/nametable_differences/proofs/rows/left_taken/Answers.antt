-- `rows::left_taken` meets its contract, difference by difference.
use Rattle.nametable_differences.specs.Internal.{left_taken}
use Rattle.nametable_differences.proofs.rows.left_taken.Goals as goal

pub returns-in-Same : goal.returns-in-Same
unfolding left_taken
returns-in-Same c = rw c.in-Same.is

pub returns-in-OtherText : goal.returns-in-OtherText
unfolding left_taken
returns-in-OtherText c = rw c.in-OtherText.is

pub returns-in-Respelled : goal.returns-in-Respelled
unfolding left_taken
returns-in-Respelled c = rw c.in-Respelled.is

pub returns-in-OnlyLeft : goal.returns-in-OnlyLeft
unfolding left_taken
returns-in-OnlyLeft c = rw c.in-OnlyLeft.is

pub returns-in-OnlyRight : goal.returns-in-OnlyRight
unfolding left_taken
returns-in-OnlyRight c = rw c.in-OnlyRight.is
