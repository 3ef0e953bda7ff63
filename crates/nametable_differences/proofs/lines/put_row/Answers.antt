-- `lines::put_row` meets its contract, difference by difference.
use Rattle.basis.proofs.Stores.{stored-none}
use Rattle.report.specs.Lines.{other_word, text_word, respelled_word, only_word, left_word, right_word}
use Rattle.nametable_differences.specs.Report.{row_line}
use Rattle.nametable_differences.proofs.lines.put_row.Goals as goal

pub put_words-requires : goal.put_words-requires
unfolding row_line other_word respelled_word left_word right_word only_word text_word
put_words-requires c = rw c.in-OtherText.is at c.requires

pub put_words-requires-in-Respelled : goal.put_words-requires-in-Respelled
unfolding row_line other_word respelled_word left_word right_word only_word text_word
put_words-requires-in-Respelled c = rw c.in-Respelled.is at c.requires

pub put_words-requires-in-OnlyLeft : goal.put_words-requires-in-OnlyLeft
unfolding row_line other_word respelled_word left_word right_word only_word text_word
put_words-requires-in-OnlyLeft c = rw c.in-OnlyLeft.is at c.requires

pub put_words-requires-in-OnlyRight : goal.put_words-requires-in-OnlyRight
unfolding row_line other_word respelled_word left_word right_word only_word text_word
put_words-requires-in-OnlyRight c = rw c.in-OnlyRight.is at c.requires

pub returns-in-Same : goal.returns-in-Same
unfolding row_line other_word respelled_word left_word right_word only_word text_word
returns-in-Same c = rw c.in-Same.is (stored-none _ _)

pub returns-in-OtherText : goal.returns-in-OtherText
unfolding row_line other_word respelled_word left_word right_word only_word text_word
returns-in-OtherText c = rw c.in-OtherText.is c.put_words.ensures

pub returns-in-Respelled : goal.returns-in-Respelled
unfolding row_line other_word respelled_word left_word right_word only_word text_word
returns-in-Respelled c = rw c.in-Respelled.is c.put_words-in-Respelled.ensures

pub returns-in-OnlyLeft : goal.returns-in-OnlyLeft
unfolding row_line other_word respelled_word left_word right_word only_word text_word
returns-in-OnlyLeft c = rw c.in-OnlyLeft.is c.put_words-in-OnlyLeft.ensures

pub returns-in-OnlyRight : goal.returns-in-OnlyRight
unfolding row_line other_word respelled_word left_word right_word only_word text_word
returns-in-OnlyRight c = rw c.in-OnlyRight.is c.put_words-in-OnlyRight.ensures
