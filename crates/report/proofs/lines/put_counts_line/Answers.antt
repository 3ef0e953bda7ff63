-- `lines::put_counts_line` meets its contract.
use native.Mathlib.Omega.{arith}
use Rattle.report.specs.Lines.{same_word, other_word, respelled_word, left_word, right_word}
use Rattle.report.proofs.LineLaws.{word-number-length, word-number-next, counts-length, stored-counts}
use Rattle.report.proofs.lines.put_counts_line.Goals as goal

pub put_word_number-after_same-requires : goal.put_word_number-after_same-requires
put_word_number-after_same-requires c =
    let a = c.args in
    rw word-number-length (omega (arith, counts-length a.counts.same a.counts.other a.counts.respelled a.counts.left a.counts.right))

pub put_word_number-after_other-requires : goal.put_word_number-after_other-requires
put_word_number-after_other-requires c =
    let a = c.args in
    let e = c.put_word_number-after_same.ensures in
    rw word-number-length (omega (arith, counts-length a.counts.same a.counts.other a.counts.respelled a.counts.left a.counts.right, word-number-next _ _ e, e.long))

pub put_word_number-after_respelled-requires : goal.put_word_number-after_respelled-requires
put_word_number-after_respelled-requires c =
    let a = c.args in
    let e = c.put_word_number-after_same.ensures in
    let f = c.put_word_number-after_other.ensures in
    rw word-number-length (omega (arith, counts-length a.counts.same a.counts.other a.counts.respelled a.counts.left a.counts.right, word-number-next _ _ e, e.long, word-number-next _ _ f, f.long))

pub put_word_number-after_left-requires : goal.put_word_number-after_left-requires
put_word_number-after_left-requires c =
    let a = c.args in
    let e = c.put_word_number-after_same.ensures in
    let f = c.put_word_number-after_other.ensures in
    let g = c.put_word_number-after_respelled.ensures in
    rw word-number-length (omega (arith, counts-length a.counts.same a.counts.other a.counts.respelled a.counts.left a.counts.right, word-number-next _ _ e, e.long, word-number-next _ _ f, f.long, word-number-next _ _ g, g.long))

pub put_word_number-after_right-requires : goal.put_word_number-after_right-requires
put_word_number-after_right-requires c =
    let a = c.args in
    let e = c.put_word_number-after_same.ensures in
    let f = c.put_word_number-after_other.ensures in
    let g = c.put_word_number-after_respelled.ensures in
    let h = c.put_word_number-after_left.ensures in
    rw word-number-length (omega (arith, counts-length a.counts.same a.counts.other a.counts.respelled a.counts.left a.counts.right, word-number-next _ _ e, e.long, word-number-next _ _ f, f.long, word-number-next _ _ g, g.long, word-number-next _ _ h, h.long))

pub bounds-out-after_right : goal.bounds-out-after_right
bounds-out-after_right c =
    let a = c.args in
    let e = c.put_word_number-after_same.ensures in
    let f = c.put_word_number-after_other.ensures in
    let g = c.put_word_number-after_respelled.ensures in
    let h = c.put_word_number-after_left.ensures in
    let i = c.put_word_number-after_right.ensures in
    omega (arith, counts-length a.counts.same a.counts.other a.counts.respelled a.counts.left a.counts.right, word-number-next _ _ e, e.long, word-number-next _ _ f, f.long, word-number-next _ _ g, g.long, word-number-next _ _ h, h.long, word-number-next _ _ i, i.long)

pub overflow_add-result : goal.overflow_add-result
overflow_add-result c =
    let a = c.args in
    let e = c.put_word_number-after_same.ensures in
    let f = c.put_word_number-after_other.ensures in
    let g = c.put_word_number-after_respelled.ensures in
    let h = c.put_word_number-after_left.ensures in
    let i = c.put_word_number-after_right.ensures in
    omega (arith, counts-length a.counts.same a.counts.other a.counts.respelled a.counts.left a.counts.right, word-number-next _ _ e, e.long, word-number-next _ _ f, f.long, word-number-next _ _ g, g.long, word-number-next _ _ h, h.long, word-number-next _ _ i, i.long)

pub returns : goal.returns
unfolding same_word other_word respelled_word left_word right_word
returns c =
    let a = c.args in
    stored-counts a.counts.same a.counts.other a.counts.respelled a.counts.left a.counts.right c.put_word_number-after_same.ensures c.put_word_number-after_other.ensures
    c.put_word_number-after_respelled.ensures c.put_word_number-after_left.ensures c.put_word_number-after_right.ensures
