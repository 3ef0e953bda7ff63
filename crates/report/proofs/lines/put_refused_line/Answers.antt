-- `lines::put_refused_line` meets its contract.
use native.Mathlib.Omega.{arith}
use Rattle.report.specs.Lines.{refused_word, refused_number, refused_line}
use Rattle.basis.proofs.Stores.{stored-append, stored_one}
use Rattle.report.proofs.LineLaws.{word-number-length, word-number-next, number-length, refused-length}
use Rattle.report.proofs.lines.put_refused_line.Goals as goal

pub put_word_number-end-requires : goal.put_word_number-end-requires
put_word_number-end-requires c =
    let code = c.args.code in
    rw word-number-length (omega (arith, refused-length code, number-length code))

pub bounds-out-end : goal.bounds-out-end
bounds-out-end c =
    let e = c.put_word_number-end.ensures in
    let code = c.args.code in
    omega (arith, refused-length code, number-length code, word-number-next _ _ e, e.long)

pub overflow_add-result : goal.overflow_add-result
overflow_add-result c =
    let e = c.put_word_number-end.ensures in
    let code = c.args.code in
    omega (arith, refused-length code, number-length code, word-number-next _ _ e, e.long)

pub returns : goal.returns
unfolding refused_line refused_number refused_word
returns c = stored-append c.put_word_number-end.ensures (stored_one _ _ 10)
