-- `lines::put_refused_at_line` meets its contract.
use native.Mathlib.Omega.{arith}
use Rattle.report.specs.Lines.{refused_word, at_word, refused_number, refused_at_line}
use Rattle.basis.proofs.Stores.{stored-append, stored_one}
use Rattle.report.proofs.LineLaws.{word-number-length, word-number-next, number-length, refused-at-length}
use Rattle.report.proofs.lines.put_refused_at_line.Goals as goal

pub put_word_number-after_number-requires : goal.put_word_number-after_number-requires
put_word_number-after_number-requires c =
    let a = c.args in
    rw word-number-length (omega (arith, refused-at-length a.code a.position, number-length a.code))

pub put_bytes-after_at-requires : goal.put_bytes-after_at-requires
put_bytes-after_at-requires c =
    let e = c.put_word_number-after_number.ensures in
    let a = c.args in
    omega (arith, refused-at-length a.code a.position, number-length a.code, word-number-next _ _ e, e.long)

pub put_digits-after_position-requires : goal.put_digits-after_position-requires
put_digits-after_position-requires c =
    let a = c.args in
    let e = c.put_word_number-after_number.ensures in
    let f = c.put_bytes-after_at.ensures in
    record {
      le_base = omega arith;
      base_bound = omega arith;
      least_bound = omega arith;
      number_in_bounds = omega (arith, refused-at-length a.code a.position, number-length a.code, word-number-next _ _ e, e.long, f.count, f.long);
    }

pub bounds-out-after_position : goal.bounds-out-after_position
bounds-out-after_position c =
    let a = c.args in
    let e = c.put_word_number-after_number.ensures in
    let f = c.put_bytes-after_at.ensures in
    let g = c.put_digits-after_position.ensures in
    omega (arith, refused-at-length a.code a.position, number-length a.code, word-number-next _ _ e, e.long, f.count, f.long, g.count, g.long)

pub overflow_add-result : goal.overflow_add-result
overflow_add-result c =
    let a = c.args in
    let e = c.put_word_number-after_number.ensures in
    let f = c.put_bytes-after_at.ensures in
    let g = c.put_digits-after_position.ensures in
    omega (arith, refused-at-length a.code a.position, number-length a.code, word-number-next _ _ e, e.long, f.count, f.long, g.count, g.long)

pub returns : goal.returns
unfolding refused_at_line refused_number refused_word at_word
returns c =
    stored-append c.put_word_number-after_number.ensures (stored-append c.put_bytes-after_at.ensures (stored-append c.put_digits-after_position.ensures (stored_one _ _ 10)))
