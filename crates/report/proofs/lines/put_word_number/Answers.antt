-- `lines::put_word_number` meets its contract.
use mathlib.Core.Path.{refl}
use native.Mathlib.Omega.{arith}
use lib.ListN.{length-set}
use Rattle.report.specs.Lines.{word_number}
use Rattle.report.proofs.LineLaws.{word-number-length, stored-spaced}
use Rattle.report.proofs.lines.put_word_number.Goals as goal

pub put_bytes-after_word-requires : goal.put_bytes-after_word-requires
put_bytes-after_word-requires c =
    let a = c.args in
    omega (arith, word-number-length a.word.now a.number)

pub bounds-out-after_word : goal.bounds-out-after_word
bounds-out-after_word c =
    let e = c.put_bytes-after_word.ensures in
    let a = c.args in
    omega (arith, word-number-length a.word.now a.number, e.count, e.long)

pub put_digits-requires : goal.put_digits-requires
put_digits-requires c =
    let e = c.put_bytes-after_word.ensures in
    let a = c.args in
    let l = word-number-length a.word.now a.number in
    record {
      le_base = omega arith;
      base_bound = omega arith;
      least_bound = omega arith;
      number_in_bounds = rw length-set (omega (arith, l, e.count, e.long));
    }

pub returns : goal.returns
unfolding word_number
returns c = stored-spaced _ c.put_bytes-after_word.ensures c.put_digits.ensures refl refl
