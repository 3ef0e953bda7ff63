-- `lines::put_difference_line` meets its contract.
use mathlib.Core.Path.{refl}
use native.Mathlib.Omega.{arith}
use lib.ListN.{length-set}
use Rattle.report.specs.Lines.{difference_line}
use Rattle.basis.proofs.Stores.{stored-append, stored_one}
use Rattle.report.proofs.DigitLaws.{fixed-length}
use Rattle.report.proofs.LineLaws.{difference-length, stored-spaced}
use Rattle.report.proofs.lines.put_difference_line.Goals as goal

pub put_fixed_digits-after_reader-requires : goal.put_fixed_digits-after_reader-requires
put_fixed_digits-after_reader-requires c =
    let a = c.args in
    record {
      le_base = omega arith;
      base_bound = omega arith;
      count_in_bounds = omega (arith, difference-length a.reader a.words.now);
    }

pub bounds-out-after_reader : goal.bounds-out-after_reader
bounds-out-after_reader c =
    let a = c.args in
    let e = c.put_fixed_digits-after_reader.ensures in
    omega (arith, difference-length a.reader a.words.now, fixed-length 10 5 a.reader, e.count, e.long)

pub overflow_add-after_reader : goal.overflow_add-after_reader
overflow_add-after_reader c =
    let a = c.args in
    let e = c.put_fixed_digits-after_reader.ensures in
    omega (arith, difference-length a.reader a.words.now, fixed-length 10 5 a.reader, e.count, e.long)

pub put_bytes-after_words-requires : goal.put_bytes-after_words-requires
put_bytes-after_words-requires c =
    let a = c.args in
    let e = c.put_fixed_digits-after_reader.ensures in
    rw length-set (omega (arith, difference-length a.reader a.words.now, fixed-length 10 5 a.reader, e.count, e.long))

pub bounds-out-after_words : goal.bounds-out-after_words
bounds-out-after_words c =
    let a = c.args in
    let e = c.put_fixed_digits-after_reader.ensures in
    let f = c.put_bytes-after_words.ensures in
    let long = rw length-set at f.long in
    omega (arith, difference-length a.reader a.words.now, fixed-length 10 5 a.reader, e.count, e.long, f.count, long)

pub overflow_add-result : goal.overflow_add-result
overflow_add-result c =
    let a = c.args in
    let e = c.put_fixed_digits-after_reader.ensures in
    let f = c.put_bytes-after_words.ensures in
    let long = rw length-set at f.long in
    omega (arith, difference-length a.reader a.words.now, fixed-length 10 5 a.reader, e.count, e.long, f.count, long)

pub returns : goal.returns
unfolding difference_line
returns c =
    stored-spaced _ c.put_fixed_digits-after_reader.ensures (stored-append c.put_bytes-after_words.ensures (stored_one _ _ 10)) refl refl
