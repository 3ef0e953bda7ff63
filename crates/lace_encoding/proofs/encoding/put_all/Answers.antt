-- FF leaves room for the units, so the writer of bytes is done.
use native.Mathlib.Omega.{arith}
use Rattle.lace_encoding.proofs.EncodeLaws.{all-counted, all-stored}
use Rattle.lace_encoding.proofs.encoding.put_all.Goals as goal

pub overflow_add-result : goal.overflow_add-result
overflow_add-result c =
    omega (arith, c.requires, all-counted c.args.units.now c.args.octets.now c.requires _ _ c.units_to_bytes-answer.ensures.result_value c.bytes_written.ensures)

pub returns : goal.returns
returns c =
    record {
      value = omega (arith, all-counted c.args.units.now c.args.octets.now c.requires _ _ c.units_to_bytes-answer.ensures.result_value c.bytes_written.ensures);
      octets_after = all-stored c.args.units.now c.args.octets.now c.requires _ c.units_to_bytes-answer.ensures.bytes_after;
    }
