-- The prefix leaves room for the characters, so the Base32 writer is done.
use Prim.Native.Nat.{ℕ, ◌+◌}
use mathlib.Core.Path.{ap}
use native.Mathlib.Omega.{arith}
use Rattle.lace_encoding.proofs.EncodeLaws.{label-counted, label-stored}
use Rattle.lace_encoding.proofs.encoding.put_label.Goals as goal

pub overflow_add-count : goal.overflow_add-count
overflow_add-count c =
    omega (arith, c.requires, label-counted c.args.octets.now c.args.label.now _ c.requires c.put_prefix.ensures _ _ c.encode-answer.ensures.result_value c.bytes_written-count.ensures)

pub returns : goal.returns
returns c =
    record {
      value = ap (λ (n : ℕ). 4 + n) (label-counted c.args.octets.now c.args.label.now _ c.requires c.put_prefix.ensures _ _ c.encode-answer.ensures.result_value c.bytes_written-count.ensures);
      label_after = label-stored c.args.octets.now c.args.label.now _ c.requires c.put_prefix.ensures _ c.encode-answer.ensures.characters_after;
    }
