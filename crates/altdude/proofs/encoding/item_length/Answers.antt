-- `encoding::item_length` meets its contract.
use mathlib.Core.Path.{sym, ap, ◌∙◌}
use native.Mathlib.Omega.{arith}
use lib.Bits.{xor_lt}
use lib.ListN.{length}
use Rattle.altdude.proofs.EncodeLaws.{hyphen-length, item-group, group-short}
use Rattle.altdude.proofs.encoding.item_length.Goals as goal

pub returns-then-point-eq45 : goal.returns-then-point-eq45
returns-then-point-eq45 c =
    record {
      value = sym (hyphen-length _ _ c.if-point-eq45.true);
      upper_bound = omega arith;
    }

pub returns : goal.returns
returns c =
    record {
      value = c.group_length.ensures ∙ ap length (sym (item-group _ _ c.if-point-eq45.false));
      upper_bound = rw c.group_length.ensures (group-short _ (xor_lt 32 _ _ c.ranges.point.fits c.ranges.remembered.fits));
    }
