-- `quintets::bits_ahead` meets its contract: the walk passes LDH, and the first code answers.
use Prim.Native.Nat.{◌-◌}
use mathlib.Core.Path.{refl}
use native.Mathlib.Omega.{arith}
use lib.Pow.{shr_le}
use Rattle.brace_symbols.proofs.Codes.{width-over, width-under, found-code, passed-ldh, found_none}
use Rattle.brace_symbols.proofs.quintets.bits_ahead.Goals as goal

pub loop-unit-init : goal.loop-unit-init
loop-unit-init c = record { same = refl }

pub overflow_cast-unit : goal.overflow_cast-unit
overflow_cast-unit c = omega (arith, c.type_inv.units c.loop-unit.unit-index)

pub overflow_sub-left : goal.overflow_sub-left
overflow_sub-left c = width-over _ _ _ _ c.width.ensures c.requires

pub overflow_shr-result : goal.overflow_shr-result
overflow_shr-result c = width-under _ _ _ _ c.width.ensures

pub returns-then-not-is_ldh : goal.returns-then-not-is_ldh
returns-then-not-is_ldh c =
    record {
      value = found-code c.loop-unit.invariant c.loop-unit-test.true _ c.is_ldh.ensures c.if-not-is_ldh.true-raw _ _ c.width.ensures c.code.ensures.value;
      upper_bound = omega (arith, shr_le c.code.result (c.width.result - c.args.k), c.code.ensures.upper_bound);
    }

pub loop-unit-preserved : goal.loop-unit-preserved
loop-unit-preserved c = passed-ldh c.loop-unit.invariant c.loop-unit-test.true _ c.is_ldh.ensures c.if-not-is_ldh.false-raw

pub returns : goal.returns
returns c =
    record {
      value = found_none c.loop-unit.invariant c.loop-unit-test.false;
      upper_bound = omega arith;
    }
