-- `quintets::put_code` meets its contract: the code's bits and those ahead are one number, whose last quintets are stored.
use mathlib.Core.Path.{◌≡◌}
use native.Mathlib.Omega.{arith}
use Rattle.brace_symbols.specs.Encoding.{ahead}
use Rattle.brace_symbols.proofs.Codes.{shifted-le, code_is}
use Rattle.brace_symbols.proofs.quintets.put_code.Goals as goal

pub overflow_shl-value : goal.overflow_shl-value
overflow_shl-value c = omega (arith, c.spare_count-spare.ensures.upper_bound)

pub overflow_mul-value : goal.overflow_mul-value
overflow_mul-value c =
    omega (arith, shifted-le _ _ _ c.spare_count-spare.ensures.upper_bound c.spare_count-spare.ensures.value _ c.requires.k_bound.3)

pub overflow_add-value : goal.overflow_add-value
overflow_add-value c =
    omega (arith, shifted-le _ _ _ c.spare_count-spare.ensures.upper_bound c.spare_count-spare.ensures.value _ c.requires.k_bound.3, c.bits_ahead.ensures.upper_bound)

pub put_quintets-requires : goal.put_quintets-requires
put_quintets-requires c =
    record {
      n_bound = c.quintet_count.ensures.upper_bound;
      n_in_bounds = rw c.quintet_count.ensures.value c.requires.width_in_bounds;
    }

pub returns : goal.returns
returns c =
    let told : c.bits_ahead.result ≡ ahead c.args.style c.spare_count-spare.result c.args.next.now = c.bits_ahead.ensures.value in
    rw (code_is _ _ _ c.spare_count-spare.ensures.upper_bound c.spare_count-spare.ensures.value _ _ _ _ _ c.quintet_count.ensures.value told) c.put_quintets.ensures
