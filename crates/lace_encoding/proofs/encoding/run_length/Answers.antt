-- The first unit of another high octet ends the run.
use Prim.Native.Nat.{◌/◌}
use mathlib.Core.Path.{◌∙◌}
use mathlib.Core.Bool.{not}
use lib.Dec.{eqb}
use native.Mathlib.Omega.{arith}
use borrow.Author.Tests.{tests}
use Rattle.std.proofs.Common.{rules}
use Rattle.std.proofs.lemmas.Iterator.{YieldsList-from_slice}
use Rattle.basis.proofs.Chains.{first_from_position}
use Rattle.lace_encoding.proofs.EncodeLaws.{high-first, high-few}
use Rattle.lace_encoding.proofs.encoding.run_length.Goals as goal

pub returns : goal.returns
returns c =
    let high = c.args.high in
    let is = c.unwrap_or.ensures ∙ first_from_position (λ u. not (eqb (u / 256) high)) _ _ _ c.position.ensures.ran (YieldsList-from_slice _ c.iter.ensures.rest) (λ x q k. search (rules, tests)) (λ x q k. search (rules, tests)) ∙ high-first high c.args.units.now in
    record {
      value = is;
      upper_bound = omega (arith, is, high-few high c.args.units.now);
    }
