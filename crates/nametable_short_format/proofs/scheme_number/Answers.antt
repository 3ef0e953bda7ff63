-- `scheme_number` meets its contract, by what the kind names; the numbers of schemes are bytes.
use Prim.Native.Nat.{◌<◌}
use mathlib.Core.Path.{ap, ◌∙◌}
use native.Mathlib.Omega.{arith}
use Rattle.scheme.specs.Naming.{number_of, scheme_named}
use Rattle.scheme.proofs.Naming.{number_small}
use Rattle.nametable_format.proofs.Schemes.{named-or-lace}
use Rattle.nametable_short_format.proofs.scheme_number.Goals as goal

pub overflow_cast-result : goal.overflow_cast-result
overflow_cast-result c = let small : c.number.result < 256 = rw c.number.ensures (number_small _) in omega (arith, small)

pub returns : goal.returns
returns c = c.number.ensures ∙ ap number_of (c.unwrap_or.ensures ∙ named-or-lace _ ∙ ap scheme_named c.of_kind.ensures)
