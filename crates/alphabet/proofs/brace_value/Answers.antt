-- `brace_value` meets its contract: where AltDUDE's alphabet has a value, BRACE's is 8 more, modulo 32.
use native.Mathlib.Omega.{arith}
use Rattle.alphabet.specs.Alphabet.{altdude}
use Rattle.alphabet.proofs.Inverse.{value-le, altdude-alphabet}
use Rattle.alphabet.proofs.brace_value.Goals as goal

pub overflow_add-result : goal.overflow_add-result
overflow_add-result c =
    record { fits = omega (arith, c.altdude_value-value.ensures, value-le altdude altdude-alphabet c.args.byte) }
