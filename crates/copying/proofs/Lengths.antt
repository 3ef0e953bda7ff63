-- How many symbols quintets and a change are.
use Prim.Native.Nat.{ℕ, zero, suc, ◌+◌}
use mathlib.Core.Path.{◌≡◌}
use mathlib.Core.Bool.{Bool, true, false}
use mathlib.Core.List.{List}
use lib.ListN.{length}
use native.Mathlib.Omega.{arith}
use Rattle.basis.specs.Tests.{pick}
use Rattle.copying.specs.Symbols.{quintets}
use Rattle.copying.specs.Modes.{switch_if}

pub length-quintets : (n x : ℕ) (rest : List ℕ) → length (quintets n x rest) ≡ n + length rest
unfolding quintets
length-quintets zero x rest = omega arith
length-quintets (suc n) x rest = omega (arith, length-quintets n x rest)

pub length-switch : (b : Bool) (rest : List ℕ) → length (switch_if b rest) ≡ pick {A = ℕ} b 1 0 + length rest
unfolding switch_if
length-switch true rest = omega arith
length-switch false rest = omega arith
