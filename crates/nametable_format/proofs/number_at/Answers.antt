-- `number_at` meets its contract: a byte past the end is 0, and two bytes together are below 65536.
use Prim.Native.Nat.{ℕ, suc, ◌+◌, ◌*◌, ◌≤◌, ◌<◌}
use mathlib.Core.Path.{◌≡◌}
use mathlib.Core.List.{List}
use lib.ListN.{length}
use native.Mathlib.Numerals.{add-one}
use native.Mathlib.Omega.{arith}
use Rattle.basis.specs.Rows.{at}
use Rattle.basis.proofs.Lists.{at-past}
use Rattle.nametable_format.specs.Format.{number_at}
use Rattle.nametable_format.proofs.number_at.Goals as goal

-- no byte is there, or only the high one
none-there : (bytes : List ℕ) (i : ℕ) → length bytes ≤ i → (0 ≡ number_at bytes i) × (0 < 65536)
unfolding number_at
none-there bytes i past = (omega (arith, at-past bytes i past, at-past bytes (suc i) (omega arith)), omega arith)

one-there : (bytes : List ℕ) (i : ℕ) → length bytes ≤ i + 1 → at bytes i < 256 → (at bytes i * 256 ≡ number_at bytes i) × (at bytes i * 256 < 65536)
unfolding number_at
one-there bytes i past small = (omega (arith, at-past bytes (suc i) (omega arith)), omega arith)

pub returns-then-bytes-i : goal.returns-then-bytes-i
unfolding number_at
returns-then-bytes-i c = none-there c.args.bytes.now c.args.i c.if-bytes-i.true

pub overflow_cast-high : goal.overflow_cast-high
unfolding number_at
overflow_cast-high c = omega (arith, c.type_inv.bytes c.args.i)

pub overflow_mul-high : goal.overflow_mul-high
unfolding number_at
overflow_mul-high c = omega (arith, c.type_inv.bytes c.args.i)

pub returns-then-bytes-i-2 : goal.returns-then-bytes-i-2
unfolding number_at
returns-then-bytes-i-2 c =
    let a = c.args in one-there a.bytes.now a.i c.if-bytes-i-2.true (omega (arith, c.type_inv.bytes c.args.i))

pub overflow_cast-result : goal.overflow_cast-result
unfolding number_at
overflow_cast-result c = omega (arith, c.type_inv.bytes (c.args.i + 1))

pub overflow_add-result-2 : goal.overflow_add-result-2
unfolding number_at
overflow_add-result-2 c = omega (arith, c.type_inv.bytes c.args.i, c.type_inv.bytes (c.args.i + 1))

pub returns : goal.returns
unfolding number_at
returns c = (rw add-one, omega (arith, c.type_inv.bytes c.args.i, c.type_inv.bytes (c.args.i + 1)))
