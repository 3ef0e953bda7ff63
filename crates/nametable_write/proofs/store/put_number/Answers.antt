-- `store::put_number` meets its contract: two stores, the second at the next index.
use Prim.Native.Nat.{◌/◌, ◌%◌}
use mathlib.Core.Path.{◌≡◌}
use native.Mathlib.Numerals.{add-one}
use native.Mathlib.Omega.{arith}
use lib.ListN.{length-set}
use Rattle.nametable_write.specs.Writing.{number_bytes}
use Rattle.nametable_write.proofs.store.put_number.Goals as goal

pub bounds-bytes-i-2 : goal.bounds-bytes-i-2
bounds-bytes-i-2 c = simp length-set (omega arith)

pub returns : goal.returns
unfolding number_bytes
returns c = let e : c.args.number / 256 % 256 ≡ c.args.number / 256 = omega arith in rw (add-one c.args.i, c.to_be_bytes.ensures, e)
