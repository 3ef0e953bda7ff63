-- `moves::short_bytes` meets its contract: the bytes counted and those of the entries left are all.
use Prim.Native.Nat.{◌-◌}
use mathlib.Core.Path.{◌≡◌, refl, ap}
use native.Mathlib.Omega.{arith}
use lib.ListN.{length}
use Rattle.nametable_short.proofs.MoveLaws.{short_none, short-turn}
use Rattle.nametable_short.proofs.moves.short_bytes.Goals as goal

pub loop-i-init : goal.loop-i-init
loop-i-init c = let n = c.args.count in let z : n - 0 ≡ n = omega arith in (omega arith, rw z)

pub overflow_mul-i : goal.overflow_mul-i
overflow_mul-i c = omega arith

pub overflow_add-i : goal.overflow_add-i
overflow_add-i c = omega arith

pub overflow_add-i-in-loop-i : goal.overflow_add-i-in-loop-i
overflow_add-i-in-loop-i c = omega arith

pub bounds-table-i : goal.bounds-table-i
bounds-table-i c = omega arith

pub overflow_add-bytes-in-loop-i : goal.overflow_add-bytes-in-loop-i
overflow_add-bytes-in-loop-i c = omega arith

pub loop-i-preserved : goal.loop-i-preserved
loop-i-preserved c =
    (omega arith, short-turn _ _ c.loop-i.i c.loop-i-test.true c.loop-i.bytes refl c.kind_for-kind.ensures c.room_of.ensures.0 c.loop-i.invariant.1)

pub returns : goal.returns
returns c =
    let z = short_none c.args.table.now c.args.count c.loop-i.i c.loop-i-test.false in omega (arith, ap length z, c.loop-i.invariant.1)
